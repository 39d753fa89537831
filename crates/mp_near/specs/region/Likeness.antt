-- What a small netlist has of what was picked for it.
use Rattle.std.specs.Prelude.{◌≡◌, ℕ, ◌<◌, ◌≤◌, Bool, Option, Some, None, option_map, length, slice_index_or, if◌then◌else◌}
use Rattle.mp_wave.specs.Waveform.{Waveform}
use Rattle.mp_records.specs.declared.wire_record.WireRecord.{WireRecord}
use Rattle.mp_netlist.specs.Circuit.{Circuit, wire_at, module_at}
use Rattle.mp_partition.specs.runs.Marks.{is_marked}
use Rattle.mp_partition.specs.runs.Outcomes.{Outcome, wave_of}
use Rattle.mp_near.specs.laws.Picking.{placed}
use Rattle.mp_near.specs.reach.Numbers.{place_at}
use Rattle.mp_near.specs.declared.region.picked.Picked.{Picked}

-- the small netlist has the format and the horizon, and no bundles
pub record HasFrame (n small : Circuit) : Type 0 where
  pub format : small.format ≡ n.format
  pub horizon : small.horizon ≡ n.horizon
  pub bundles : length small.bundles ≡ 0

-- what stands in a wire's slot, with the changes of a wave as its stimulus; nothing where there is no wave
abbrev pub set_by : Option Waveform → Option WireRecord → Option WireRecord
set_by wave None = None
set_by None (Some r) = None
set_by (Some wave) (Some r) = Some (record r { stimulus = Some wave.changes })

-- what stands in the slot of a wire, with its wave in a run as the stimulus where it is given
abbrev pub picked_wire : Outcome → Circuit → ℕ → Bool → Option WireRecord
picked_wire run n w given = if given then set_by (wave_of run w) (wire_at n w) else wire_at n w

-- so are the first so many wires of the small netlist
pub record AreWiresLike (run : Outcome) (n : Circuit) (picked : Picked) (small : Circuit) (count : ℕ) : Type 0 where
  pub few : length small.wires ≤ length picked.wires.numbers.items
  pub each : (k d : ℕ) → k < count → wire_at small k ≡ picked_wire run n (slice_index_or picked.wires.numbers.items k d) (is_marked picked.given.items k)

-- the first so many modules are those that are picked, with their wires numbered anew
pub record AreModulesLike (n : Circuit) (picked : Picked) (small : Circuit) (count : ℕ) : Type 0 where
  pub few : length small.modules ≤ length picked.modules.numbers.items
  pub each : (k d : ℕ) → k < count → module_at small k ≡ option_map (placed (place_at picked.wires.places.items)) (module_at n (slice_index_or picked.modules.numbers.items k d))
