-- A netlist that is picked from another: some of its wires and modules, numbered anew.
use Rattle.std.specs.Prelude.{◌≡◌, ℕ, ◌==◌, ◌<◌, ◌≤◌, ◌^◌, Bool, true, false, [], Some, IsSome, map, length, option_map, if◌then◌else◌}
use Rattle.mp_records.specs.declared.ports.Input.{Input}
use Rattle.mp_records.specs.declared.ports.Output.{Output}
use Rattle.mp_records.specs.declared.ids.WireId.{WireId}
use Rattle.mp_records.specs.declared.module_record.ModuleRecord.{ModuleRecord}
use Rattle.mp_netlist.specs.Circuit.{Circuit, IsCircuit, Drives, wire_at, module_at, width_of}
use Rattle.mp_netlist.specs.Limits.{wire_limit, module_limit}
use Rattle.mp_model.specs.Waves.{level, state}
use Rattle.mp_partition.specs.regions.Readers.{Reads}
use Rattle.mp_partition.specs.regions.Regions.{set_on_slot}

-- which wire and which module each new number stands for; the new number of each wire and module that is picked; and whether the levels of a
-- picked wire, by its new number, come from outside
pub record Picking : Type 0 where
  pub wire_of : ℕ → ℕ
  pub module_of : ℕ → ℕ
  pub place_of : ℕ → ℕ
  pub seat_of : ℕ → ℕ
  pub given : ℕ → Bool

-- the wire is picked
abbrev pub has_wire : Picking → ℕ → Bool
has_wire pick w = pick.wire_of (pick.place_of w) == w

-- the module is picked
abbrev pub has_module : Picking → ℕ → Bool
has_module pick m = pick.module_of (pick.seat_of m) == m

-- a module's record with other numbers of wires
abbrev pub placed_input : (ℕ → ℕ) → Input → Input
placed_input place i = record { wire = record { 0 = place i.wire.0 }; delay = i.delay }

abbrev pub placed_wire : (ℕ → ℕ) → WireId → WireId
placed_wire place w = record { 0 = place w.0 }

abbrev pub placed_output : (ℕ → ℕ) → Output → Output
placed_output place o = record { wire = option_map (placed_wire place) o.wire; delay = o.delay }

abbrev pub placed : (ℕ → ℕ) → ModuleRecord → ModuleRecord
placed place r = record r { inputs = map (placed_input place) r.inputs; outputs = map (placed_output place) r.outputs }

-- s has the wires and modules of n that are picked, and no bundles; on each given wire these levels are set from outside
pub record HasPicked (n s : Circuit) (pick : Picking) (levels : ℕ → ℕ → ℕ) : Type 0 where
  pub format : s.format ≡ n.format
  pub horizon : s.horizon ≡ n.horizon
  pub bundles : s.bundles ≡ []
  pub wires : (k : ℕ) → wire_at s k ≡ (if pick.given k then set_on_slot n.horizon (levels (pick.wire_of k)) (wire_at n (pick.wire_of k)) else wire_at n (pick.wire_of k))
  pub modules : (k : ℕ) → module_at s k ≡ option_map (placed pick.place_of) (module_at n (pick.module_of k))

-- the wires that a picked module reads or drives are picked; no wire and no module is picked twice; a picked wire that a module drives is given
-- exactly if this module isn't picked
pub record IsPicking (n : Circuit) (pick : Picking) : Type 0 where
  pub driven : (m p w : ℕ) → has_module pick m ≡ true → Drives n m p w → has_wire pick w ≡ true
  pub read : (m w : ℕ) → has_module pick m ≡ true → Reads n m w → has_wire pick w ≡ true
  pub places : (k : ℕ) → IsSome (wire_at n (pick.wire_of k)) → pick.place_of (pick.wire_of k) ≡ k
  pub seats : (k : ℕ) → IsSome (module_at n (pick.module_of k)) → pick.seat_of (pick.module_of k) ≡ k
  pub given_driven : (k : ℕ) → pick.given k ≡ true → (m : ℕ) × (p : ℕ) × Drives n m p (pick.wire_of k) × (has_module pick m ≡ false)
  pub own_driven : (k m p : ℕ) → pick.given k ≡ false → Drives n m p (pick.wire_of k) → has_module pick m ≡ true

-- the netlist has no more slots than its format allows
pub record HasRoom (n : Circuit) : Type 0 where
  pub wires : length n.wires ≤ wire_limit n.format
  pub modules : length n.modules ≤ module_limit n.format

-- no level of a given wire is wider than the wire
abbrev pub GivenFit : Circuit → Picking → (ℕ → ℕ → ℕ) → Type 0
GivenFit n pick levels = (k t : ℕ) → pick.given k ≡ true → levels (pick.wire_of k) t < 2 ^ width_of (wire_at n (pick.wire_of k))

-- then s is a netlist
abbrev pub PickedAreCircuits : Type 0
PickedAreCircuits = (n s : Circuit) (pick : Picking) (levels : ℕ → ℕ → ℕ) → IsCircuit n → IsPicking n pick → HasPicked n s pick levels → GivenFit n pick levels →
    HasRoom s → IsCircuit s

-- below a time s has the levels and states that n has
pub record HasLevelsOf (n s : Circuit) (pick : Picking) (h : ℕ) : Type 0 where
  pub levels : (k t : ℕ) → t < h → level s k t ≡ level n (pick.wire_of k) t
  pub states : (k t : ℕ) (r : ModuleRecord) → t < h → module_at n (pick.module_of k) ≡ Some r → state s k t ≡ state n (pick.module_of k) t

-- so it is below the horizon, where the levels of given wires are those of n
abbrev pub PickedHaveLevels : Type 0
PickedHaveLevels = (n s : Circuit) (pick : Picking) → IsCircuit n → IsCircuit s → IsPicking n pick → HasPicked n s pick (level n) → HasLevelsOf n s pick n.horizon
