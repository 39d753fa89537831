-- The run of a netlist that is picked from another, and what of a run stays outside a region.
use Rattle.std.specs.Prelude.{◌≡◌, ℕ, false}
use Rattle.mp_netlist.specs.Circuit.{Circuit, IsCircuit, wire_at}
use Rattle.mp_model.specs.Waves.{slot_wave}
use Rattle.mp_partition.specs.runs.Runs.{end_memory, checkpoint}
use Rattle.mp_depend.specs.work.Revisions.{IsRevision}
use Rattle.mp_near.specs.laws.Picking.{Picking, has_wire, has_module, IsPicking, HasPicked, HasLevelsOf}
use Rattle.mp_near.specs.laws.Regions.{IsRegion, OthersStay}

-- s has the waves that n has, the last states and those before checkpoints
pub record HasRunOf (n s : Circuit) (pick : Picking) : Type 0 where
  pub waves : (k : ℕ) → slot_wave s k (wire_at s k) ≡ slot_wave n (pick.wire_of k) (wire_at n (pick.wire_of k))
  pub ends : (k : ℕ) → end_memory s k ≡ end_memory n (pick.module_of k)
  pub checkpoints : (k c : ℕ) → checkpoint s k c ≡ checkpoint n (pick.module_of k) c

-- so it is where s has the levels and states of n below the horizon, wherever the levels of given wires come from
abbrev pub PickedHaveRuns : Type 0
PickedHaveRuns = (n s : Circuit) (pick : Picking) (levels : ℕ → ℕ → ℕ) → IsCircuit n → IsPicking n pick → HasPicked n s pick levels →
    HasLevelsOf n s pick n.horizon → HasRunOf n s pick

-- what isn't picked has the waves that it has in the old netlist, the last states and those before checkpoints
pub record OthersKeepRun (old new : Circuit) (pick : Picking) : Type 0 where
  pub waves : (w : ℕ) → has_wire pick w ≡ false → slot_wave new w (wire_at new w) ≡ slot_wave old w (wire_at old w)
  pub ends : (m : ℕ) → has_module pick m ≡ false → end_memory new m ≡ end_memory old m
  pub checkpoints : (m c : ℕ) → has_module pick m ≡ false → checkpoint new m c ≡ checkpoint old m c

-- so it is where it has the levels and states of the old netlist below the horizon
abbrev pub OthersHaveRuns : Type 0
OthersHaveRuns = (old new : Circuit) (pick : Picking) → IsCircuit old → IsCircuit new → IsRevision old new → IsRegion old new pick → OthersStay old new pick new.horizon →
    OthersKeepRun old new pick
