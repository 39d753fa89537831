-- A run with what the run of a part has of its wires and modules.
use Rattle.std.specs.Prelude.{◌≡◌, ℕ, List, None}
use Rattle.mp_records.specs.lists.Replaced.{AreReplaced}
use Rattle.mp_partition.specs.runs.Outcomes.{Outcome}

-- wire k of the part stands for the wire of number wires[k], and module k for that of number modules[k]; all else is as before
pub record HasReplaced (old : Outcome) (wires modules : List ℕ) (part new : Outcome) : Type 0 where
  pub horizon : new.horizon ≡ old.horizon
  pub waves : AreReplaced None old.waves wires part.waves new.waves
  pub ends : AreReplaced None old.ends modules part.ends new.ends
  pub kept : AreReplaced None old.kept modules part.kept new.kept
