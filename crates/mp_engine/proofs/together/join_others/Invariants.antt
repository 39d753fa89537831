use Rattle.std.proofs.Common.{◌≡◌, ◌+◌, Bool, length, map}
use Rattle.mp_netlist.specs.Circuit.{Circuit}
use Rattle.mp_partition.specs.declared.regions.division.Division.{Division}
use Rattle.mp_partition.specs.regions.Regions.{region}
use Rattle.mp_partition.specs.regions.Divisions.{heard_by}
use Rattle.mp_partition.specs.merging.PartRuns.{IsPartRun}
use Rattle.mp_engine.specs.PartsOf.{AreOthers}
use Rattle.mp_engine.proofs.JoinLemmas.{AreJoined}
use Rattle.mp_engine.proofs.together.join_others.Given as goal

-- the runs of the first parts are there
abbrev pub invariant-loop-other : goal.invariant-loop-other
invariant-loop-other g l =
    (n : Circuit) (division : Division) (keeps : Bool) → length (map (λ other. other.promise) l.fn.others.items) + 1 ≡ division.parts → IsPartRun (region n division.homes.items 0 (heard_by division.heard.items 0)) keeps l.fn.first
    → AreOthers n division keeps (map (λ other. other.promise) l.fn.others.items) → AreJoined n division keeps (map (λ other. other.promise) l.others.items) l.runs.items

abbrev pub decreases-loop-other : goal.decreases-loop-other
decreases-loop-other g l = length l.others.items
