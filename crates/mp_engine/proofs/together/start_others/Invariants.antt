use Rattle.std.proofs.Common.{◌≡◌, ◌+◌, ◌<◌, length, map}
use Rattle.mp_engine.specs.PartsOf.{AreOthers}
use Rattle.mp_engine.proofs.together.start_others.Given as goal

-- the threads of the last parts run
abbrev pub invariant-loop-part : goal.invariant-loop-part
invariant-loop-part g l = record {
  some : 0 < l.part;
  lines : l.lines ≡ l.part;
  count : length l.others.items + l.part ≡ l.first.division.now.parts;
  others : AreOthers l.first.netlist.now l.first.division.now l.first.keeps (map (λ other. other.promise) l.others.items);
}

abbrev pub decreases-loop-part : goal.decreases-loop-part
decreases-loop-part g l = l.part
