use Rattle.std.proofs.Common.{◌≡◌, ◌<◌, ◌++◌, Some}
use Rattle.std.specs.List.{flat_map}
use Rattle.mp_questions.specs.causes.Links.{links_to}
use Rattle.mp_questions.specs.causes.Shares.{time_of}
use Rattle.mp_questions.proofs.lemmas.causes.ChainLemmas.{HasTime, rest}
use Rattle.mp_questions.proofs.causes.cause_link.links_from.Given as goal

-- the links so far, and those of the steps that come yet, are all
abbrev pub invariant-loop-next : goal.invariant-loop-next
invariant-loop-next l = record {
  levels : l.tracer.levels ≡ l.fn.tracer.levels;
  from : HasTime l.next;
  within : time_of l.next < l.fn.tracer.levels.netlist.now.horizon;
  all : l.links.items ++ flat_map (links_to l.fn.tracer.levels.netlist.now) (rest l.fn.tracer.levels.netlist.now l.next)
      ≡ flat_map (links_to l.fn.tracer.levels.netlist.now) (rest l.fn.tracer.levels.netlist.now (Some l.fn.last));
}

abbrev pub decreases-loop-next : goal.decreases-loop-next
decreases-loop-next l = time_of l.next
