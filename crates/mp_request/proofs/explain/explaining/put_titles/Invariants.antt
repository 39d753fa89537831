use Rattle.std.proofs.Common.{Ok, take}
use Rattle.std.specs.List.{flat_map}
use Rattle.mp_streams.specs.Outgoing.{Writes}
use Rattle.mp_request.specs.explain.Explanations.{title_line}
use Rattle.mp_request.proofs.explain.explaining.put_titles.Given as goal

-- the lines so far are written
abbrev pub invariant-loop-entry : goal.invariant-loop-entry
invariant-loop-entry g l = Writes {T = Unit {0}} (Ok tt) l.fn.out l.out (flat_map title_line (take l.entry-index l.guide))
