use Rattle.std.proofs.Common.{sym, ◌∙◌}
use Rattle.mp_near.proofs.lemmas.reach.MarkLemmas.{reads_none, none_read}
use Rattle.mp_near.proofs.reach.ports.reads_marked.Goals as goal

pub returns-in-Some : goal.returns-in-Some
returns-in-Some c = λ not. reads_none c.args.netlist.now c.args.id.0 c.in-Some.found.now c.as_slice.result.now c.args.marks.now (sym c.in-Some.ensures.value) c.as_slice.ensures (sym c.is_any_marked.ensures ∙ not)

pub returns-in-None : goal.returns-in-None
returns-in-None c = λ not w reads. absurd (none_read c.args.netlist.now c.args.id.0 (sym c.in-None.ensures.value) w reads)
