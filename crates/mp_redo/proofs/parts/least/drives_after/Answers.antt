use Rattle.std.proofs.Common.{List, sym, subst}
use Rattle.mp_records.specs.declared.ports.Output.{Output}
use Rattle.mp_redo.specs.parts.Drivers.{HasOutput}
use Rattle.mp_redo.proofs.lemmas.parts.DelayLemmas.{drives_after}
use Rattle.mp_redo.proofs.parts.least.drives_after.Goals as goal

pub returns-in-Some : goal.returns-in-Some
returns-in-Some c = λ yes.
    drives_after c.args.netlist.now c.args.id.0 c.args.delay c.in-Some.found.now (sym c.in-Some.ensures.value)
    (subst (λ (xs : List Output). HasOutput xs c.args.delay) c.as_slice.ensures (c.has_output.ensures yes))
