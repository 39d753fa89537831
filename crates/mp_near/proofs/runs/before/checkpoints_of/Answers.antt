use Rattle.std.proofs.Common.{sym, subst}
use Rattle.mp_depend.specs.recording.Endings.{HasCheckpoints}
use Rattle.mp_redo.proofs.lemmas.parts.OkLemmas.{on_ok}
use Rattle.mp_near.proofs.lemmas.runs.RunLemmas.{states_before, none_before}
use Rattle.mp_near.proofs.runs.before.checkpoints_of.Goals as goal

pub returns-in-Some : goal.returns-in-Some
returns-in-Some c =
    on_ok c.shared_checkpoints.result _ _ (λ kept is. subst (HasCheckpoints c.args.small.now.was c.args.number) (sym is)
    (states_before c.args.change.now c.requires.change c.args.small.now c.requires.small c.args.number c.index.result.now c.in-Some.field-0.now c.requires.low c.index.ensures (sym c.in-Some.ensures.value))) c.shared_checkpoints.ensures

pub returns-in-None : goal.returns-in-None
returns-in-None c =
    none_before c.args.change.now c.requires.change c.args.small.now c.requires.small c.args.number c.index.result.now c.requires.low c.index.ensures (sym c.in-None.ensures.value)
