use Rattle.std.proofs.Common.{◌≡◌, All, List, subst}
use Rattle.mp_records.specs.declared.ports.Input.{Input}
use Rattle.mp_redo.specs.rerun.Resting.{HasRested}
use Rattle.mp_redo.proofs.rerun.rerun.Rerun.is_in_kept_state.Goals as goal

pub returns-clause-rested : goal.returns-clause-rested
returns-clause-rested c = λ rested rise.
    subst (λ (inputs : List Input). All (HasRested c.args.change.now.run.now c.args.block c.args.time) inputs) c.as_slice.ensures (c.have_rested.ensures rested)
