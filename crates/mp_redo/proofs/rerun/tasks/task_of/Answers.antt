use Rattle.std.proofs.Common.{◌≡◌, ◌-◌, ◌<◌, Some, map, ap, sym, subst, ◌∙◌, arith}
use Rattle.mp_wave.specs.Waveform.{level_of}
use Rattle.mp_records.specs.declared.ports.Input.{Input}
use Rattle.mp_records.specs.declared.module_record.ModuleRecord.{ModuleRecord}
use Rattle.mp_model.proofs.BuiltLemmas.{width_of_module}
use Rattle.mp_partition.specs.runs.Checkpoints.{state_before}
use Rattle.mp_model.specs.response.Pieces.{levels_at}
use Rattle.mp_depend.specs.work.Revisions.{IsKept}
use Rattle.mp_depend.specs.work.Work.{block_of, IsEntry}
use Rattle.mp_depend.proofs.lemmas.work.StayLemmas.{built_same}
use Rattle.mp_active.specs.compare.Comparing.{old_wave}
use Rattle.mp_redo.proofs.lemmas.rerun.OldStateLemmas.{block_state, answered_state}
use Rattle.mp_redo.proofs.rerun.tasks.task_of.Goals as goal

pub built-requires-clause-width : goal.built-requires-clause-width
built-requires-clause-width c = width_of_module c.args.change.now.new.now c.requires.change.form c.in-Some.found.now c.in-Some.ensures.form

pub returns-clause-works : goal.returns-clause-works
returns-clause-works c =
    let change = c.args.change.now in
    let new = change.new.now in
    let time = c.args.time in
    let here : c.block_of-block.result ≡ block_of new.horizon time = c.block_of-block.ensures ∙ ap (λ h. block_of h time) c.horizon.ensures.value in
    subst (λ b. IsEntry change.old.now new c.args.id.0 b c.args.window_end) (sym here) c.requires.works

pub returns-clause-is : goal.returns-clause-is
returns-clause-is c = λ state done.
    let change = c.args.change.now in
    let old = change.old.now in
    let new = change.new.now in
    let run = change.run.now in
    let is = c.requires.change in
    let id = c.args.id.0 in
    let time = c.args.time in
    let found : ModuleRecord = c.in-Some.found.now in
    let kept = c.requires.kept in
    let known : Some kept.0 ≡ Some found = sym kept.1.after ∙ sym c.in-Some.ensures.value in
    let same : kept.0 ≡ found = cc in
    let both : IsKept old new id found = subst (IsKept old new id) same kept.1 in
    let b = c.block_of-block.result in
    let here : c.block_of-block.result ≡ block_of new.horizon time = c.block_of-block.ensures ∙ ap (λ h. block_of h time) c.horizon.ensures.value in
    let block : c.block_of-block.result ≡ block_of old.horizon time = here ∙ ap (λ h. block_of h time) is.revision.horizon in
    let below = c.requires.below in
    let within = c.requires.within in
    let alike = is.revision.horizon in
    let low : c.args.time < old.horizon = omega (arith, below, alike) in
    let rise : c.block_of-block.result < c.args.time = subst (λ k. k < c.args.time) (sym here) within in
    let comes = done.comes in
    let come : state.memory ≡ state_before old id found time = comes.2
    ∙ answered_state old is.old_form run is.run id b time found c.built.result (levels_at c.in_ok-inputs.inputs.items) c.old_state.result comes.0 both.before
    (c.built.ensures ∙ sym (built_same old new is.old_form is.form is.revision id found both)) rise (omega (arith, low))
    (c.old_state.ensures ∙ block_state old is.old_form run is.run id b time found both.before block low)
    (λ t from before. c.in_ok-inputs.ensures.levels t from before ∙ ap (map (λ (i : Input). level_of (old_wave run i.wire.0) (t - i.delay))) c.as_slice.ensures)
    comes.1 in
    record {
      entry_is = record { own = done.entry_is.own; begins = done.entry_is.begins ∙ here; ends = done.entry_is.ends };
      old_state = λ r at.
          let named : Some found ≡ Some r = sym both.before ∙ at in
          let one : found ≡ r = cc in
          subst (λ (s : ModuleRecord). state.memory ≡ state_before old id s time) one come;
    }
