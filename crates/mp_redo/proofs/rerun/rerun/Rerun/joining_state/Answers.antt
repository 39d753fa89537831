use Rattle.std.proofs.Common.{◌≡◌, ℕ, ◌<◌, ◌≤◌, Some, ap, sym, subst, ◌∙◌, arith, inl, inr}
use Rattle.std.proofs.lemmas.Bool.{cases_lt}
use Rattle.std.proofs.lemmas.Result.{IfOk-weaker}
use Rattle.mp_partition.specs.runs.Checkpoints.{state_before}
use Rattle.mp_depend.specs.declared.work.work_entry.WorkEntry.{WorkEntry}
use Rattle.mp_depend.specs.work.Work.{block_of, IsEntry}
use Rattle.mp_records.specs.declared.module_record.ModuleRecord.{ModuleRecord}
use Rattle.mp_redo.proofs.lemmas.rerun.EnteringLemmas.{task_allowed}
use Rattle.mp_redo.proofs.lemmas.rerun.OldStateLemmas.{block_state}
use Rattle.mp_redo.proofs.lemmas.rerun.RestedLemmas.{rested_state}
use Rattle.mp_redo.proofs.rerun.rerun.Rerun.joining_state.Goals as goal

pub is_in_kept_state-requires : goal.is_in_kept_state-requires
is_in_kept_state-requires g c = let block = c.block_of-block.ensures in omega (arith, block)

pub of_kept-requires : goal.of_kept-requires
of_kept-requires g c =
    let change = c.args.change.now in
    let new = change.new.now in
    let here : c.block_of-block.result ≡ block_of new.horizon c.args.time = c.block_of-block.ensures ∙ ap (λ h. block_of h c.args.time) c.horizon.ensures.value in
    (change.old.now, new, c.requires.allowed, subst (λ b. IsEntry change.old.now new c.args.id.0 b c.args.self.now.window_end) (sym here) c.requires.works)

pub returns-then-is_in_kept_state : goal.returns-then-is_in_kept_state
returns-then-is_in_kept_state g c =
    let change = c.args.change.now in
    let old = change.old.now in
    let new = change.new.now in
    let run = change.run.now in
    let is = c.requires.change in
    let id = c.args.id.0 in
    let found = c.args.found.now in
    let kept = c.requires.kept in
    let b = c.block_of-block.result in
    let time = c.args.time in
    let here : c.block_of-block.result ≡ block_of new.horizon time = c.block_of-block.ensures ∙ ap (λ h. block_of h time) c.horizon.ensures.value in
    let block : c.block_of-block.result ≡ block_of old.horizon time = here ∙ ap (λ h. block_of h time) is.revision.horizon in
    let below = c.requires.below in
    let same = is.revision.horizon in
    let low : c.args.time < old.horizon = omega (arith, below, same) in
    let within : c.block_of-block.result ≤ c.args.time = omega (arith, block) in
    let in_state = c.if-is_in_kept_state.true in
    let entry = c.of_kept.ensures.entry in
    let begins = c.of_kept.ensures.memory ∙ block_state old is.old_form run is.run id b time found kept.before block low in
    let come : c.of_kept.result.memory ≡ state_before old id found time = elim (cases_lt b time) as (λ _. c.of_kept.result.memory ≡ state_before old id found time) [
      | inl rise ↦ begins ∙ rested_state old is.old_form run is.run id b time found kept.before (c.is_in_kept_state.ensures.some in_state rise) within low (c.is_in_kept_state.ensures.rested in_state rise)
      | inr past ↦ begins ∙ ap (state_before old id found) (omega (arith, past, within))
    ] in
    record {
      entry_is = record { own = ap (λ (e : WorkEntry). e.«module») entry; begins = ap (λ (e : WorkEntry). e.from) entry ∙ here; ends = ap (λ (e : WorkEntry). e.to) entry };
      old_state = λ r at.
          let named : Some found ≡ Some r = sym kept.before ∙ at in
          let one : found ≡ r = cc in
          subst (λ (s : ModuleRecord). c.of_kept.result.memory ≡ state_before old id s time) one come;
    }

pub task_of-requires-clause-kept : goal.task_of-requires-clause-kept
task_of-requires-clause-kept g c = (c.args.found.now, c.requires.kept)

pub task_of-requires-clause-within : goal.task_of-requires-clause-within
task_of-requires-clause-within g c =
    let new = c.args.change.now.new.now in
    let here : c.block_of-block.result ≡ block_of new.horizon c.args.time = c.block_of-block.ensures ∙ ap (λ h. block_of h c.args.time) c.horizon.ensures.value in
    subst (λ (b : ℕ). b < c.args.time) here (c.is_in_kept_state.ensures.below c.if-is_in_kept_state.false)

pub work-requires : goal.work-requires
work-requires g c =
    let change = c.args.change.now in
    record { allowed = task_allowed change.old.now change.new.now (g.G.Gate.may c.args.context.now.gate.now) c.requires.allowed c.in_ok-join.join c.in_ok-join.ensures.works }

pub returns : goal.returns
returns g c = IfOk-weaker c.work.result _ _ (λ state done. c.in_ok-join.ensures.is state done) c.work.ensures.done
