use Rattle.std.proofs.Common.{List, subst}
use Rattle.std.specs.List.{Contains}
use Rattle.mp_records.specs.declared.ids.ModuleId.{ModuleId}
use Rattle.mp_partition.proofs.lemmas.runs.MarkLemmas.{none_in}
use Rattle.mp_redo.proofs.rerun.rerun.Rerun.is_settled.Goals as goal

pub returns-then-is_multiple_of : goal.returns-then-is_multiple_of
returns-then-is_multiple_of c settled =
    let at = c.requires.before.1 in
    let alone = c.is_left_alone.ensures in
    record {
      nobody = λ m stands on.
          none_in (let id : ModuleId = record { 0 = m } in id)
          (subst (λ (xs : List ModuleId). Contains xs (record { 0 = m })) (alone.nobody c.if-is_left_alone.true) (at.recorder.listed m stands on));
      stimuli = alone.stimuli c.if-is_left_alone.true;
      pending_outputs = alone.pending_outputs c.if-is_left_alone.true;
      alike = c.are_numbers_settled.ensures settled;
    }
