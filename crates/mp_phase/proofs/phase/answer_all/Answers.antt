use Rattle.std.proofs.Common.{◌≡◌, ◌+◌, ◌<◌, ◌++◌, length, take, arith, sym, ap, ◌∙◌, subst, inl, inr, length-set, append_assoc}
use Rattle.std.proofs.lemmas.Bool.{cases_lt}
use Rattle.std.proofs.lemmas.List.{get_or-set_same, get_or-set_other}
use Rattle.std.specs.Prelude.{slice_index_or, slice_set, None}
use Rattle.mp_phase.specs.Lines.{tasks_of, all_asked}
use Rattle.mp_phase.specs.AnswerProtocols.{IsAnswerTo}
use Rattle.mp_phase.proofs.MailboxLemmas.{one_answered}
use Rattle.mp_phase.proofs.phase.answer_all.Goals as goal

pub loop-place-preserved : goal.loop-place-preserved
loop-place-preserved g c =
    let n = c.loop-place.place in
    let mailboxes = c.loop-place.mailboxes in
    let was = c.args.mailboxes.now in
    let mailbox = c.index-mailboxes-place.result in
    let new = c.answer-more.new.self in
    let within : n < length mailboxes = omega arith in
    let same : slice_index_or mailboxes n mailbox ≡ slice_index_or was n mailbox = c.loop-place.invariant.left n mailbox (omega arith) within in
    record {
      freed = λ k d below. elim (cases_lt k n) as (λ _. slice_index_or (slice_set mailboxes n new) k d ≡ None) [
        | inl before ↦ get_or-set_other mailboxes n k new d (λ e. omega arith) ∙ c.loop-place.invariant.freed k d before
        | inr not_before ↦ (let here : k ≡ n = omega arith in rw here (get_or-set_same mailboxes n new d within ∙ c.answer-more.ensures.free))
      ];
      left = λ k d from below. get_or-set_other mailboxes n k new d (λ e. omega arith) ∙ c.loop-place.invariant.left k d (omega arith) (omega (arith, length-set mailboxes n new));
      done = λ tasks own.
          let so_far = c.loop-place.invariant.done tasks own in
          let more = subst (λ l. IsAnswerTo g.T.Work.gives (tasks_of l) c.answer-more.result) same c.answer-more.ensures.done in
          let all : tasks ++ all_asked (take (n + 1) was) ≡ (tasks ++ all_asked (take n was)) ++ tasks_of (slice_index_or was n mailbox) =
          ap (λ xs. tasks ++ xs) (one_answered n was mailbox (omega arith)) ∙ sym (append_assoc tasks (all_asked (take n was)) (tasks_of (slice_index_or was n mailbox))) in
          rw all (c.join-all.ensures (tasks ++ all_asked (take n was)) (tasks_of (slice_index_or was n mailbox)) so_far more);
    }
