-- What mailboxes were asked for, and lists of them.
use Rattle.std.proofs.Common.{◌≡◌, ℕ, ◌+◌, ◌<◌, List, [], ◌∷◌, ◌++◌, length, take, drop, set, slice_index_or, Option, Some, refl, sym, ap, ◌∙◌, add-one, append_assoc, append-nil}
use Rattle.std.proofs.Math.Seq.{take-suc}
use Rattle.std.proofs.lemmas.List.{drop-set, take-append-drop}
use Rattle.mp_phase.specs.Lines.{tasks_of, all_asked}

module _ {T : Type 0} where
  all_asked-append : (front back : List (Option (List T))) → all_asked (front ++ back) ≡ all_asked front ++ all_asked back
  all_asked-append [] back = refl
  all_asked-append (mailbox ∷ front) back = ap (λ tasks. tasks_of mailbox ++ tasks) (all_asked-append front back) ∙ sym (append_assoc (tasks_of mailbox) (all_asked front) (all_asked back))

  -- the mailbox at a place is asked for the last of the tasks that are left
  pub one_asked : (p at : ℕ) (mailboxes : List (Option (List T))) (new : Option (List T)) (tasks rest front part : List T) → p < length mailboxes → new ≡ Some part → front ≡ take at rest → part ≡ drop at rest →
      rest ++ all_asked (drop (p + 1) mailboxes) ≡ tasks → front ++ all_asked (drop p (set mailboxes p new)) ≡ tasks
  one_asked p at mailboxes new tasks rest front part within now first last before =
      let cut : front ++ part ≡ rest = rw (first, last) (take-append-drop at rest) in
      rw (drop-set mailboxes p new within, now) (sym (append_assoc front part (all_asked (drop (p + 1) mailboxes))) ∙ ap (λ xs. xs ++ all_asked (drop (p + 1) mailboxes)) cut ∙ before)

  -- one more mailbox has answered
  pub one_answered : (p : ℕ) (mailboxes : List (Option (List T))) (d : Option (List T)) → p < length mailboxes → all_asked (take (p + 1) mailboxes) ≡ all_asked (take p mailboxes) ++ tasks_of (slice_index_or mailboxes p d)
  one_answered p mailboxes d within =
      rw (add-one, take-suc mailboxes p d within) (all_asked-append (take p mailboxes) (slice_index_or mailboxes p d ∷ []) ∙ ap (λ xs. all_asked (take p mailboxes) ++ xs) (append-nil (tasks_of (slice_index_or mailboxes p d))))
