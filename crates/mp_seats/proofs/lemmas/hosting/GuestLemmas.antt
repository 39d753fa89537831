-- What becomes of a designer's edit, at the seat.
use Rattle.std.proofs.Common.{◌≡◌, ◌+◌, ◌-◌, ◌^◌, min, ℕ, true, Ok, Err, refl, ap, ◌∙◌}
use mathlib.Core.List.{IsPrefix}
use Rattle.mp_records.specs.declared.edit.Edit.{Edit}
use Rattle.mp_records.specs.declared.edit_error.EditError.{EditError}
use Rattle.mp_version.specs.Extending.{Extends}
use Rattle.mp_desk.specs.Holders.{RefusedAfter}
use Rattle.mp_meeting.specs.Sittings.{DesignerTally, with_seen, IsAccepted}
use Rattle.mp_seats.specs.Steps.{Submits, with_refusal}
use Rattle.mp_seats.specs.declared.refusal.Refusal.TheVariants as refusals
use Rattle.mp_seats.specs.hosting.Guests.{sitter}

-- an edit that is accepted is counted at its place
pub is_accepted : (old new : DesignerTally) (edit : Edit) (n : ℕ) → IsAccepted old new edit → n ≡ new.told → Submits true (Ok n) (sitter old) (sitter new) edit
is_accepted old new edit n is same = (refl, is.0, is.1, is.2, is.3, is.4, ap sitter is.5, same ∙ ap (λ (s : DesignerTally). s.told) is.5)

-- an edit that is refused changes nothing but what was seen
pub is_refused : (old new : DesignerTally) (edit : Edit) (error : EditError) → RefusedAfter old.seen new.seen edit error → new ≡ with_seen old new.seen new.signed new.reads → Extends new.seen old.seen
    → IsPrefix old.signed new.signed → Submits true (Err (refusals.Refused error)) (sitter old) (sitter new) edit
is_refused old new edit error refused same extends begins = (refl, refused, ap sitter same, extends, begins)

-- an edit that can't be kept changes nothing but what was seen
pub is_not_kept : (old new : DesignerTally) (edit : Edit) → new ≡ with_seen old new.seen new.signed new.reads → Extends new.seen old.seen → IsPrefix old.signed new.signed
    → Submits true (Err refusals.NotKept) (sitter old) (sitter new) edit
is_not_kept old new edit same extends begins = (refl, ap sitter same, extends, begins)

-- a line that is refused or not read is counted
pub is_counted : (old new : DesignerTally) → new ≡ record old { refused = min (old.refused + 1) (2 ^ 64 - 1) } → sitter new ≡ with_refusal true (sitter old)
is_counted old new same = ap sitter same
