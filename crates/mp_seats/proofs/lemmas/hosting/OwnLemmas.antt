-- The lines of whoever runs a desk.
use Rattle.std.proofs.Common.{◌≡◌, ℕ, Bool, true, false, List, [], ◌∷◌, length, Option, Some, None, Result, Ok, codes, slice_get, inl, inr, refl, sym, ap, subst, ◌∙◌, arith}
use Rattle.std.specs.Prelude.{MatchBool}
use Rattle.std.specs.Bool.{Decides}
use Rattle.std.specs.List.{list_all}
use mathlib.Core.List.{IsPrefix}
use Rattle.mp_streams.specs.Outgoing.{Outgoing}
use Rattle.mp_streams.specs.WriteErrors.{Writes}
use Rattle.mp_streams.specs.declared.write_error.WriteError.{WriteError}
use Rattle.mp_text.specs.lexing.Lines.{is_allowed, line_words}
use Rattle.mp_text.specs.lexing.Words.{words_of}
use Rattle.mp_seats.specs.talk.Answers.{PutsAnswer}
use Rattle.mp_seats.specs.Replies.{Writing}
use Rattle.mp_seats.specs.Steps.{IsSignedStep}
use Rattle.mp_seats.specs.declared.hosting.seat_place.SeatName.{SeatName}
use Rattle.mp_seats.specs.hosting.Places.{TellsOf}
use Rattle.mp_seats.specs.hosting.OwnSeats.{Owner, IsSeatsLine, IsOwnStep, IsSignedOwnStep}
use Rattle.mp_version.proofs.PrefixLemmas.{prefix_self}
use Rattle.mp_seats.proofs.StepLemmas.{step_begins}

-- any other line is answered as at any seat
pub as_any : {S : Type 0} (w : List ℕ → Writing) (edits : Bool) (r : Result (Unit {0}) WriteError) (old new : Owner) (line : Option (List ℕ)) (a b : Outgoing S)
    → (IsSeatsLine line → ⊥) → PutsAnswer (IsSignedStep w edits) r old.seated new.seated line a b → new.names ≡ old.names
    → PutsAnswer (IsSignedOwnStep w edits) r old new line a b
as_any w edits r old new line a b other puts same = (puts.0, (λ authors more. inl (other, puts.1 authors more, same)), puts.2)

-- of each seat is told whether it is taken
pub told : {S : Type 0} (w : List ℕ → Writing) (edits : Bool) (r : Result (Unit {0}) WriteError) (old new : Owner) (line : Option (List ℕ)) (a b : Outgoing S) → IsSeatsLine line → new ≡ old
    → (names : List SeatName) → names ≡ old.names → ((text : List ℕ) × TellsOf names text × Writes r a b text) → PutsAnswer (IsSignedOwnStep w edits) r old new line a b
told w edits r old new line a b asks same names are puts = (puts.0, (λ authors more. inr (asks, subst (λ seats. TellsOf seats puts.0) are puts.1, same)), puts.2)

-- a step of the own seat forgets no author
pub own_begins : (w : Writing) (edits : Bool) (old : Owner) (line : Option (List ℕ)) (new : Owner) (text : List ℕ) → IsOwnStep w edits old line new text → IsPrefix old.seated.signed new.seated.signed
own_begins w edits old line new text (inl h) = step_begins w edits old.seated line new.seated text h.1
own_begins w edits old line new text (inr h) = subst (λ (o : Owner). IsPrefix old.seated.signed o.seated.signed) (sym h.2) (prefix_self old.seated.signed)

-- a line of one word
pub one_word : (ws : List (List ℕ)) (word : List ℕ) → slice_get ws 0 ≡ Some word → length ws ≡ 1 → ws ≡ word ∷ []
one_word [] word first one = absurd (omega (arith, one))
one_word (w ∷ []) word first one = let same : w ≡ word = cc first in ap (λ x. x ∷ []) same
one_word (w ∷ v ∷ ws) word first one = absurd (omega (arith, one))

-- a line that asks who has taken the seats
pub asks : (line word : List ℕ) → list_all is_allowed line ≡ true → slice_get (words_of line) 0 ≡ Some word → length (words_of line) ≡ 1 → word ≡ codes "seats" → IsSeatsLine (Some line)
asks line word plain first one is = rw plain (ap (λ ws. Ok ws) (one_word (words_of line) word first one ∙ ap (λ x. x ∷ []) is))

-- what such a line has
plain_words : (line : List ℕ) (plain : Bool) (words : List (List ℕ)) → list_all is_allowed line ≡ plain → line_words line ≡ Ok words → (plain ≡ true) × (words_of line ≡ words)
plain_words line true words is says = let same : words_of line ≡ words = cc (rw is at says) in (refl, same)
plain_words line false words is says = absurd (cc (rw is at says))

pub not_plain : (line : List ℕ) → list_all is_allowed line ≡ false → IsSeatsLine (Some line) → ⊥
not_plain line is says = let p = plain_words line false (codes "seats" ∷ []) is says in absurd (cc (p.0))

pub not_this : (line word : List ℕ) → slice_get (words_of line) 0 ≡ Some word → (word ≡ codes "seats" → ⊥) → IsSeatsLine (Some line) → ⊥
not_this line word first other says =
    let words = (plain_words line (list_all is_allowed line) (codes "seats" ∷ []) refl says).1 in
    let same : Some word ≡ Some (codes "seats") = sym first ∙ ap (λ ws. slice_get ws 0) words in
    other (cc same)

pub no_word : (line : List ℕ) → slice_get (words_of line) 0 ≡ None → IsSeatsLine (Some line) → ⊥
no_word line none says =
    let words = (plain_words line (list_all is_allowed line) (codes "seats" ∷ []) refl says).1 in
    let same : None ≡ Some (codes "seats") = sym none ∙ ap (λ ws. slice_get ws 0) words in
    absurd (cc same)

-- whether a line of one word asks for that
pub decided : (b : Bool) (line word : List ℕ) → list_all is_allowed line ≡ true → slice_get (words_of line) 0 ≡ Some word → length (words_of line) ≡ 1 → Decides b (word ≡ codes "seats")
    → MatchBool b (IsSeatsLine (Some line)) (IsSeatsLine (Some line) → ⊥)
decided true line word plain first one is = asks line word plain first one (is.0 refl)
decided false line word plain first one is = not_this line word first (λ same. absurd (cc (is.1 same)))
