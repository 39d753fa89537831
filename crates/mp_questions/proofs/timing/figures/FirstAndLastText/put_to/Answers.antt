use Rattle.std.proofs.Common.{◌≡◌, ℕ, ◌-◌, List, [], ◌∷◌, length, slice_get, Option, Some, suc, ap, subst, ◌∙◌, arith}
use Rattle.mp_streams.specs.Outgoing.{Writes}
use Rattle.mp_wave.specs.WaveChanges.{changes_in}
use Rattle.mp_questions.specs.timing.Events.{times_of}
use Rattle.mp_questions.specs.timing.Measures.{ends_text, last_from, two_numbers}
use Rattle.mp_questions.proofs.timing.figures.FirstAndLastText.put_to.Goals as goal

same_some : (x y : ℕ × ℕ) → (let o : Option (ℕ × ℕ) = Some x in o) ≡ Some y → x ≡ y
same_some x y same = cc

last_is : (x : ℕ × ℕ) (xs : List (ℕ × ℕ)) (l : ℕ × ℕ) → Some l ≡ slice_get (x ∷ xs) (length (x ∷ xs) - 1) → l.0 ≡ last_from x.0 (times_of xs)
last_is x [] l is = ap (λ (c : ℕ × ℕ). c.0) (same_some l x is)
last_is x (y ∷ ys) l is =
    let shorter : length (x ∷ (y ∷ ys)) - 1 ≡ suc (length (y ∷ ys) - 1) = omega arith in
    last_is y ys l (is ∙ ap (slice_get (x ∷ (y ∷ ys))) shorter)

ends_are : (events : List (ℕ × ℕ)) (f l : ℕ × ℕ) → Some f ≡ slice_get events 0 → Some l ≡ slice_get events (length events - 1) → two_numbers f.0 l.0 ≡ ends_text (times_of events)
ends_are [] f l first last = let no_first : ⊥ = cc in absurd no_first
ends_are (x ∷ xs) f l first last = ap (λ (a : ℕ). two_numbers a l.0) (ap (λ (c : ℕ × ℕ). c.0) (same_some f x first)) ∙ ap (two_numbers x.0) (last_is x xs l last)

pub returns-in-Some-Some : goal.returns-in-Some-Some
returns-in-Some-Some g c =
    let events = changes_in c.args.self.now.events in
    let is = ends_are events c.in-Some-Some.first c.in-Some-Some.last c.in-Some-Some.ensures.value c.in-Some-Some.ensures'.value in
    subst (Writes c.put_to.result c.args.out.now c.put_to.new.out) is c.put_to.ensures
