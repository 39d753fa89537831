use Rattle.std.proofs.Common.{◌≡◌, ◌==◌, ℕ, List, true, length, Some, codes, slice_get, subst, rules}
use Rattle.std.specs.Bool.{Decides}
use Rattle.std.specs.List.{list_all}
use Rattle.std.proofs.lemmas.Slice.Eq.{slice_eq-Decides}
use Rattle.mp_text.specs.lexing.Lines.{is_allowed}
use Rattle.mp_text.specs.lexing.Words.{words_of}
use Rattle.mp_seats.proofs.lemmas.hosting.OwnLemmas.{decided}
use Rattle.mp_seats.proofs.hosting.own_seat.is_seats_line.Goals as goal

decides : (a b : ℕ) → Decides (a == b) (a ≡ b)
decides a b = search rules

pub returns-in-Some : goal.returns-in-Some
returns-in-Some c =
    let word = c.in-Some.word.now in
    let plain : list_all is_allowed c.args.line.now ≡ true = search rules in
    let one : length (words_of c.args.line.now) ≡ 1 = search rules in
    let first : slice_get (words_of c.args.line.now) 0 ≡ Some word = search rules in
    let seats : c.as_slice.result.now ≡ codes "seats" = search rules in
    let both : Decides c.eq.result (word ≡ c.as_slice.result.now) = slice_eq-Decides decides word c.as_slice.result.now c.eq.result c.eq.ensures in
    decided c.eq.result c.args.line.now word plain first one (subst (λ (s : List ℕ). Decides c.eq.result (word ≡ s)) seats both)
