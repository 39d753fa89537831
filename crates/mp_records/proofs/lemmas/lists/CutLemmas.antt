-- What is read of pieces end to end, and what each change of a piece does to them.
use Rattle.std.proofs.Common.{◌≡◌, ℕ, zero, suc, ◌+◌, ◌-◌, ◌*◌, ◌<◌, ◌≤◌, List, [], ◌∷◌, ◌++◌, length, get_or, Option, Some, None, ◌⊎◌, inl, inr, refl, sym, ap, subst, ◌∙◌, arith, length-append, append-nil, append_assoc}
use Rattle.std.proofs.Math.ListN.{set}
use Rattle.std.specs.List.{slice_get}
use Rattle.std.specs.Prelude.{Result, Ok, Err, OnOk, OnErr}
use Rattle.std.proofs.lemmas.List.{set-append_left, set-append_right}
use Rattle.std.proofs.lemmas.Option.{slice_get_past}
use Rattle.std.proofs.lemmas.Bool.{cases_lt}
use Rattle.mp_records.specs.lists.Cuts.{joined, AreCut}

-- what stands in the first of two lists, and in the second
slice_get-left : {X : Type 0} (xs ys : List X) (i : ℕ) → i < length xs → slice_get (xs ++ ys) i ≡ slice_get xs i
slice_get-left [] ys i within = absurd (omega arith)
slice_get-left (x ∷ xs) ys zero within = refl
slice_get-left (x ∷ xs) ys (suc i) within = slice_get-left xs ys i (omega arith)

slice_get-right : {X : Type 0} (xs ys : List X) (i k : ℕ) → i ≡ length xs + k → slice_get (xs ++ ys) i ≡ slice_get ys k
slice_get-right [] ys i k is = ap (slice_get ys) (omega arith)
slice_get-right (x ∷ xs) ys zero k is = absurd (omega arith)
slice_get-right (x ∷ xs) ys (suc i) k is = slice_get-right xs ys i k (omega arith)

abbrev or_else : {X : Type 0} → Option X → X → X
or_else None d = d
or_else (Some x) d = x

got : {X : Type 0} (xs : List X) (i : ℕ) (d : X) → get_or xs i d ≡ or_else (slice_get xs i) d
got [] i d = refl
got (x ∷ xs) zero d = refl
got (x ∷ xs) (suc i) d = got xs i d

-- what reads nothing is past the end
pub past_from_none : {X : Type 0} (xs : List X) (i : ℕ) → None ≡ slice_get xs i → length xs ≤ i
past_from_none [] i none = omega arith
past_from_none (x ∷ xs) zero none = cc
past_from_none (x ∷ xs) (suc i) none = omega (arith, past_from_none xs i none)

module _ {X : Type 0} (n : ℕ) (some : 0 < n) where
  pub length-joined : (pieces : List (List X)) (count : ℕ) → AreCut n pieces count → length (joined pieces) ≡ count
  length-joined [] count cut = sym cut
  length-joined (piece ∷ pieces) count cut =
      let rest = length-joined pieces (count - n) cut.2 in
      omega (arith, length-append piece (joined pieces), rest, cut.0, cut.1)

  -- there are just as many pieces as the entries need
  pub pieces_above : (pieces : List (List X)) (count : ℕ) → AreCut n pieces count → count ≤ length pieces * n
  pieces_above [] count cut = omega (arith, cut)
  pieces_above (piece ∷ pieces) count cut =
      omega (arith, pieces_above pieces (count - n) cut.2)

  pub pieces_below : (pieces : List (List X)) (count : ℕ) → AreCut n pieces count → length pieces * n < count + n
  pieces_below [] count cut = omega (arith, some)
  pieces_below (piece ∷ []) count cut = omega (arith, cut.0)
  pieces_below (piece ∷ next ∷ pieces) count cut =
      omega (arith, cut.2.0, pieces_below (next ∷ pieces) (count - n) cut.2)

  -- the entry at a place of a piece
  pub get_in : (pieces : List (List X)) (count : ℕ) → AreCut n pieces count → (k r : ℕ) → r < n → slice_get (joined pieces) (k * n + r) ≡ slice_get (get_or pieces k []) r
  get_in [] count cut k r place = refl
  get_in (piece ∷ pieces) count cut zero r place = by (cases_lt r (length piece))
    where
      by : (r < length piece) ⊎ (length piece ≤ r) → slice_get (piece ++ joined pieces) (zero * n + r) ≡ slice_get piece r
      by (inl here) = ap (slice_get (piece ++ joined pieces)) (omega arith) ∙ slice_get-left piece (joined pieces) r here
      by (inr past) =
          let rest = length-joined pieces (count - n) cut.2 in
          slice_get_past (piece ++ joined pieces) (zero * n + r) (omega (arith, length-append piece (joined pieces), rest, cut.1, past, place)) ∙ sym (slice_get_past piece r past)
  get_in (piece ∷ pieces) count cut (suc k) r place = by (get_in pieces (count - n) cut.2 k r place) (cases_lt count n)
    where
      by : slice_get (joined pieces) (k * n + r) ≡ slice_get (get_or pieces k []) r → (count < n) ⊎ (n ≤ count) → slice_get (piece ++ joined pieces) (suc k * n + r) ≡ slice_get (get_or pieces k []) r
      by behind (inl few) =
          let rest = length-joined pieces (count - n) cut.2 in
          slice_get_past (piece ++ joined pieces) (suc k * n + r) (omega (arith, length-append piece (joined pieces), rest, cut.1, few)) ∙ sym (slice_get_past (joined pieces) (k * n + r) (omega (arith, rest, few))) ∙ behind
      by behind (inr many) = slice_get-right piece (joined pieces) (suc k * n + r) (k * n + r) (omega (arith, cut.1, many)) ∙ behind

  pub read_in : (pieces : List (List X)) (count : ℕ) → AreCut n pieces count → (k r : ℕ) (d : X) → r < n → get_or (joined pieces) (k * n + r) d ≡ get_or (get_or pieces k []) r d
  read_in pieces count cut k r d place = got (joined pieces) (k * n + r) d ∙ ap (λ found. or_else found d) (get_in pieces count cut k r place) ∙ sym (got (get_or pieces k []) r d)

  -- the place of an entry is in a piece
  pub piece_within : (pieces : List (List X)) (count : ℕ) → AreCut n pieces count → (k r : ℕ) → r < n → k * n + r < count → k < length pieces
  piece_within [] count cut k r place within = absurd (omega (arith, cut, within))
  piece_within (piece ∷ pieces) count cut zero r place within = omega arith
  piece_within (piece ∷ pieces) count cut (suc k) r place within =
      omega (arith, piece_within pieces (count - n) cut.2 k r place (omega (arith, within)))

  pub place_within : (pieces : List (List X)) (count : ℕ) → AreCut n pieces count → (k r : ℕ) → r < n → k * n + r < count → r < length (get_or pieces k [])
  place_within [] count cut k r place within = absurd (omega (arith, cut, within))
  place_within (piece ∷ pieces) count cut zero r place within = omega (arith, cut.1, within)
  place_within (piece ∷ pieces) count cut (suc k) r place within =
      place_within pieces (count - n) cut.2 k r place (omega (arith, within))

  -- a piece is written over by one of its length
  pub AreCut-set : (pieces : List (List X)) (count : ℕ) → AreCut n pieces count → (k : ℕ) (new : List X) → length new ≡ length (get_or pieces k []) → AreCut n (set pieces k new) count
  AreCut-set [] count cut k new same = cut
  AreCut-set (piece ∷ pieces) count cut zero new same = (cut.0, same ∙ cut.1, cut.2)
  AreCut-set (piece ∷ pieces) count cut (suc k) new same = (cut.0, cut.1, AreCut-set pieces (count - n) cut.2 k new same)

  -- an entry of a piece is written over
  pub set_in : (pieces : List (List X)) (count : ℕ) → AreCut n pieces count → (k r : ℕ) (y : X) → r < n → k * n + r < count → joined (set pieces k (set (get_or pieces k []) r y)) ≡ set (joined pieces) (k * n + r) y
  set_in [] count cut k r y place within = absurd (omega (arith, cut, within))
  set_in (piece ∷ pieces) count cut zero r y place within =
      sym (ap (λ i. set (piece ++ joined pieces) i y) (omega arith) ∙ set-append_left piece (joined pieces) r y (omega (arith, cut.1, place, within)))
  set_in (piece ∷ pieces) count cut (suc k) r y place within =
      let here : suc k * n + r - n ≡ k * n + r = omega arith in
      ap (λ rest. piece ++ rest) (set_in pieces (count - n) cut.2 k r y place (omega (arith, within)))
      ∙ sym (set-append_right piece (joined pieces) n (suc k * n + r) y (omega (arith, cut.1, within)) (omega arith) ∙ ap (λ i. piece ++ set (joined pieces) i y) here)

  -- a piece of one entry goes last
  pub AreCut-add : (pieces : List (List X)) (count : ℕ) → AreCut n pieces count → length pieces * n ≤ count → (y : X) → AreCut n (pieces ++ (y ∷ []) ∷ []) (count + 1)
  AreCut-add [] count cut full y = (omega arith, omega (arith, cut, some), omega (arith, cut, some))
  AreCut-add (piece ∷ pieces) count cut full y =
      let left : count - n + 1 ≡ count + 1 - n = omega (arith, full) in
      (omega arith, omega (arith, cut.1, full), subst (AreCut n (pieces ++ (y ∷ []) ∷ [])) left (AreCut-add pieces (count - n) cut.2 (omega (arith, full)) y))

  pub joined-add : (pieces : List (List X)) (y : X) → joined (pieces ++ (y ∷ []) ∷ []) ≡ joined pieces ++ y ∷ []
  joined-add [] y = refl
  joined-add (piece ∷ pieces) y = ap (λ rest. piece ++ rest) (joined-add pieces y) ∙ sym (append_assoc piece (joined pieces) (y ∷ []))

  -- an entry goes last in the last piece
  pub AreCut-push : (pieces : List (List X)) (count : ℕ) → AreCut n pieces count → count < length pieces * n → (k : ℕ) → k + 1 ≡ length pieces → (y : X) → AreCut n (set pieces k (get_or pieces k [] ++ y ∷ [])) (count + 1)
  AreCut-push [] count cut room k last y = absurd (omega arith)
  AreCut-push (piece ∷ []) count cut room zero last y = (omega arith, omega (arith, length-append piece (y ∷ []), cut.1, room), omega (arith, room))
  AreCut-push (piece ∷ []) count cut room (suc k) last y = absurd (omega arith)
  AreCut-push (piece ∷ next ∷ pieces) count cut room zero last y = absurd (omega arith)
  AreCut-push (piece ∷ next ∷ pieces) count cut room (suc k) last y =
      let left : count - n + 1 ≡ count + 1 - n = omega (arith, cut.2.0) in (
        omega arith,
        omega (arith, cut.1, cut.2.0),
        subst (AreCut n (set (next ∷ pieces) k (get_or (next ∷ pieces) k [] ++ y ∷ []))) left (AreCut-push (next ∷ pieces) (count - n) cut.2 (omega (arith, room, cut.2.0)) k (omega arith) y),
      )

  pub joined-push : (pieces : List (List X)) (k : ℕ) → k + 1 ≡ length pieces → (y : X) → joined (set pieces k (get_or pieces k [] ++ y ∷ [])) ≡ joined pieces ++ y ∷ []
  joined-push [] k last y = absurd (omega arith)
  joined-push (piece ∷ []) zero last y = append-nil (piece ++ y ∷ []) ∙ ap (λ p. p ++ y ∷ []) (sym (append-nil piece))
  joined-push (piece ∷ []) (suc k) last y = absurd (omega arith)
  joined-push (piece ∷ next ∷ pieces) zero last y = absurd (omega arith)
  joined-push (piece ∷ next ∷ pieces) (suc k) last y =
      ap (λ rest. piece ++ rest) (joined-push (next ∷ pieces) k (omega arith) y) ∙ sym (append_assoc piece (next ++ joined pieces) (y ∷ []))

-- what follows from either outcome holds
pub in_either : {T E P Q R : Type 0} (result : Result T E) → (P → R) → (Q → R) → OnOk result P → OnErr result Q → R
in_either (Ok value) ok err has none = ok has
in_either (Err error) ok err none has = err has
