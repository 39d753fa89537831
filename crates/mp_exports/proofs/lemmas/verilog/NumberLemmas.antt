-- Texts that are written number by number.
use Rattle.std.proofs.Common.{◌≡◌, ℕ, ◌+◌, ◌<◌, Bool, true, false, ◌&&◌, not, List, [], ◌∷◌, ◌++◌, length, get_or, take, drop, cond, Ok, Err, refl, sym, ap, subst, ◌∙◌, zero-add, arith}
use Rattle.std.specs.List.{flat_map, range_with_len}
use Rattle.std.proofs.lemmas.List.{take_all}
use Rattle.std.proofs.lemmas.List.FromFn.{get_or-range_with_len, length-range_with_len}
use Rattle.mp_streams.specs.declared.failed.Failed.{Failed}
use Rattle.mp_streams.specs.Outgoing.{Outgoing, Writes}
use Rattle.mp_streams.proofs.OutLemmas.{puts_then, puts_sooner, next_text, text_with, puts_next, puts_stopped}
use Rattle.mp_exports.specs.verilog.Lists.{has_some, without_first}

-- an item behind others loses its comma where there is none before it
joined : (xs ys : List ℕ) → without_first (xs ++ ys) ≡ without_first xs ++ cond (not (has_some xs)) (without_first ys) ys
joined [] ys = refl
joined (x ∷ xs) ys = refl

has_some-append : (xs ys : List ℕ) → not (has_some (xs ++ ys)) ≡ (not (has_some xs) && not (has_some ys))
has_some-append [] ys = refl
has_some-append (x ∷ xs) ys = refl

-- what stands behind an item that may lose its comma
later : (begun : Bool) (ys rest : List ℕ) → (more : List ℕ) × (cond begun (without_first (ys ++ rest)) (ys ++ rest) ≡ cond begun (without_first ys) ys ++ more)
later true [] rest = (without_first rest, refl)
later true (y ∷ ys) rest = (rest, refl)
later false ys rest = (rest, refl)

module _ (t : ℕ → List ℕ) (count k : ℕ) where
  abbrev numbers : List ℕ
  numbers = range_with_len 0 count

  item_is : k < count → t (get_or numbers k 0) ≡ t k
  item_is within = ap t (get_or-range_with_len 0 count k 0 within ∙ zero-add k)

  within_numbers : k < count → k < length numbers
  within_numbers within = omega (arith, within, length-range_with_len 0 count)

  pub all_numbers : k ≡ count → take k numbers ≡ numbers
  all_numbers over = take_all k numbers (omega (arith, over, length-range_with_len 0 count))

  module _ {S T : Type 0} {done : T} {a b c : Outgoing S} where
    -- an item more
    pub items_next : k < count → Writes {T = T} (Ok done) a b (flat_map t (take k numbers)) → Writes {T = T} (Ok done) b c (t k) → Writes {T = T} (Ok done) a c (flat_map t (take (k + 1) numbers))
    items_next within first second = puts_next t numbers k 0 (within_numbers within) first (subst (Writes {T = T} (Ok done) b c) (sym (item_is within)) second)

    -- an item failed
    pub items_stopped : {U : Type 0} {error : _} → k < count → Writes {T = T} (Ok done) a b (flat_map t (take k numbers)) → Writes {T = U} (Err error) b c (t k) → Writes {T = U} (Err error) a c (flat_map t numbers)
    items_stopped {U = U} {error = error} within first second = puts_stopped t numbers k 0 (within_numbers within) first (subst (Writes {T = U} (Err error) b c) (sym (item_is within)) second)

  -- all items
  pub items_over : {S T : Type 0} {done : T} {a b : Outgoing S} → k ≡ count → Writes {T = T} (Ok done) a b (flat_map t (take k numbers)) → Writes {T = T} (Ok done) a b (flat_map t numbers)
  items_over {T = T} {done = done} {a = a} {b = b} over first = subst (Writes {T = T} (Ok done) a b) (ap (flat_map t) (all_numbers over)) first

  -- ---- with a comma between

  next_items : k < count → flat_map t (take (k + 1) numbers) ≡ flat_map t (take k numbers) ++ t k
  next_items within = next_text t numbers k 0 (within_numbers within) ∙ ap (λ l. flat_map t (take k numbers) ++ l) (item_is within)

  abbrev later_items : List ℕ
  later_items = flat_map t (drop (k + 1) numbers)

  items_with : k < count → flat_map t numbers ≡ flat_map t (take k numbers) ++ (t k ++ later_items)
  items_with within = text_with t numbers k 0 (within_numbers within) ∙ ap (λ l. flat_map t (take k numbers) ++ (l ++ later_items)) (item_is within)

  module _ {S : Type 0} (is_first : Bool) {a b c : Outgoing S} (within : k < count) (is : is_first ≡ not (has_some (flat_map t (take k numbers))))
      (first : Writes {T = Unit {0}} (Ok tt) a b (without_first (flat_map t (take k numbers)))) where
    -- an item more
    pub list_next : Writes {T = Unit {0}} (Ok tt) b c (cond is_first (without_first (t k)) (t k)) → Writes {T = Unit {0}} (Ok tt) a c (without_first (flat_map t (take (k + 1) numbers)))
    list_next second =
        let whole = ap without_first (next_items within) ∙ joined (flat_map t (take k numbers)) (t k) in
        subst (Writes {T = Unit {0}} (Ok tt) a c) (sym whole) (puts_then first (subst (λ b1. Writes {T = Unit {0}} (Ok tt) b c (cond b1 (without_first (t k)) (t k))) is second))

    -- an item failed
    pub list_stopped : {error : Failed} → Writes {T = Unit {0}} (Err error) b c (cond is_first (without_first (t k)) (t k)) → Writes {T = Unit {0}} (Err error) a c (without_first (flat_map t numbers))
    list_stopped {error = error} second =
        let begun = not (has_some (flat_map t (take k numbers))) in
        let more = later begun (t k) later_items in
        let whole = ap without_first (items_with within) ∙ joined (flat_map t (take k numbers)) (t k ++ later_items) ∙ ap (λ l. without_first (flat_map t (take k numbers)) ++ l) more.1 in
        let failed = subst (λ b1. Writes {T = Unit {0}} (Err error) b c (cond b1 (without_first (t k)) (t k))) is second in
        subst (Writes {T = Unit {0}} (Err error) a c) (sym whole) (puts_then first (puts_sooner more.0 failed))

  -- whether there is no item yet behind that
  pub list_still : (is_first has new : Bool) → k < count → is_first ≡ not (has_some (flat_map t (take k numbers))) → has ≡ has_some (t k) → new ≡ (is_first && not has)
      → new ≡ not (has_some (flat_map t (take (k + 1) numbers)))
  list_still is_first has new within is two three =
      three ∙ ap (λ b1. b1 && not has) is ∙ ap (λ b1. not (has_some (flat_map t (take k numbers))) && not b1) two
      ∙ sym (ap (λ l. not (has_some l)) (next_items within) ∙ has_some-append (flat_map t (take k numbers)) (t k))

  pub list_over : {S : Type 0} {a b : Outgoing S} → k ≡ count → Writes {T = Unit {0}} (Ok tt) a b (without_first (flat_map t (take k numbers))) → Writes {T = Unit {0}} (Ok tt) a b (without_first (flat_map t numbers))
  list_over {a = a} {b = b} over first = subst (Writes {T = Unit {0}} (Ok tt) a b) (ap (λ l. without_first (flat_map t l)) (all_numbers over)) first
