-- Lines that are written number by number.
use Rattle.std.proofs.Common.{◌≡◌, ℕ, ◌+◌, ◌<◌, List, length, get_or, take, Ok, Err, sym, ap, subst, ◌∙◌, zero-add, arith}
use Rattle.std.specs.List.{flat_map, range_with_len}
use Rattle.std.proofs.lemmas.List.{take_all}
use Rattle.std.proofs.lemmas.List.FromFn.{get_or-range_with_len, length-range_with_len}
use Rattle.mp_streams.specs.declared.failed.Failed.{Failed}
use Rattle.mp_streams.specs.Outgoing.{Outgoing, Writes}
use Rattle.mp_streams.proofs.OutLemmas.{puts_next, puts_stopped}

module _ (t : ℕ → List ℕ) (count k : ℕ) where
  abbrev numbers : List ℕ
  numbers = range_with_len 0 count

  line_is : k < count → t (get_or numbers k 0) ≡ t k
  line_is within = ap t (get_or-range_with_len 0 count k 0 within ∙ zero-add k)

  within_numbers : k < count → k < length numbers
  within_numbers within = omega (arith, within, length-range_with_len 0 count)

  module _ {S T : Type 0} {done : T} {a b c : Outgoing S} where
    -- a line more
    pub numbers_next : k < count → Writes (Ok done) a b (flat_map t (take k numbers)) → Writes {T = T} (Ok done) b c (t k) → Writes {T = T} (Ok done) a c (flat_map t (take (k + 1) numbers))
    numbers_next within first second = puts_next t numbers k 0 (within_numbers within) first (subst (Writes (Ok done) b c) (sym (line_is within)) second)

    -- a line failed
    pub numbers_stopped : {error : Failed} → k < count → Writes (Ok done) a b (flat_map t (take k numbers)) → Writes {T = T} (Err error) b c (t k) → Writes {T = T} (Err error) a c (flat_map t numbers)
    numbers_stopped {error = error} within first second = puts_stopped t numbers k 0 (within_numbers within) first (subst (Writes (Err error) b c) (sym (line_is within)) second)

  -- all lines
  pub numbers_over : {S T : Type 0} {done : T} {a b : Outgoing S} → k ≡ count → Writes (Ok done) a b (flat_map t (take k numbers)) → Writes (Ok done) a b (flat_map t numbers)
  numbers_over {T = T} {done = done} {a = a} {b = b} over first =
      subst (Writes (Ok done) a b) (ap (flat_map t) (take_all k numbers (omega (arith, over, length-range_with_len 0 count)))) first
