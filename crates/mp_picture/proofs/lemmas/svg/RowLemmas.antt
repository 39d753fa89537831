-- Rows that are written one below the other.
use Rattle.std.proofs.Common.{◌≡◌, ℕ, ◌+◌, ◌<◌, Bool, List, length, get_or, take, Result, Ok, Err, sym, ap, subst, ◌∙◌, arith}
use Rattle.std.specs.List.{flat_map, enumerate_from}
use Rattle.std.proofs.lemmas.List.{take_all}
use Rattle.std.proofs.lemmas.List.FromFn.{length-enumerate_from, get_or-enumerate_from}
use Rattle.mp_streams.specs.Outgoing.{Outgoing, Puts}
use Rattle.mp_streams.proofs.OutLemmas.{puts_next, puts_stopped}

module _ {X : Type 0} (t : ℕ × X → List ℕ) (first : ℕ) (xs : List X) (i : ℕ) where
  abbrev rows : List (ℕ × X)
  rows = enumerate_from first xs

  module _ (d : X) (row : ℕ) (is : row ≡ first + i) (within : i < length xs) where
    row_is : t (row, get_or xs i d) ≡ t (get_or rows i (0, d))
    row_is = ap (λ (k : ℕ). t (k, get_or xs i d)) is ∙ ap t (sym (get_or-enumerate_from first xs i (0, d) within))

    within_rows : i < length rows
    within_rows = omega (arith, within, length-enumerate_from first xs)

    module _ {S T E F : Type 0} {f : F → Bool} {g : E → Bool} {done : T} {a b c : Outgoing S} where
      -- a row more
      pub rows_next : {U : Type 0} {r : Result U E} → Puts f (Ok done) a b (flat_map t (take i rows)) → Puts g r b c (t (row, get_or xs i d)) → Puts g r a c (flat_map t (take (i + 1) rows))
      rows_next {U = U} {r = r} before now = puts_next t rows i (0, d) within_rows before (subst (Puts g r b c) row_is now)

      -- a row failed
      pub rows_stopped : {U : Type 0} {error : E} → Puts f (Ok done) a b (flat_map t (take i rows)) → Puts {T = U} g (Err error) b c (t (row, get_or xs i d)) → Puts {T = U} g (Err error) a c (flat_map t rows)
      rows_stopped {U = U} {error = error} before now = puts_stopped t rows i (0, d) within_rows before (subst (Puts {T = U} g (Err error) b c) row_is now)

  -- all rows
  pub rows_over : {S T E : Type 0} {f : E → Bool} {done : T} {a b : Outgoing S} → i ≡ length xs → Puts f (Ok done) a b (flat_map t (take i rows)) → Puts f (Ok done) a b (flat_map t rows)
  rows_over {T = T} {E = E} {f = f} {done = done} {a = a} {b = b} over before =
      subst (Puts f (Ok done) a b) (ap (flat_map t) (take_all i rows (omega (arith, over, length-enumerate_from first xs)))) before
