-- A text that is written piece by piece.
use Rattle.std.proofs.Common.{◌≡◌, ℕ, Bool, List, [], ◌++◌, append_assoc, Result, Ok, Err, IsErr, refl, sym, ap, subst, ◌∙◌}
use Rattle.mp_streams.specs.Outgoing.{Outgoing, Puts, Writes}
use Rattle.mp_streams.proofs.OutLemmas.{puts_none, puts_then, puts_sooner}

-- of a whole text the front is written, and this is left
pub record Left {S : Type 0} (whole : List ℕ) (start now : Outgoing S) (rest : List ℕ) : Type 0 where
  pub done : List ℕ
  pub written : Writes {T = Unit {0}} (Ok tt) start now done
  pub all : done ++ rest ≡ whole

pub left_whole : {S : Type 0} (start : Outgoing S) (whole : List ℕ) → Left whole start start whole
left_whole start whole = record { done = []; written = puts_none start; all = refl }

pub left_as : {S : Type 0} {whole rest other : List ℕ} {a b : Outgoing S} → rest ≡ other → Left whole a b rest → Left whole a b other
left_as {S} {whole} {rest} {other} {a} {b} same left = subst (Left whole a b) same left

-- nothing is left
pub left_none : {S E : Type 0} {g : E → Bool} {whole rest : List ℕ} {a b : Outgoing S} → rest ≡ [] → Left whole a b rest → Puts {T = Unit {0}} g (Ok tt) a b whole
left_none {S} {E} {g} {whole} {rest} {a} {b} none left =
    subst (Puts {T = Unit {0}} g (Ok tt) a b) (ap (λ l. left.done ++ l) (sym none) ∙ left.all) (puts_then left.written (puts_none {f = g} {done = tt} b))

-- a piece was written
pub left_then : {S : Type 0} {whole xs ys : List ℕ} {a b c : Outgoing S} → Left whole a b (xs ++ ys) → Writes {T = Unit {0}} (Ok tt) b c xs → Left whole a c ys
left_then {whole = whole} {xs = xs} {ys = ys} {a = a} {b = b} {c = c} left piece =
    record { done = left.done ++ xs; written = puts_then left.written piece; all = append_assoc left.done xs ys ∙ left.all }

-- a piece failed
pub left_failed : {S U E : Type 0} {g : E → Bool} {whole xs : List ℕ} {a b c : Outgoing S} (ys : List ℕ) → Left whole a b (xs ++ ys) → (r : Result U E) → IsErr r → Puts g r b c xs → Puts g r a c whole
left_failed ys left (Ok done) is piece = cc
left_failed {S} {U} {E} {g} {whole} {xs} {a} {b} {c} ys left (Err error) is piece = subst (Puts {T = U} g (Err error) a c) left.all (puts_then left.written (puts_sooner ys piece))
