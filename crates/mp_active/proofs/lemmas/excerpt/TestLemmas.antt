-- Tests that are joined.
use Rattle.std.proofs.Common.{◌≡◌, ◌<◌, Bool, true, false, cond, refl, ap, sym, ◌∙◌, arith}
use Rattle.std.specs.Prelude.{◌&&◌, ◌||◌}
use Rattle.std.proofs.lemmas.Bool.{and_right}
use Rattle.mp_modules.specs.automata.Codes.{bit}

pub or_false : (b : Bool) → (b || false) ≡ b
or_false true = refl
or_false false = refl

pub and_true : (b : Bool) → (b && true) ≡ b
and_true true = refl
and_true false = refl

-- where the second fails, the first doesn't matter
pub either : (a b c : Bool) → c ≡ false → (a && c) ≡ (b && c)
either a b c none = ap (λ x. a && x) none ∙ and_right a false refl ∙ sym (and_right b false refl) ∙ ap (λ x. b && x) (sym none)

pub swapped : (a b c : Bool) → ((a && b) && c) ≡ ((a && c) && b)
swapped true true true = refl
swapped true true false = refl
swapped true false true = refl
swapped true false false = refl
swapped false b c = refl

-- three tests, of which two are the same as two others
pub same_tests : (a b c d e f : Bool) → b ≡ e → (a && c) ≡ (d && f) → ((a && b) && c) ≡ ((d && e) && f)
same_tests a b c d e f same both =
    swapped a b c ∙ ap (λ x. x && b) both ∙ ap (λ x. (d && f) && x) same ∙ sym (swapped d e f)

-- where the middle one fails, the others don't matter
pub no_tests : (a b c d e f : Bool) → b ≡ false → e ≡ false → ((a && b) && c) ≡ ((d && e) && f)
no_tests a b c d e f none other =
    ap (λ x. (a && x) && c) none ∙ ap (λ x. x && c) (and_right a false refl) ∙ sym (ap (λ x. x && f) (and_right d false refl)) ∙ ap (λ x. (d && x) && f) (sym other)

pub cond_same : {A : Type 0} (b : Bool) (x : A) → cond b x x ≡ x
cond_same true x = refl
cond_same false x = refl

pub cond_false : (b : Bool) → cond b false false ≡ false
cond_false true = refl
cond_false false = refl

pub bit_true : (b : Bool) → 0 < bit b → b ≡ true
bit_true true some = refl
bit_true false some = let no : ⊥ = omega (arith, some) in absurd no
