use Rattle.std.proofs.Common.{◌≡◌, List, ℕ, [], ◌∷◌, length, drop, refl, sym, ap, arith}
use Rattle.mp_commands.proofs.views.cause_picture.shown.Goals as goal

none : (names : List (List ℕ)) → length names ≡ 0 → names ≡ drop 1 names
none [] is = refl
none (name ∷ names) is = absurd (omega (arith, is))

pub returns-in-None : goal.returns-in-None
returns-in-None c = none c.args.names.now c.in-None.ensures.cases

pub returns-in-Some : goal.returns-in-Some
returns-in-Some c = sym (ap (drop 1) c.in-Some.ensures.cases.0)
