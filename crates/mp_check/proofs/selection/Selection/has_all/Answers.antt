use Rattle.std.proofs.Common.{◌≡◌, ◌==◌, ℕ, List, [], ◌∷◌, length, refl, ◌∙◌, arith}
use Rattle.std.proofs.lemmas.Bool.{ne_eqb}
use Rattle.mp_check.specs.Selections.{has_none}
use Rattle.mp_check.proofs.selection.Selection.has_all.Goals as goal

none_is : (names : List (List ℕ)) → (length names == 0) ≡ has_none names
none_is [] = refl
none_is (name ∷ names) = ne_eqb (length (name ∷ names)) 0 (λ e. omega (arith, e))

pub returns : goal.returns
returns c = c.is_empty.ensures ∙ none_is c.args.self.names.now
