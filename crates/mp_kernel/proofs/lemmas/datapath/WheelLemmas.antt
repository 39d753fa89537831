-- Changes that are scheduled one after the other.
use Rattle.std.proofs.Common.{◌≡◌, ℕ, List, [], ◌∷◌, ◌++◌, refl}
use Rattle.mp_kernel.specs.declared.datapath.level_change.LevelChange.{LevelChange}
use Rattle.mp_kernel.specs.datapath.LevelWheels.{with_entry, scheduled}

pub levels_append : (slots : List (List LevelChange)) (xs ys : List (ℕ × LevelChange)) → scheduled slots (xs ++ ys) ≡ scheduled (scheduled slots xs) ys
levels_append slots [] ys = refl
levels_append slots (x ∷ xs) ys = levels_append (with_entry slots x.0 x.1) xs ys
