-- What stands in a slot.
use Rattle.std.proofs.Common.{◌≡◌, Option, IsSome, Some, None, refl}

pub standing : {A : Type 0} (slot : Option A) → IsSome slot → (x : A) × (slot ≡ Some x)
standing None some = let none : ⊥ = cc in absurd none
standing (Some x) some = (x, refl)

pub some_is : {A : Type 0} (slot : Option A) (x : A) → slot ≡ Some x → IsSome slot
some_is None x is = let no : ⊥ = cc in absurd no
some_is (Some y) x is = refl
