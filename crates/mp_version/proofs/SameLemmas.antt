-- Lists that agree in each place.
use Rattle.std.proofs.Common.{◌≡◌, ℕ, ◌<◌, List, Option, Some, None, length, get_or, sym, ◌∙◌, arith}
use Rattle.std.proofs.lemmas.List.{ext_get_or, same_lists}
use Rattle.std.proofs.lemmas.Option.{slice_get-get_or}
use Rattle.std.specs.List.{slice_get}

-- slots that agree in each place
pub same_slots : {R : Type 0} (xs ys : List (Option R)) → length xs ≡ length ys → ((k : ℕ) → k < length xs → get_or xs k None ≡ get_or ys k None) → xs ≡ ys
same_slots xs ys long each = ext_get_or None xs ys long each

same_some : {X : Type 0} (x y : X) → Some x ≡ Some y → x ≡ y
same_some x y same = cc

-- lists that agree in each place
pub same_places : {X : Type 0} (xs ys : List X) → length xs ≡ length ys → ((k : ℕ) → k < length xs → slice_get xs k ≡ slice_get ys k) → xs ≡ ys
same_places {X} xs ys long each = same_lists xs ys long by
  where
    by : (k : ℕ) (d : X) → k < length xs → get_or xs k d ≡ get_or ys k d
    by k d within =
        let there : k < length ys = omega (arith, within, long) in
        same_some (get_or xs k d) (get_or ys k d) (sym (slice_get-get_or xs k d within) ∙ each k within ∙ slice_get-get_or ys k d there)
