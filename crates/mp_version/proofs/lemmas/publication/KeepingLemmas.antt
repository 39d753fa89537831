-- Each step keeps the rule.
use Rattle.std.proofs.Common.{◌≡◌, ℕ, ◌≢◌, List, [], ◌∷◌, ◌++◌, set, refl, ◌∙◌, subst, ⊎_elim}
use mathlib.Core.Option.{some}
use lib.ListN.{get_elem?}
use Rattle.atomic_table.proofs.Lists.{at_set, at_snoc}
use Rattle.crossbeam_utils.specs.Register.{Admits, TurnsAt, Forks, Merges}
use Rattle.mp_version.proofs.PrefixLemmas.{extends_self, extends_trans}
use Rattle.mp_version.specs.publication.Chronicles.{Shown, Follows}
use Rattle.mp_version.specs.publication.Knowing.{Known, Has, Covers, Kept, Entered}

pub follows_self : (s : Shown) → Follows s s
follows_self s = record { same_book = refl; extends = extends_self s.story }

pub follows_trans : (c b a : Shown) → Follows c b → Follows b a → Follows c a
follows_trans c b a h k = record { same_book = h.same_book ∙ k.same_book; extends = extends_trans c.story b.story a.story h.extends k.extends }

pub covers_later : (c b : Shown) → Follows c b → (known : Known) → Covers b known → Covers c known
covers_later c b h [] k = tt
covers_later c b h (x ∷ xs) k = (follows_trans c b x h k.0, covers_later c b h xs k.1)

pub covers_append : (now : Shown) (xs ys : Known) → Covers now xs → Covers now ys → Covers now (xs ++ ys)
covers_append now [] ys h k = k
covers_append now (x ∷ xs) ys h k = (h.0, covers_append now xs ys h.1 k)

pub covers_has : (now : Shown) (xs : Known) (s : Shown) → Covers now xs → Has xs s → Follows now s
covers_has now [] s h k = absurd k
covers_has now (x ∷ xs) s h k = ⊎_elim (λ (e : x ≡ s). subst (Follows now) e h.0) (λ (t : Has xs s). covers_has now xs s h.1 t) k

kept_set : (now : Shown) (views : List Known) (seat : ℕ) (known : Known) → Kept now views → Covers now known → Kept now (set views seat known)
kept_set now views seat known h new j u e =
    ⊎_elim (λ (t : (j ≡ seat) × (known ≡ u)). subst (Covers now) t.1 new) (λ (t : (j ≢ seat) × (get_elem? views j ≡ some u)). h j u t.1) (at_set views seat j known u e)

kept_snoc : (now : Shown) (views : List Known) (known : Known) → Kept now views → Covers now known → Kept now (views ++ known ∷ [])
kept_snoc now views known h new j u e =
    ⊎_elim (λ (t : get_elem? views j ≡ some u). h j u t) (λ (t : known ≡ u). subst (Covers now) t new) (at_snoc views known u j e)

kept_later : (c b : Shown) (views : List Known) → Follows c b → Kept b views → Kept c views
kept_later c b views h k j u e = covers_later c b h u (k j u e)

pub admits : Admits Kept []
admits x views h = kept_snoc x views [] h tt

pub enters : (seat : ℕ) (known : Known) (x : Shown) → TurnsAt Kept seat known x x (λ v b n w. Entered v n w)
enters seat known x views h at =
    let was = h seat known at in (x ∷ known, kept_set x views seat (x ∷ known) h (follows_self x, was), (was, refl))

pub brings : (seat : ℕ) (known : Known) (x y : Shown) → Follows y x → TurnsAt Kept seat known x y (λ v b n w. w ≡ n ∷ [])
brings seat known x y up views h at = (y ∷ [], kept_set y views seat (y ∷ []) (kept_later y x views up h) (follows_self y, tt), refl)

pub tells : (seat : ℕ) (known : Known) → Forks Kept seat known known known
tells seat known x views h at = kept_snoc x (set views seat known) known (kept_set x views seat known h (h seat known at)) (h seat known at)

other_covers : (x : Shown) (views : List Known) (seat other : ℕ) (both w : Known) → Kept x views → (other ≡ seat → ⊥) → get_elem? (set views seat both) other ≡ some w → Covers x w
other_covers x views seat other both w h apart there =
    ⊎_elim (λ (t : (other ≡ seat) × (both ≡ w)). absurd (apart t.0)) (λ (t : (other ≢ seat) × (get_elem? views other ≡ some w)). h other w t.1) (at_set views seat other both w there)

pub starts : (seat other : ℕ) (known note : Known) → Merges Kept seat known other note (note ++ known) []
starts seat other known note x views h at apart there =
    let a = h seat known at in let b = other_covers x views seat other (note ++ known) note h apart there in
    kept_set x (set views seat (note ++ known)) other [] (kept_set x views seat (note ++ known) h (covers_append x note known b a)) tt
