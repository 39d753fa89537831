-- What a place knows of the published version, and what a step tells it.
use Rattle.std.specs.Prelude.{◌≡◌, ◌⊎◌, ℕ, List, [], ◌∷◌, map}
use mathlib.Core.Option.{some}
use lib.ListN.{get_elem?}
use Rattle.mp_version.specs.Stories.{Story}
use Rattle.mp_version.specs.publication.Chronicles.{Shown, Follows}

-- what was read
abbrev pub Known : Type 0
Known = List Shown

-- the stories that were read
abbrev pub stories_of : Known → List Story
stories_of known = map (λ s. s.story) known

-- the version follows all that was read
abbrev pub Covers : Shown → Known → Type 0
Covers now [] = Unit {0}
Covers now (s ∷ known) = Follows now s × Covers now known

-- the version was read
abbrev pub Has : Known → Shown → Type 0
Has [] s = ⊥
Has (x ∷ xs) s = (x ≡ s) ⊎ Has xs s

-- the rule: what is published follows all that any place has read
abbrev pub Kept : Shown → List Known → Type 0
Kept now views = (seat : ℕ) (known : Known) → get_elem? views seat ≡ some known → Covers now known

-- a place that entered has read what was published
abbrev pub Entered : Known → Shown → Known → Type 0
Entered known now new = Covers now known × (new ≡ now ∷ known)

-- nothing, or one more version was read
abbrev pub OnlyReads : Known → Known → Type 0
OnlyReads before after = (after ≡ before) ⊎ ((y : Shown) × (after ≡ y ∷ before))

-- all that was read before is among what was read
abbrev pub KeepsRead : Known → Known → Type 0
KeepsRead before after = (s : Shown) → Has before s → Has after s

-- the version follows all that was read
abbrev pub FollowsRead : Shown → Known → Type 0
FollowsRead now known = (s : Shown) → Has known s → Follows now s
