-- How the greatest closed set is found.
use Rattle.std.specs.Prelude.{◌≡◌, ℕ, ◌+◌, ◌/◌, ◌<◌, Bool, true, false, not, ◌&&◌, ◌||◌, List, [], ◌∷◌, ◌++◌, length, slice_set, suc, if◌then◌else◌}
use Rattle.mp_holding.specs.declared.sets.needs.Need.TheVariants.{Member}
use Rattle.mp_holding.specs.declared.sets.needs.Needs.{Needs}
use Rattle.mp_holding.specs.declared.sets.needs.Shape.{Shape}
use Rattle.mp_holding.specs.sets.ClosedSets.{is_in, is_closed}
use Rattle.mp_holding.specs.sets.Laws.{IsWithin}
use Rattle.mp_holding.specs.sets.Marks.{is_marked}
use Rattle.mp_holding.specs.sets.Needs.{are_met_at, need_at}

-- ---- one number is looked at

-- it is left, and what is left doesn't meet its needs
abbrev pub falls : Shape → List Needs → ℕ → List Bool → Bool
falls shape needs k marks = is_marked marks k && not (are_met_at shape needs (is_marked marks) k)

abbrev pub marks_after : Shape → List Needs → ℕ → List Bool → List Bool
marks_after shape needs k marks = if falls shape needs k marks then slice_set marks k false else marks

abbrev pub gone_after : Shape → List Needs → ℕ → List Bool → List ℕ → List ℕ
gone_after shape needs k marks gone = if falls shape needs k marks then gone ++ k ∷ [] else gone

-- ---- all of them

-- what is left, and what has gone last
abbrev pub left_or_gone : List Bool → List ℕ → ℕ → Bool
left_or_gone marks gone k = is_marked marks k || is_in gone k

-- no closed set has lost a member, and what is left of the numbers that were looked at is kept by what is left and what has gone last
pub record IsGood (shape : Shape) (needs : List Needs) (looked : ℕ → Type 0) (marks : List Bool) (gone : List ℕ) : Type 0 where
  pub places : length marks ≡ length needs
  pub within : (k : ℕ) → is_in gone k ≡ true → k < length needs
  pub closed : (set : List ℕ) → is_closed (are_met_at shape needs) set ≡ true → IsWithin (is_in set) (is_marked marks)
  pub kept : (k : ℕ) → looked k → is_marked marks k ≡ true → are_met_at shape needs (left_or_gone marks gone) k ≡ true

abbrev pub everywhere : ℕ → Type 0
everywhere k = Unit {0}

-- the numbers that don't need one
abbrev pub where_no_need : List Needs → ℕ → ℕ → Type 0
where_no_need needs gone k = (place : ℕ) → place / 4 ≡ k → need_at needs place ≡ Member gone → ⊥

-- how many numbers are left, and how many have gone last
abbrev pub marked_count : List Bool → ℕ
marked_count [] = 0
marked_count (true ∷ marks) = suc (marked_count marks)
marked_count (false ∷ marks) = marked_count marks

abbrev pub left_count : List Bool → List ℕ → ℕ
left_count marks gone = marked_count marks + length gone
