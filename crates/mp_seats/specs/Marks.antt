-- The numbers of a seat's lines.
use Rattle.std.specs.Prelude.{◌≡◌, ℕ, ◌+◌, ◌≤◌, List, [], ◌∷◌, Some, slice_get}

-- the edit of a line was accepted behind so many others; or a line was refused or not read after so many; or it asked a question, which was answered after
-- so many, or had no words
pub data Mark : Type 0 where
  AcceptedAt : ℕ → Mark
  RefusedAt : ℕ → Mark
  AnsweredAt : ℕ → Mark

-- the numbers never fall, from what was seen at first on, each behind an accepted edit is above its place, and none is above the last
abbrev pub Rise : ℕ → ℕ → List Mark → Type 0
Rise seen last [] = seen ≤ last
Rise seen last (AcceptedAt k ∷ marks) = (seen ≤ k) × Rise (k + 1) last marks
Rise seen last (RefusedAt k ∷ marks) = (seen ≤ k) × Rise k last marks
Rise seen last (AnsweredAt k ∷ marks) = (seen ≤ k) × Rise k last marks

-- how many were accepted
abbrev pub accepted_of : List Mark → ℕ
accepted_of [] = 0
accepted_of (AcceptedAt k ∷ marks) = accepted_of marks + 1
accepted_of (RefusedAt k ∷ marks) = accepted_of marks
accepted_of (AnsweredAt k ∷ marks) = accepted_of marks

-- how many were refused or not read
abbrev pub refused_of : List Mark → ℕ
refused_of [] = 0
refused_of (AcceptedAt k ∷ marks) = refused_of marks
refused_of (RefusedAt k ∷ marks) = refused_of marks + 1
refused_of (AnsweredAt k ∷ marks) = refused_of marks

-- the number that was told last for an accepted edit, where this one was told before
abbrev pub told_of : ℕ → List Mark → ℕ
told_of told [] = told
told_of told (AcceptedAt k ∷ marks) = told_of (k + 1) marks
told_of told (RefusedAt k ∷ marks) = told_of told marks
told_of told (AnsweredAt k ∷ marks) = told_of told marks

-- the places of those that were accepted
abbrev pub places_of : List Mark → List ℕ
places_of [] = []
places_of (AcceptedAt k ∷ marks) = k ∷ places_of marks
places_of (RefusedAt k ∷ marks) = places_of marks
places_of (AnsweredAt k ∷ marks) = places_of marks

-- each of these places has this author
abbrev pub AreSigned : ℕ → List ℕ → List ℕ → Type 0
AreSigned author authors [] = Unit {0}
AreSigned author authors (k ∷ places) = (slice_get authors k ≡ Some author) × AreSigned author authors places
