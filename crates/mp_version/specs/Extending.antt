-- Which stories come after which.
use Rattle.std.specs.Prelude.{◌≡◌, ℕ, ◌+◌, length, take}
use mathlib.Core.List.{IsPrefix}
use Rattle.mp_version.specs.Stories.{Story}

-- the same base, and edits that begin with those of the earlier story
pub record Extends (later earlier : Story) : Type 0 where
  pub same_base : later.base ≡ earlier.base
  pub begins : IsPrefix earlier.edits later.edits

-- the earlier story with one edit more
pub record Succeeds (later earlier : Story) : Type 0 where
  pub extends : Extends later earlier
  pub one_more : length later.edits ≡ length earlier.edits + 1

-- the story after the first edits
abbrev pub up_to : Story → ℕ → Story
up_to story k = record { base = story.base; edits = take k story.edits }
