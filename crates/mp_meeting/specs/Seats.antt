-- Designers who sit down at their blocks, and rise.
use Rattle.std.specs.Prelude.{◌≡◌, ℕ, ◌+◌, ◌≤◌, false, List, length, map, All}
use Rattle.mp_version.specs.Stories.{Story}
use Rattle.mp_desk.specs.Holders.{Working, ExtendsEach, accepted_by}
use Rattle.mp_meeting.specs.declared.tally.Tally.{Tally}
use Rattle.mp_meeting.specs.Sittings.{DesignerTally}

-- the designer who sits there
abbrev pub working : DesignerTally → Working
working s = record { seen = s.seen; accepted = s.accepted; number = s.number; signed = s.signed; reads = s.reads }

abbrev pub tally_of : DesignerTally → Tally
tally_of s = record { accepted = s.accepted; refused = s.refused }

-- a desk that was opened with so many edits is closed at this story: it extends what each designer has seen, its other edits are theirs, and so many edits
-- each viewer saw at last, all that a designer was told of among them
pub record HasAdjourned (opening : ℕ) (sittings : List DesignerTally) (viewers : ℕ) (now : Story) (tallies : List Tally) (numbers : List ℕ) : Type 0 where
  pub whole : All (λ s. s.wanting ≡ false) sittings
  pub seen : ExtendsEach now (map working sittings)
  pub counted : length now.edits ≡ opening + accepted_by (map working sittings)
  pub tallies_are : tallies ≡ map tally_of sittings
  pub told : All (λ n. All (λ s. s.told ≤ n) sittings) numbers
  pub within : All (λ n. n ≤ length now.edits) numbers
  pub viewers_are : length numbers ≡ viewers
