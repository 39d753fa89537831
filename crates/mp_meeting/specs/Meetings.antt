-- What designers and viewers did at one desk.
use Rattle.std.specs.Prelude.{◌≡◌, ℕ, ◌+◌, ◌≤◌, List, [], ◌∷◌, length, All}
use Rattle.mp_netlist.specs.Circuit.{Circuit}
use Rattle.mp_version.specs.Stories.{Story}
use Rattle.mp_meeting.specs.declared.tally.Tally.{Tally}
use Rattle.mp_meeting.specs.Fates.{Fate, said, AreFates, Rise, AreAmong, accepted_of, refused_of}

-- the lines of a block have these fates, and each viewer saw the accepted ones at last
pub record IsWorked (now : Story) (numbers : List ℕ) (lines : List (List ℕ)) (tally : Tally) : Type 0 where
  pub fates : List Fate
  pub judged : AreFates now (said lines) fates
  pub rise : Rise 0 (length now.edits) fates
  pub accepted : tally.accepted ≡ accepted_of fates
  pub refused : tally.refused ≡ refused_of fates
  pub seen : All (λ number. AreAmong number fates) numbers

-- a tally for each block
abbrev pub AreWorked : Story → List ℕ → List (List (List ℕ)) → List Tally → Type 0
AreWorked now numbers [] [] = Unit {0}
AreWorked now numbers (block ∷ blocks) (tally ∷ tallies) = IsWorked now numbers block tally × AreWorked now numbers blocks tallies
AreWorked now numbers blocks tallies = ⊥

abbrev pub accepted_by : List Tally → ℕ
accepted_by [] = 0
accepted_by (tally ∷ tallies) = tally.accepted + accepted_by tallies

-- from this netlist the designers' blocks led to this story, and so many edits each viewer saw at last
pub record IsMeeting (base : Circuit) (blocks : List (List (List ℕ))) (now : Story) (tallies : List Tally) (numbers : List ℕ) : Type 0 where
  pub same_base : now.base ≡ base
  pub worked : AreWorked now numbers blocks tallies
  pub counted : accepted_by tallies ≡ length now.edits
  pub within : All (λ number. number ≤ length now.edits) numbers
