-- Sessions whose edits are kept.
use Rattle.std.specs.Prelude.{◌≡◌, Bool, true}
use Rattle.mp_records.specs.declared.edit.Edit.{Edit}
use Rattle.mp_version.specs.Stories.{Story}
use Rattle.mp_desk.specs.Holders.{RefusedAfter}
use Rattle.mp_desk.specs.declared.submit_error.SubmitError.{SubmitError}
use Rattle.mp_desk.specs.declared.submit_error.SubmitError.TheVariants.{Refused, NotKept}

-- a session, with what keeps its edits
pub record KeptSession (S K : Type 0) : Type 0 where
  pub session : S
  pub keeper : K

-- the story of a session, and whether its further edits can't be kept
pub record Standing : Type 0 where
  pub story : Story
  pub is_lost : Bool

-- there is one that can't keep edits any more
abbrev pub MayBeLost : {K : Type 0} → (K → Bool) → Type 0
MayBeLost {K} is_lost = (keeper : K) × (is_lost keeper ≡ true)

-- an edit wasn't accepted: it was refused after the edits seen, or could not be kept, which comes only where something that keeps edits can be lost
abbrev pub NotAccepted : {K : Type 0} → (K → Bool) → Story → Story → Edit → SubmitError → Type 0
NotAccepted is_lost before seen edit (Refused error) = RefusedAfter before seen edit error
NotAccepted is_lost before seen edit NotKept = MayBeLost is_lost
