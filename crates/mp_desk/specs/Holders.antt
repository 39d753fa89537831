-- What contracts see of a desk, and of those who work at it.
use Rattle.std.specs.Prelude.{◌≡◌, ◌⊎◌, ◌<◌, ◌∷◌, ◌++◌, [], ℕ, ◌+◌, List, length, slice_index_or, All}
use mathlib.Core.List.{IsPrefix}
use Rattle.logbook.specs.Pages.{Book}
use Rattle.mp_records.specs.declared.edit.Edit.{Edit}
use Rattle.mp_records.specs.declared.edit_error.EditError.{EditError}
use Rattle.mp_records.specs.declared.edit_error.EditError.TheVariants.{OutOfMemory}
use Rattle.mp_netlist.specs.Edits.{RefusedBy}
use Rattle.mp_version.specs.Stories.{Story, judged}
use Rattle.mp_version.specs.Extending.{Extends}
use Rattle.mp_version.specs.publication.Chronicles.{unsigned}

-- a story whose edits have these authors goes on from an earlier one, of whose edits these authors were known
pub record GoesOn (now : Story) (authors : List ℕ) (before : Story) (known : List ℕ) : Type 0 where
  pub extends : Extends now before
  pub begins : IsPrefix known authors

-- a viewer: the version that was read last, the longest of those that were learnt of, all versions that were read at this place, the newest first, and the
-- authors of the last one's edits
pub record Seeing : Type 0 where
  pub last : Story
  pub learnt : Story
  pub reads : List Story
  pub signed : List ℕ

-- a designer: the version that was seen last, how many edits were accepted, the designer's number, the authors of that version's edits, and all versions that
-- were read at this place, the newest first
pub record Working : Type 0 where
  pub seen : Story
  pub accepted : ℕ
  pub number : ℕ
  pub signed : List ℕ
  pub reads : List Story

-- the parts of a desk: the session, how many designers and viewers there will be, and which history and ledger it has
pub record Parts (S : Type 0) : Type 0 where
  pub session : S
  pub designers : ℕ
  pub viewers : ℕ
  pub book : Book
  pub ledger : ℕ

-- a desk: the number of the version with which it was opened, and how many designers it has
pub record Opened : Type 0 where
  pub opening : ℕ
  pub designers : ℕ

-- an edit was refused after the edits seen; want of memory may also come before anything was seen
abbrev pub RefusedAfter : Story → Story → Edit → EditError → Type 0
RefusedAfter before seen edit error = RefusedBy edit (judged seen edit) error ⊎ ((error ≡ OutOfMemory) × (seen ≡ before))

-- a designer of this number who has just come
abbrev pub fresh_designer : ℕ → Story → Working
fresh_designer number s = record { seen = s; accepted = 0; number = number; signed = unsigned s; reads = s ∷ [] }

-- designers who have just come, numbered from 1
abbrev pub AreFresh : Story → List Working → Type 0
AreFresh s designers = (k : ℕ) (d : Working) → k < length designers → slice_index_or designers k d ≡ fresh_designer (k + 1) s

-- an edit was accepted as the last one of this story: its author is this designer, and those of the edits before begin with what the designer had signed
abbrev pub Signs : Working → Working → Story → Type 0
Signs old new story = (before : List ℕ) × IsPrefix old.signed before × (length before + 1 ≡ length story.edits) × (new.signed ≡ before ++ old.number ∷ [])

-- a viewer who has just come
abbrev pub fresh_viewer : Story → Seeing
fresh_viewer s = record { last = s; learnt = s; reads = s ∷ []; signed = unsigned s }

-- these viewers have read last and learnt of what those in their places had, and know the same authors
abbrev pub HaveSeenTheSame : List Seeing → List Seeing → Type 0
HaveSeenTheSame old new =
    (length new ≡ length old)
    × ((k : ℕ) (v : Seeing) → ((slice_index_or new k v).last ≡ (slice_index_or old k v).last) × ((slice_index_or new k v).learnt ≡ (slice_index_or old k v).learnt)
    × ((slice_index_or new k v).signed ≡ (slice_index_or old k v).signed))

-- the story extends what each designer has seen
abbrev pub ExtendsEach : Story → List Working → Type 0
ExtendsEach now [] = Unit {0}
ExtendsEach now (d ∷ ds) = Extends now d.seen × ExtendsEach now ds

-- how many of their edits were accepted
abbrev pub accepted_by : List Working → ℕ
accepted_by [] = 0
accepted_by (d ∷ ds) = d.accepted + accepted_by ds

-- the authors begin with what each designer has signed
abbrev pub BeginWithEach : List ℕ → List Working → Type 0
BeginWithEach authors [] = Unit {0}
BeginWithEach authors (d ∷ ds) = IsPrefix d.signed authors × BeginWithEach authors ds

-- an author for each edit of the story, as each designer has signed; and what each viewer has read, with its authors, is a beginning
abbrev pub IsSigned : Story → List Working → List Seeing → Type 0
IsSigned now designers viewers =
    (authors : List ℕ) × (length authors ≡ length now.edits) × BeginWithEach authors designers × All (λ v. GoesOn now authors v.last v.signed) viewers
