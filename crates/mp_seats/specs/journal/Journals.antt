-- A journal of edits: what its sink has taken.
use Rattle.std.specs.Prelude.{◌≡◌, ◌≤◌, ℕ, Bool, true, false, List, ◌++◌, drop, length, Option, Result, Ok, Err, MatchBool}
use Rattle.std.specs.Io.KnownBytes.{Appends}
use Rattle.mp_streams.specs.StreamBytes.{AppendsPrefix}
use Rattle.mp_streams.specs.declared.failed.Failed.{Failed}
use Rattle.mp_records.specs.declared.edit.Edit.{Edit}
use Rattle.mp_text.specs.edit_lines.EditLines.{edit_lines}
use Rattle.mp_version.specs.declared.edit_keeper.NotKept.{NotKept}

-- a journal: the bytes that its sink had taken before and those that it has taken now, as far as it tells them, whether a write failed, and how many edits
-- there were when it was begun
pub record Journal : Type 0 where
  pub before : Option (List ℕ)
  pub taken : Option (List ℕ)
  pub is_lost : Bool
  pub opening : ℕ

-- the sink took these bytes behind those from before; where a write failed, it took all of them, and may have a part of a line behind them
abbrev pub HasTaken : Journal → List ℕ → Type 0
HasTaken journal bytes = MatchBool journal.is_lost ((part : List ℕ) × Appends journal.before journal.taken (bytes ++ part)) (Appends journal.before journal.taken bytes)

-- the bytes are with the sink, or a part of them from the front where a write failed
abbrev pub Passes : {T : Type 0} → Result T Failed → Option (List ℕ) → Option (List ℕ) → List ℕ → Type 0
Passes (Ok done) old new bytes = Appends old new bytes
Passes (Err failed) old new bytes = AppendsPrefix old new bytes

-- whatever the journal had, it has these bytes behind it; where the write failed, it has what it had, and is lost
abbrev pub Continues : Result (Unit {0}) NotKept → Journal → Journal → List ℕ → Type 0
Continues (Ok done) old new bytes = (new.is_lost ≡ false) × (new.opening ≡ old.opening) × ((first : List ℕ) → HasTaken old first → HasTaken new (first ++ bytes))
Continues (Err error) old new bytes = (new.is_lost ≡ true) × (new.opening ≡ old.opening) × ((first : List ℕ) → HasTaken old first → HasTaken new first)

-- the journal has the lines of the edits behind the first ones, in order and each whole
abbrev pub KeepsEdits : Journal → List Edit → Type 0
KeepsEdits journal edits = (journal.opening ≤ length edits) × HasTaken journal (edit_lines (drop journal.opening edits))
