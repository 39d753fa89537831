-- Bytes on their way from a source to lines, and what reading a line makes of them.
use Rattle.std.specs.Prelude.{◌≡◌, ◌⊎◌, ℕ, ◌<◌, Bool, true, false, List, [], ◌++◌, length, Option, Result, Ok, Err}
use Rattle.std.specs.Io.KnownBytes.{Consumes}
use Rattle.std.specs.List.{before_first, after_first}
use Rattle.mp_streams.specs.declared.failed.Failed.{Failed}
use Rattle.mp_text.specs.lexing.Lines.{is_line_feed}
use Rattle.mp_text.specs.lines.Chunks.{SourceChunk}
use Rattle.mp_text.specs.lines.Given.{given, has_line_feed}

-- the bytes that the source has left, where it tells them, those that were taken and are in no line yet, whether the source told its end, the
-- line that was read last, and how often the source failed
pub record Incoming : Type 0 where
  pub left : Option (List ℕ)
  pub held : List ℕ
  pub ended : Bool
  pub line : Option (List ℕ)
  pub faults : ℕ

-- what comes of a source, by what it has left and its faults
abbrev pub incoming : Option (List ℕ) → ℕ → SourceChunk → Option (List ℕ) → Incoming
incoming left faults chunk line = record { left = left; held = chunk.bytes; ended = chunk.is_last; line = line; faults = faults }

-- a line was read off these bytes: it is the first of them, and ends there or with the source
pub record IsFirstLine (bytes : List ℕ) (new : Incoming) : Type 0 where
  pub some : 0 < length bytes
  pub line : new.line ≡ given (before_first is_line_feed bytes)
  pub rest : new.held ≡ after_first is_line_feed bytes
  pub ends : (has_line_feed bytes ≡ true) ⊎ (new.ended ≡ true)

-- what a read made of the bytes that were held and taken: a line, nothing at the end of the source, or after a fault a part of a line that is lost
abbrev pub Becomes : Result Bool Failed → List ℕ → Incoming → Type 0
Becomes (Ok true) bytes new = IsFirstLine bytes new
Becomes (Ok false) bytes new = (bytes ≡ []) × (new.held ≡ []) × (new.ended ≡ true)
Becomes (Err failed) bytes new = (has_line_feed bytes ≡ false) × (new.held ≡ [])

-- a read took some bytes of the source, none behind its end, and made this of them behind those that were held
pub record ReadsLine (result : Result Bool Failed) (old new : Incoming) : Type 0 where
  pub bytes : List ℕ
  pub taken : Consumes old.left new.left bytes
  pub none : old.ended ≡ true → bytes ≡ []
  pub ended : old.ended ≡ true → new.ended ≡ true
  pub becomes : Becomes result (old.held ++ bytes) new

-- the source is not asked for bytes where a whole line is held
abbrev pub StaysIfHeld : Incoming → Incoming → Type 0
StaysIfHeld old new = has_line_feed old.held ≡ true → (new.left ≡ old.left) × (new.faults ≡ old.faults)
