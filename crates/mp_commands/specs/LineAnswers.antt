-- What a line that comes is answered.
use Rattle.std.specs.Prelude.{◌≡◌}
use Rattle.mp_commands.specs.Names.{Kept, too_long_text, Bool, ℕ, List, Option, Some, None}
use Rattle.mp_commands.specs.Replies.{reply, IsNext}

-- the answer to a line that was given, where memory was wanting for it or not: the reply that a script has there
abbrev pub answer : Bool → Kept → Option (List ℕ) → List ℕ
answer wanting kept None = too_long_text
answer wanting kept (Some line) = reply wanting kept line

-- what is kept after it
abbrev pub IsKeptBy : Bool → Kept → Option (List ℕ) → Kept → Type 0
IsKeptBy wanting old None new = new ≡ old
IsKeptBy wanting old (Some line) new = IsNext wanting old line new

-- a line has this answer, and this is kept after it; memory may be wanting for an edit
abbrev pub IsAnswer : Kept → Option (List ℕ) → Kept → List ℕ → Type 0
IsAnswer kept line now text = (wanting : Bool) × IsKeptBy wanting kept line now × (text ≡ answer wanting kept line)
