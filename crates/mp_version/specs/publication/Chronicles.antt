-- The one history of a desk: a log of versions, each with one edit more than the one before, and of those who made them. It exists in the proofs alone.
use Rattle.std.specs.Prelude.{◌≡◌, ℕ, ◌+◌, ◌==◌, true, List, [], ◌∷◌, ◌++◌, map, replicate, length, MatchBool}
use Rattle.logbook.specs.Pages.{Cell, Step, View, Book, Named}
use Rattle.mp_netlist.specs.declared.format.Format.TheVariants.{Standard}
use Rattle.mp_version.specs.Stories.{Story, opening}
use Rattle.mp_version.specs.Extending.{Extends, Succeeds}
use Rattle.mp_version.specs.declared.publication.chronicle.HistoryEntry.{HistoryEntry}

abbrev pub entry : Story → ℕ → HistoryEntry
entry story author = record { version = story; author = author }

-- a story for a log that has none
abbrev pub blank_story : Story
blank_story = opening (record { format = Standard; horizon = 0; wires = []; modules = []; bundles = [] })

abbrev pub last_of : Story → List HistoryEntry → Story
last_of s [] = s
last_of s (x ∷ xs) = last_of x.version xs

-- the latest story of the log
abbrev pub latest : List HistoryEntry → Story
latest [] = blank_story
latest (x ∷ xs) = last_of x.version xs

-- nobody at the desk made the edits of a story with which a history begins
abbrev pub unsigned : Story → List ℕ
unsigned story = replicate (length story.edits) 0

-- an author for each edit of the latest story
abbrev pub authors : List HistoryEntry → List ℕ
authors [] = []
authors (x ∷ xs) = unsigned x.version ++ map (λ e. e.author) xs

-- 1 more than the number of the latest story, and 0 before there is one
abbrev pub mark : List HistoryEntry → ℕ
mark [] = 0
mark (x ∷ xs) = length (last_of x.version xs).edits + 1

abbrev pub ChainFrom : Story → List HistoryEntry → Type 0
ChainFrom s [] = Unit {0}
ChainFrom s (x ∷ xs) = Succeeds x.version s × ChainFrom x.version xs

-- each story has one edit more than the one before
abbrev pub Chain : List HistoryEntry → Type 0
Chain [] = Unit {0}
Chain (x ∷ xs) = ChainFrom x.version xs

-- the story may come next
abbrev pub MayAdd : List HistoryEntry → Story → Type 0
MayAdd [] y = Unit {0}
MayAdd (x ∷ xs) y = Succeeds y (last_of x.version xs)

-- the first word is the log's mark
pub record IsKept (cells : List Cell) (log : List HistoryEntry) : Type 0 where
  pub words : cells ≡ (mark log, true) ∷ (0, true) ∷ []
  pub chain : Chain log

abbrev pub writer_of : Book → Named
writer_of b = record { tracked = true; key = 0; book = b }

-- the entry was added to all that had been seen, where the mark was the one expected
abbrev pub Adds : Step HistoryEntry → View HistoryEntry ℕ → ℕ → View HistoryEntry ℕ → Type 0
Adds s v found w = MatchBool (found == s.old) (w.0 ≡ v.0 ++ s.ask ∷ []) (Unit {0})

-- which history it is, and a story that it has reached
pub record Shown : Type 0 where
  pub book : Book
  pub story : Story

-- a story of the same history that extends the earlier one
pub record Follows (later earlier : Shown) : Type 0 where
  pub same_book : later.book ≡ earlier.book
  pub extends : Extends later.story earlier.story

-- which history it is, and the authors of the edits of a story that it has reached
pub record Signed : Type 0 where
  pub book : Book
  pub authors : List ℕ

-- which history it is, the story up to which it was written, and the authors of its edits
pub record Written : Type 0 where
  pub book : Book
  pub story : Story
  pub authors : List ℕ

-- the history goes on with this story, by this author
abbrev pub written_on : Written → Story → ℕ → Written
written_on before story author = record { book = before.book; story = story; authors = before.authors ++ author ∷ [] }
