-- The world of a desk, without threads: the accepted edits, what each designer and each viewer has seen, as a number of edits, and how many
-- edits of each designer were accepted.
use Rattle.std.specs.Prelude.{◌≡◌, ℕ, ◌+◌, ◌<◌, ◌≤◌, max, List, [], ◌∷◌, ◌++◌, Ok, length, sum, slice_index, slice_set}
use mathlib.Core.List.{IsPrefix}
use Rattle.mp_records.specs.declared.edit.Edit.{Edit}
use Rattle.mp_netlist.specs.Circuit.{Circuit}
use Rattle.mp_netlist.specs.Replays.{replay}
use Rattle.mp_version.specs.Limits.{max_edits}
use Rattle.mp_version.specs.Stories.{Story, judged, one_more}

pub record World : Type 0 where
  pub story : Story
  pub designers : List ℕ
  pub counts : List ℕ
  pub viewers : List ℕ

-- a designer's edit is accepted and published, or refused; a viewer reads, or is told of a number of edits
pub data Event : Type 0 where
  Accept : ℕ → Edit → Event
  Refuse : ℕ → Edit → Event
  Read : ℕ → Event
  Tell : ℕ → ℕ → Event

abbrev pub number : World → ℕ
number w = length w.story.edits

-- no edit is refused
abbrev pub IsReplay : Story → Type 0
IsReplay story = (n : Circuit) × (replay story.base story.edits ≡ Ok n)

abbrev pub IsAccepted : Story → Edit → Type 0
IsAccepted story edit = (n : Circuit) × (judged story edit ≡ Ok n)

abbrev pub MayCome : World → Event → Type 0
MayCome w (Accept i edit) = (i < length w.counts) × IsAccepted w.story edit
MayCome w (Refuse i edit) = Unit {0}
MayCome w (Read j) = Unit {0}
MayCome w (Tell j k) = k ≤ number w

abbrev pub next : World → Event → World
next w (Accept i edit) = record {
  story = one_more w.story edit;
  designers = slice_set w.designers i (number w + 1);
  counts = slice_set w.counts i (slice_index w.counts i + 1);
  viewers = w.viewers;
}
next w (Refuse i edit) = record w { designers = slice_set w.designers i (number w) }
next w (Read j) = record w { viewers = slice_set w.viewers j (number w) }
next w (Tell j k) = record w { viewers = slice_set w.viewers j (max (slice_index w.viewers j) k) }

-- each event of the run is allowed where it comes
abbrev pub IsRun : World → List Event → Type 0
IsRun w [] = Unit {0}
IsRun w (event ∷ run) = MayCome w event × IsRun (next w event) run

abbrev pub after_run : World → List Event → World
after_run w [] = w
after_run w (event ∷ run) = after_run (next w event) run

-- what a viewer reads at this event or is told, as a number of edits
abbrev pub NumberOf : ℕ → World → Event → ℕ → Type 0
NumberOf j w (Accept i edit) k = ⊥
NumberOf j w (Refuse i edit) k = ⊥
NumberOf j w (Read v) k = (v ≡ j) × (k ≡ number w)
NumberOf j w (Tell v n) k = (v ≡ j) × (k ≡ n)

-- a world in which nobody has been accepted yet
pub record IsFirst (w : World) : Type 0 where
  pub few : number w ≤ max_edits
  pub replays : IsReplay w.story
  pub uncounted : sum w.counts ≡ 0

-- the list only grows at its end, by as many edits as the counts together, and no edit of it is refused
pub record Grows (w : World) (run : List Event) : Type 0 where
  pub begins : IsPrefix w.story.edits (after_run w run).story.edits
  pub base : (after_run w run).story.base ≡ w.story.base
  pub replays : IsReplay (after_run w run).story
  pub few : number (after_run w run) ≤ max_edits
  pub counted : number w + sum (after_run w run).counts ≡ number (after_run w run)

-- what a viewer reads is a beginning of the last list, and no shorter than any number that this viewer had read or been told
abbrev pub ReadsWell : World → List Event → Type 0
ReadsWell w run =
    (before rest : List Event) (j : ℕ) → run ≡ before ++ Read j ∷ rest → IsPrefix (after_run w before).story.edits (after_run w run).story.edits
    × ((a b : List Event) (event : Event) (k : ℕ) → before ≡ a ++ event ∷ b → NumberOf j (after_run w a) event k → k ≤ number (after_run w before))

-- so it is in every run
abbrev pub EveryRun : Type 0
EveryRun = (w : World) (run : List Event) → IsFirst w → IsRun w run → Grows w run × ReadsWell w run
