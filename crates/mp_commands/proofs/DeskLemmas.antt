-- The blocks of an input, and the lines of a meeting.
use Rattle.std.specs.Prelude.{◌≡◌, ◌+◌, ◌<◌, ◌∷◌, ◌++◌}
use Rattle.mp_commands.proofs.Names.{ℕ, true, false, List, [], length, drop, slice_index_or, Result, Ok, Err, IsErr, IsOk, refl, sym, ap, subst, ◌∙◌, length-map, drop_more, Failed, Left, left_as, left_then, left_failed, writes_failed, Circuit, replay, lines_of, parts_of, later_parts, are_divided, lines_of_each, Story, present, blocks_of, outcome_text, IsDeskText, run_fault_of, lines_from, Outgoing}
use Rattle.std.specs.Borrow.{Bor}
use Rattle.mp_streams.specs.Outgoing.{Writes}
use Rattle.mp_text.proofs.lemmas.lexing.DivisionLemmas.{parts_of-split, parts_of-one}
use Rattle.mp_meeting.specs.declared.tally.Tally.{Tally}
use Rattle.mp_meeting.specs.declared.meeting_fault.MeetingFault.{MeetingFault}
use Rattle.mp_meeting.specs.declared.meeting_fault.MeetingFault.TheVariants.{OutOfMemory, NoPlace}
use Rattle.mp_meeting.specs.Meetings.{IsMeeting}
use Rattle.mp_commands.specs.declared.command_runs.run_fault.RunFault.{RunFault}
use Rattle.mp_commands.specs.command_runs.Runs.{Refuses}

-- ---- lines, place by place

module _ {S X : Type 0} (line : ℕ → X → List ℕ) (a b c : Outgoing S) (xs : List X) (k : ℕ) (x : X) where
  next_line : k < length xs → x ≡ slice_index_or xs k x → lines_from line (k + 1) (drop k xs) ≡ line (k + 1) x ++ lines_from line (k + 1 + 1) (drop (k + 1) xs)
  next_line within here = ap (lines_from line (k + 1)) (drop_more xs k x within ∙ ap (λ y. y ∷ drop (k + 1) xs) (sym here))

  -- a line more
  pub line_put : Writes {T = Unit {0}} (Ok tt) b c (line (k + 1) x) → x ≡ slice_index_or xs k x → k < length xs
      → Left (lines_from line 1 xs) a b (lines_from line (k + 1) (drop k xs)) → Left (lines_from line 1 xs) a c (lines_from line (k + 1 + 1) (drop (k + 1) xs))
  line_put put here within left = left_then (left_as (next_line within here) left) put

  -- a line failed
  pub line_failed : {error : Failed} → Writes {T = Unit {0}} (Err error) b c (line (k + 1) x) → x ≡ slice_index_or xs k x → k < length xs
      → Left (lines_from line 1 xs) a b (lines_from line (k + 1) (drop k xs)) → (r : Result (Unit {0}) Failed) → IsErr r → Writes r a c (lines_from line 1 xs)
  line_failed {error = error} put here within left r is = left_failed (lines_from line (k + 1 + 1) (drop (k + 1) xs)) (left_as (next_line within here) left) r is (writes_failed r is put)

-- ---- the blocks

pub blocks_of-none : (input : List ℕ) → are_divided (lines_of input) ≡ false → blocks_of input ≡ []
blocks_of-none input undivided = ap (λ (l : List (List (List ℕ))). drop 1 l) (parts_of-one (lines_of input) undivided)

pub blocks_of-some : (input : List ℕ) → are_divided (lines_of input) ≡ true → blocks_of input ≡ parts_of (later_parts (lines_of input))
blocks_of-some input divided = ap (λ (l : List (List (List ℕ))). drop 1 l) (parts_of-split (lines_of input) divided)

-- there are so many of them
pub blocks_count : (input : List ℕ) (blocks : List (Bor (List ℕ))) (n : ℕ) → n ≡ length blocks → lines_of_each blocks ≡ blocks_of input → n ≡ length (blocks_of input)
blocks_count input blocks n same are = same ∙ sym (length-map blocks (λ text. lines_of text.now)) ∙ ap length are

-- ---- the meeting

-- one that didn't come about, where designers and viewers sit down
pub refused_meeting : (opening : Result Circuit RunFault) (fault : MeetingFault) → IsOk opening → Refuses true opening (run_fault_of fault)
refused_meeting opening OutOfMemory is = tt
refused_meeting opening NoPlace is = (refl, is)

-- the text of a meeting is one that may be written
pub is_text : (netlist : Circuit) (blocks : List (List (List ℕ))) (viewers : ℕ) (story : Story) (tallies : List Tally) (numbers : List ℕ)
    → IsMeeting netlist blocks story tallies numbers → length numbers ≡ viewers → replay story.base story.edits ≡ Ok (present story)
    → IsDeskText netlist blocks viewers (outcome_text tallies numbers (present story))
is_text netlist blocks viewers story tallies numbers met count replayed = record {
  now = story;
  tallies = tallies;
  numbers = numbers;
  last = present story;
  meeting = met;
  replayed = subst (λ (base : Circuit). replay base story.edits ≡ Ok (present story)) met.same_base replayed;
  viewers_are = count;
  form = refl;
}
