-- What `desk` writes for its input.
use Rattle.std.specs.Prelude.{◌≡◌, ◌∷◌, ◌++◌, ◌&&◌}
use Rattle.mp_commands.specs.Names.{Circuit, replay, lines_of, parts_of, Story, Options, has_valid_crew, lines_from, ℕ, Bool, List, [], length, drop, Ok, codes, decimal, is_desk_size, Tally, IsMeeting, waves_text}

-- the blocks of an input, one behind each division
abbrev pub blocks_of : List ℕ → List (List (List ℕ))
blocks_of input = drop 1 (parts_of (lines_of input))

-- 1 to 8 designers and 1 to 32 viewers, and a crew
abbrev pub has_valid_desk : ℕ → Options → Bool
has_valid_desk designers options = has_valid_crew options && is_desk_size designers options.viewers

-- `designer J accepted A refused B`
abbrev pub tally_line : ℕ → Tally → List ℕ
tally_line j tally = codes "designer " ++ (decimal j ++ (codes " accepted " ++ (decimal tally.accepted ++ (codes " refused " ++ (decimal tally.refused ++ (10 ∷ []))))))

-- `viewer J saw N`
abbrev pub viewer_line : ℕ → ℕ → List ℕ
viewer_line j number = codes "viewer " ++ (decimal j ++ (codes " saw " ++ (decimal number ++ (10 ∷ []))))

-- the lines of a meeting that led to this netlist
abbrev pub outcome_text : List Tally → List ℕ → Circuit → List ℕ
outcome_text tallies numbers last = (lines_from tally_line 1 tallies ++ lines_from viewer_line 1 numbers) ++ waves_text last

-- a text that may be written: there was a meeting, whose accepted edits lead from the netlist to the one whose waves are written
pub record IsDeskText (netlist : Circuit) (blocks : List (List (List ℕ))) (viewers : ℕ) (text : List ℕ) : Type 0 where
  pub now : Story
  pub tallies : List Tally
  pub numbers : List ℕ
  pub last : Circuit
  pub meeting : IsMeeting netlist blocks now tallies numbers
  pub replayed : replay netlist now.edits ≡ Ok last
  pub viewers_are : length numbers ≡ viewers
  pub form : text ≡ outcome_text tallies numbers last
