-- A netlist that is edited, of which questions are asked.
use Rattle.mp_commands.specs.answers.Names.{Edit, Circuit, WorkEntry, List, Story, present}

-- a netlist, the edits that led to it, and what was evaluated for the last of them
pub record Kept : Type 0 where
  pub netlist : Circuit
  pub edits : List Edit
  pub work : List WorkEntry

-- what is kept after a story whose last edit has this work
abbrev pub kept_at : Story → List WorkEntry → Kept
kept_at story work = record { netlist = present story; edits = story.edits; work = work }
