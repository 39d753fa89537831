-- What a version is the state after: a netlist, and the edits that were accepted on it.
use Rattle.std.specs.Prelude.{List, [], ◌∷◌, ◌++◌, length, Result, Ok, Err, nat_lt, if◌then◌else◌}
use Rattle.mp_records.specs.declared.edit.Edit.{Edit}
use Rattle.mp_records.specs.declared.edit_error.EditError.{EditError}
use Rattle.mp_records.specs.declared.edit_error.EditError.TheVariants.{HistoryFull}
use Rattle.mp_netlist.specs.Circuit.{Circuit}
use Rattle.mp_netlist.specs.Edits.{after}
use Rattle.mp_netlist.specs.Replays.{replay}
use Rattle.mp_version.specs.Limits.{max_edits}

-- the netlist of the beginning, and the accepted edits in order
pub record Story : Type 0 where
  pub base : Circuit
  pub edits : List Edit

-- a netlist before the first edit
abbrev pub opening : Circuit → Story
opening n = record { base = n; edits = [] }

-- the story with one more edit
abbrev pub one_more : Story → Edit → Story
one_more story edit = record { base = story.base; edits = story.edits ++ edit ∷ [] }

-- the netlist, where no edit was refused
abbrev pub netlist_or : Circuit → Result Circuit EditError → Circuit
netlist_or n (Ok m) = m
netlist_or n (Err error) = n

-- the netlist to which the edits of a story lead, none of which is refused
abbrev pub present : Story → Circuit
present story = netlist_or story.base (replay story.base story.edits)

-- one more edit is accepted, where there are fewer than a session may have
abbrev pub counted_edit : List Edit → Result Circuit EditError → Result Circuit EditError
counted_edit edits (Err error) = Err error
counted_edit edits (Ok n) = if nat_lt (length edits) max_edits then Ok n else Err HistoryFull

-- the netlist after one more edit, or why the edit is refused: for its own fault, and else for a full history
abbrev pub judged : Story → Edit → Result Circuit EditError
judged story edit = counted_edit story.edits (after (present story) edit)
