use Rattle.std.proofs.Common.{Ok, take}
use Rattle.std.specs.List.{flat_map}
use Rattle.mp_streams.specs.Outgoing.{Writes}
use Rattle.mp_text.specs.edit_lines.EditLines.{behind_text}
use Rattle.mp_text.proofs.edit_lines.edit_text.OthersText.put_to.Given as goal

-- the edits so far are written
abbrev pub invariant-loop-edit : goal.invariant-loop-edit
invariant-loop-edit g l = Writes {T = Unit {0}} (Ok tt) l.fn.out l.out (flat_map behind_text (take l.edit-index l.self.edits.now))
