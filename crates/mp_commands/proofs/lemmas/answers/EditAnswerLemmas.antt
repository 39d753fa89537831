-- The lines of edits, one after the other.
use Rattle.std.specs.Prelude.{◌≡◌, ◌+◌, ◌<◌, ◌++◌}
use Rattle.mp_commands.proofs.lemmas.answers.Names.{left_none, drop_all, left_as, left_then, left_whole, ℕ, List, length, arith, drop_more, numbered_at, edits_from}
use Rattle.std.specs.List.{slice_get}
use Rattle.std.proofs.lemmas.Option.{slice_get_cases}
use Rattle.mp_records.specs.declared.edit.Edit.{Edit}

-- the line of the edit in a place, and then the others
pub edits_next : (edits : List Edit) (k : ℕ) → k < length edits → edits_from edits k ≡ numbered_at (k + 1) (slice_get edits k) ++ edits_from edits (k + 1)
edits_next edits k low = grind (arith, slice_get_cases, drop_more)

pub ruleset lines_left_steps = (left_whole, edits_next, left_then, left_as, drop_all, left_none)
