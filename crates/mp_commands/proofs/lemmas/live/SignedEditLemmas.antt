-- The lines of edits with who made them, one after the other.
use Rattle.std.specs.Prelude.{◌≡◌, ◌+◌, ◌<◌, ◌++◌}
use Rattle.std.specs.List.{slice_get}
use Rattle.std.proofs.lemmas.Option.{slice_get_cases}
use Rattle.mp_records.specs.declared.edit.Edit.{Edit}
use Rattle.mp_commands.proofs.lemmas.answers.Names.{left_none, drop_all, left_as, left_then, left_whole, ℕ, List, length, arith, drop_more}
use Rattle.mp_commands.specs.live.SignedEdits.{signed_at, signed_from}

-- the line of the edit in a place, and then the others
pub signed_next : (authors : List ℕ) (edits : List Edit) (k : ℕ) → k < length edits → signed_from authors edits k ≡ signed_at authors (k + 1) (slice_get edits k) ++ signed_from authors edits (k + 1)
signed_next authors edits k low = grind (arith, slice_get_cases, drop_more)

pub ruleset signed_left_steps = (left_whole, signed_next, left_then, left_as, drop_all, left_none)
