use Rattle.std.specs.Prelude.{◌≡◌, ◌+◌, drop}
use Rattle.std.specs.List.{position_or_len}
use Rattle.mp_text.specs.Names.{is_gap}
use Rattle.mp_request.proofs.faults.spans.first_gap.Given as goal

-- the first is among those that are left
abbrev pub invariant-loop-place : goal.invariant-loop-place
invariant-loop-place l = l.place + position_or_len is_gap (drop l.place l.bytes) ≡ position_or_len is_gap l.bytes
