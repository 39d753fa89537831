use Rattle.std.specs.Prelude.{◌≡◌, ◌+◌, drop}
use Rattle.std.specs.List.{position_or_len}
use Rattle.mp_text.specs.Names.{is_allowed}
use Rattle.mp_request.proofs.faults.spans.allowed_byte.Given as goal

-- the first is among those that are left
abbrev pub invariant-loop-place : goal.invariant-loop-place
invariant-loop-place l = l.place + position_or_len is_allowed (drop l.place l.line) ≡ position_or_len is_allowed l.line
