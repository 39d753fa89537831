use Rattle.std.proofs.Common.{◌≡◌, ◌++◌}
use Rattle.std.specs.List.{repeat}
use Rattle.mp_picture.proofs.repeated.push_repeated.Given as goal

-- the text so many times so far
abbrev pub invariant-loop : goal.invariant-loop
invariant-loop l = l.row.items ≡ l.fn.row.items ++ repeat l.counter l.text
