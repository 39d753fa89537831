use Rattle.std.specs.Prelude.{◌+◌}
use Rattle.mp_commands.proofs.Names.{drop, Left, lines_from}
use Rattle.mp_commands.proofs.outcome_lines.put_lines.Given as goal

-- the lines from this place on are left to write
abbrev pub invariant-loop-place : goal.invariant-loop-place
invariant-loop-place g l = Left (lines_from g.L.NumberedLine.line 1 l.things) l.fn.out l.out (lines_from g.L.NumberedLine.line (l.place + 1) (drop l.place l.things))
