use Rattle.std.proofs.Common.{◌≡◌, ℕ, nat_lt}
use Rattle.std.specs.Prelude.{◌&&◌}
use Rattle.mp_modules.specs.automata.Codes.{bit}
use Rattle.mp_kernel.specs.events.Adding.{listed}
use Rattle.mp_partition.specs.runs.Marks.{is_marked}
use Rattle.mp_engine.specs.messages.Lines.{parts_of}
use Rattle.mp_engine.proofs.messages.lines.lines_from.Given as goal

-- those so far have lines
abbrev pub invariant-loop-by : goal.invariant-loop-by
invariant-loop-by g l = (k : ℕ) → listed k (parts_of l.lines.items) ≡ bit (nat_lt k l.by && is_marked l.marks k)
