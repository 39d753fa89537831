use Rattle.mp_commands.proofs.lemmas.answers.Names.{length, work_text, Left}
use Rattle.mp_commands.proofs.answers.work_lines.put_work_lines.Given as goal

-- the lines of the entries that are left are left to write
abbrev pub invariant-loop-entry : goal.invariant-loop-entry
invariant-loop-entry g l = Left (work_text l.netlist l.work) l.fn.out l.out (work_text l.netlist l.entries)

abbrev pub decreases-loop-entry : goal.decreases-loop-entry
decreases-loop-entry g l = length l.entries
