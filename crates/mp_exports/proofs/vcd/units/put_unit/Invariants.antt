use Rattle.mp_exports.proofs.lemmas.vcd.Names.{ℕ, List, unit_text, IsChain, told_lines, Left}
use Rattle.mp_exports.proofs.vcd.units.put_unit.Given as goal

-- the lines of the changes from the place on are left
abbrev pub invariant-loop-place : goal.invariant-loop-place
invariant-loop-place g l =
    (told : List (ℕ × ℕ)) × IsChain l.agenda.entries.items l.place told × Left (unit_text l.of.netlist.now l.time) l.fn.out l.out (told_lines l.of.netlist.now told)

abbrev pub decreases-loop-place : goal.decreases-loop-place
decreases-loop-place g l = l.place
