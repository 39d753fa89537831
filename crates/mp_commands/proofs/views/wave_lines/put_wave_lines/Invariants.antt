use Rattle.std.proofs.Common.{Ok}
use Rattle.mp_streams.specs.Outgoing.{Writes}
use Rattle.mp_commands.specs.views.Outputs.{lines_below}
use Rattle.mp_commands.proofs.views.wave_lines.put_wave_lines.Given as goal

-- the lines of the wires so far are written
abbrev pub invariant-loop-number : goal.invariant-loop-number
invariant-loop-number g l = Writes {T = Unit {0}} (Ok tt) l.fn.out l.out (lines_below l.of.netlist.now l.number)
