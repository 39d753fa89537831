use Rattle.std.proofs.Common.{◌∷◌, Ok, take}
use Rattle.std.specs.List.{flat_map}
use Rattle.mp_streams.specs.Outgoing.{Writes}
use Rattle.mp_text.specs.edit_lines.EditLines.{output_text}
use Rattle.mp_text.proofs.edit_lines.new_ports.NewOutputsText.put_to.Given as goal

-- the outputs so far are written
abbrev pub invariant-loop-output : goal.invariant-loop-output
invariant-loop-output g l = Writes {T = Unit {0}} (Ok tt) l.fn.out l.out (flat_map (λ output. 32 ∷ output_text output) (take l.output-index l.self.outputs.now))
