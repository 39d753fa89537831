use Rattle.std.proofs.Common.{◌∷◌, Ok, take}
use Rattle.std.specs.List.{flat_map}
use Rattle.mp_streams.specs.Outgoing.{Writes}
use Rattle.mp_text.specs.edit_lines.EditLines.{input_text}
use Rattle.mp_text.proofs.edit_lines.new_ports.NewInputsText.put_to.Given as goal

-- the inputs so far are written
abbrev pub invariant-loop-input : goal.invariant-loop-input
invariant-loop-input g l = Writes {T = Unit {0}} (Ok tt) l.fn.out l.out (flat_map (λ input. 32 ∷ input_text input) (take l.input-index l.self.inputs.now))
