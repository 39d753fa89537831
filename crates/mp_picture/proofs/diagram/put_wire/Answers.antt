use Rattle.std.proofs.Common.{refl, ◌∙◌}
use Rattle.mp_streams.proofs.OutLemmas.{puts_as, puts_ok, puts_unmade}
use Rattle.mp_streams.specs.declared.write_error.WriteError.TheVariants.{WriteFailed, OutOfMemory}
use Rattle.mp_picture.proofs.PutLemmas.{puts_row}
use Rattle.mp_picture.proofs.diagram.put_wire.Goals as goal

pub returns-in_err-push_wire_line : goal.returns-in_err-push_wire_line
returns-in_err-push_wire_line g c = puts_unmade _ OutOfMemory _ _ c.from_residual.ensures.1 refl

pub returns-in_err-put_bytes : goal.returns-in_err-put_bytes
returns-in_err-put_bytes g c =
    puts_as _ WriteFailed c.from_residual-in_err-put_bytes.ensures.1 refl (puts_row (c.as_slice.ensures.value ∙ c.in_ok-push_wire_line.ensures) c.clear.ensures.items c.in_err-put_bytes.ensures)

pub returns : goal.returns
returns g c = puts_ok (puts_row (c.as_slice.ensures.value ∙ c.in_ok-push_wire_line.ensures) c.clear.ensures.items c.in_ok-put_bytes.ensures)
