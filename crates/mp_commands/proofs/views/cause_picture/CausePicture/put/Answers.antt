use Rattle.std.proofs.Common.{refl}
use Rattle.mp_streams.specs.declared.write_error.WriteError.TheVariants.{OutOfMemory}
use Rattle.mp_streams.proofs.OutLemmas.{puts_unmade}
use Rattle.mp_commands.proofs.views.cause_picture.CausePicture.put.Goals as goal

pub returns-in_err-findings : goal.returns-in_err-findings
returns-in_err-findings g c = puts_unmade _ OutOfMemory _ _ c.from_residual.ensures.1 refl

pub returns-in_err-wires : goal.returns-in_err-wires
returns-in_err-wires g c = puts_unmade _ OutOfMemory _ _ c.from_residual-in_err-wires.ensures.1 refl

pub returns-in_err-arrows : goal.returns-in_err-arrows
returns-in_err-arrows g c = puts_unmade _ OutOfMemory _ _ c.from_residual-in_err-arrows.ensures.1 refl
