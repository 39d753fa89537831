use Rattle.std.proofs.Common.{refl}
use Rattle.mp_streams.specs.declared.write_error.WriteError.TheVariants.{OutOfMemory}
use Rattle.mp_streams.proofs.OutLemmas.{puts_unmade}
use Rattle.mp_commands.proofs.views.steady_lines.put_steady_lines.Goals as goal

pub returns-in_err-drivers : goal.returns-in_err-drivers
returns-in_err-drivers g c = puts_unmade _ OutOfMemory _ _ c.from_residual.ensures.1 refl
