use Rattle.std.proofs.Common.{refl}
use Rattle.mp_streams.specs.declared.write_error.WriteError.TheVariants.{OutOfMemory}
use Rattle.mp_streams.proofs.OutLemmas.{puts_unmade}
use Rattle.mp_check.proofs.check_asked.put_problems.Goals as goal

pub returns-in_err-groups-clause-written : goal.returns-in_err-groups-clause-written
returns-in_err-groups-clause-written g c = puts_unmade _ OutOfMemory _ _ c.from_residual.ensures.1 refl
