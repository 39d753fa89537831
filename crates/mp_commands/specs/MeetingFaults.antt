-- The fault of a run whose meeting didn't come about.
use Rattle.mp_commands.specs.Names.{MeetingFault, OutOfMemory, NoPlace, RunFault}
use Rattle.mp_commands.specs.declared.command_runs.run_fault.RunFault.TheVariants as runs

abbrev pub run_fault_of : MeetingFault → RunFault
run_fault_of OutOfMemory = runs.OutOfMemory
run_fault_of NoPlace = runs.NoPlace
