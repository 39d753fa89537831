-- The fault of a run whose lines ended with one.
use Rattle.mp_commands.specs.declared.command_runs.run_fault.RunFault.{RunFault}
use Rattle.mp_commands.specs.declared.command_runs.run_fault.RunFault.TheVariants as runs
use Rattle.mp_seats.specs.declared.talk.talk_fault.TalkFault.{TalkFault}
use Rattle.mp_seats.specs.declared.talk.talk_fault.TalkFault.TheVariants.{ReadFailed, WriteFailed, OutOfMemory}

abbrev pub run_fault_of : TalkFault → RunFault
run_fault_of ReadFailed = runs.ReadFailed
run_fault_of WriteFailed = runs.WriteFailed
run_fault_of OutOfMemory = runs.OutOfMemory
