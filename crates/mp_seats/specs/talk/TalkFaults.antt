-- Why a conversation ended early.
use Rattle.std.specs.Prelude.{ℕ, Result, Err}
use Rattle.mp_streams.specs.declared.write_error.WriteError.{WriteError}
use Rattle.mp_streams.specs.declared.write_error.WriteError.TheVariants as writes
use Rattle.mp_streams.specs.StreamFaults.{one_more}
use Rattle.mp_seats.specs.declared.talk.talk_fault.TalkFault.{TalkFault}
use Rattle.mp_seats.specs.declared.talk.talk_fault.TalkFault.TheVariants.{ReadFailed, WriteFailed, OutOfMemory}

abbrev pub fault_of_write : WriteError → TalkFault
fault_of_write writes.WriteFailed = WriteFailed
fault_of_write writes.OutOfMemory = OutOfMemory

-- the number of a source's faults after a conversation
abbrev pub counted_reads : {T : Type 0} → Result T TalkFault → ℕ → ℕ
counted_reads (Err ReadFailed) faults = one_more faults
counted_reads result faults = faults
