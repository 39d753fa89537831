-- Why there was no meeting.
use Rattle.mp_desk.specs.declared.desk_refused.DeskCause.{DeskCause}
use Rattle.mp_desk.specs.declared.desk_refused.DeskCause.TheVariants as causes
use Rattle.mp_meeting.specs.declared.meeting_fault.MeetingFault.{MeetingFault}
use Rattle.mp_meeting.specs.declared.meeting_fault.MeetingFault.TheVariants.{OutOfMemory, NoPlace}

-- the fault of a meeting whose desk was refused
abbrev pub fault_of : DeskCause → MeetingFault
fault_of causes.OutOfMemory = OutOfMemory
fault_of causes.NoPlace = NoPlace
