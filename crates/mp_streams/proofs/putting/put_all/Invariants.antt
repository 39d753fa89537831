use Rattle.std.proofs.Common.{◌≡◌, ◌-◌, ◌≤◌, length, take}
use Rattle.std.specs.Io.KnownBytes.{Appends}
use Rattle.mp_streams.proofs.putting.put_all.Given as goal

-- what was done so far was taken, with no fault
abbrev pub invariant-loop-done : goal.invariant-loop-done
invariant-loop-done g l = record {
  within : l.done ≤ length l.bytes;
  bytes : Appends (g.S.Sink.taken l.fn.sink) (g.S.Sink.taken l.sink) (take l.done l.bytes);
  faults : g.S.Sink.fault_count l.sink ≡ g.S.Sink.fault_count l.fn.sink;
}

abbrev pub decreases-loop-done : goal.decreases-loop-done
decreases-loop-done g l = length l.bytes - l.done
