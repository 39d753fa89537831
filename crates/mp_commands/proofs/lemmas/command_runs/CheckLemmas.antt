-- A run that checks a netlist, from its parts.
use Rattle.mp_commands.proofs.lemmas.command_runs.Names.{◌≡◌, ℕ, Bool, List, [], Option, Ok, Err, refl, Circuit, HasInput, RunFault, WriteFailed, OutOfMemory, Outgoing, fault_of_write}
use Rattle.mp_streams.specs.Outgoing as outs
use Rattle.mp_streams.specs.WriteErrors.{Writes}
use Rattle.mp_streams.specs.declared.failed.Failed.{Failed}
use Rattle.mp_streams.specs.declared.write_error.WriteError.{WriteError}
use Rattle.mp_streams.specs.declared.write_error.WriteError.TheVariants as writes
use Rattle.mp_streams.proofs.FlushLemmas.{flushed, unflushed}
use Rattle.mp_check.specs.declared.check_asked.CheckAsked.{CheckAsked}
use Rattle.mp_commands.specs.views.Checks.{check_of}
use Rattle.mp_commands.specs.command_runs.CheckRuns.{ChecksInput, ChecksNetlist, StopsInput, StopsNetlist, check_opening}
use Rattle.mp_commands.specs.command_runs.Clauses.{StaysShutBy, counted_reads}

module _ (asked : CheckAsked) where
  -- a check that stopped didn't stop for a fault of the source
  pub unread : {S : Type 0} (n : Circuit) (a b : Outgoing S) (fault : RunFault) → StopsNetlist asked a b n fault → (faults : ℕ) → faults ≡ counted_reads {T = Bool} (Err fault) faults
  unread n a b WriteFailed stopped faults = refl
  unread n a b OutOfMemory stopped faults = refl
  unread n a b fault stopped faults = absurd stopped

  -- one that wasn't written whole
  pub unput : {S : Type 0} (n : Circuit) (a b : Outgoing S) (error : WriteError) → Writes {T = Unit {0}} (Err error) a b (check_of asked n) → (error ≡ writes.OutOfMemory → b ≡ a)
      → StopsNetlist asked a b n (fault_of_write error)
  unput n a b writes.WriteFailed part unmade = part
  unput n a b writes.OutOfMemory part unmade = unmade refl

  module _ {S : Type 0} (left : Option (List ℕ)) (valid : Bool) where
    -- an input that doesn't open
    pub shut_input : (a : Outgoing S) (fault : RunFault) → StaysShutBy left (check_opening asked valid) fault → StopsInput asked left valid a a fault
    shut_input a WriteFailed shut = absurd shut.2
    shut_input a fault shut = (refl, shut)

    module _ (n : Circuit) (opens : HasInput left (λ input. check_opening asked valid input ≡ Ok n)) where
      -- a check that stopped
      pub stopped_input : (a b : Outgoing S) (fault : RunFault) → StopsNetlist asked a b n fault → StopsInput asked left valid a b fault
      stopped_input a b WriteFailed stopped = (opens.0, opens.1, rw opens.2 stopped)
      stopped_input a b OutOfMemory stopped = (stopped, (opens.0, opens.1, tt))
      stopped_input a b fault stopped = absurd stopped

      module _ (a b c : Outgoing S) (wrong : Bool) (checked : ChecksNetlist asked a b n wrong) where
        -- one that was written, and is passed on
        pub checked_input : outs.Writes {T = Unit {0}} (Ok tt) b c [] → c.held ≡ [] → ChecksInput asked left valid a c wrong
        checked_input passed none = ((opens.0, opens.1, rw opens.2 (checked.0, flushed a b c (check_of asked n) checked.1 passed)), none)

        -- or not all of it
        pub unflushed_input : {error : Failed} → outs.Writes {T = Unit {0}} (Err error) b c [] → StopsInput asked left valid a c WriteFailed
        unflushed_input passed = (opens.0, opens.1, rw opens.2 (unflushed a b c (check_of asked n) checked.1 passed))
