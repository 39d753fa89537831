-- Bytes on their way to a sink, and what a call that writes makes of them.
use Rattle.std.specs.Prelude.{◌≡◌, ℕ, ◌<◌, Bool, true, false, List, [], ◌++◌, length, Option, Result, Ok, Err}
use Rattle.std.specs.Io.KnownBytes.{Appends}
use Rattle.mp_streams.specs.declared.failed.Failed.{Failed}
use Rattle.mp_streams.specs.StreamFaults.{one_more}

-- a sink, the bytes that it took, where it tells them, those that are held before it, and how often it failed
pub record Outgoing (S : Type 0) : Type 0 where
  pub sink : S
  pub taken : Option (List ℕ)
  pub held : List ℕ
  pub faults : ℕ

-- what an error leaves: where the sink failed, it counts the fault, nothing is held, and some bytes are lost
abbrev pub Stops : {S : Type 0} → Bool → Outgoing S → Outgoing S → List ℕ → Type 0
Stops true old new lost = (new.faults ≡ one_more old.faults) × (new.held ≡ []) × (0 < length lost)
Stops false old new lost = new.faults ≡ old.faults

-- how a call ended: a success loses nothing and counts no fault
abbrev pub Ends : {S T E : Type 0} → (E → Bool) → Result T E → Outgoing S → Outgoing S → List ℕ → Type 0
Ends is_fault (Ok done) old new lost = (new.faults ≡ old.faults) × (lost ≡ [])
Ends is_fault (Err error) old new lost = Stops (is_fault error) old new lost

-- a call wrote this text: of what was held and the text behind that, the sink took the front, what follows is held, and the rest is lost
pub record Puts {S T E : Type 0} (is_fault : E → Bool) (result : Result T E) (old new : Outgoing S) (text : List ℕ) : Type 0 where
  pub front : List ℕ
  pub lost : List ℕ
  pub taken : Appends old.taken new.taken front
  pub held : old.held ++ text ≡ front ++ (new.held ++ lost)
  pub ends : Ends is_fault result old new lost

-- a call wrote this text, in which the sink alone can fail
abbrev pub Writes : {S T : Type 0} → Result T Failed → Outgoing S → Outgoing S → List ℕ → Type 0
Writes result old new text = Puts (λ _. true) result old new text
