-- Inputs that have ended.
use Rattle.std.proofs.Common.{◌≡◌, ℕ, true, inl, inr, arith}
use Rattle.mp_streams.specs.StreamFaults.{one_more}
use Rattle.mp_text.specs.lines.Incoming.{Incoming}
use Rattle.mp_seats.specs.hosting.Endings.{HasEnded}

-- at its end
pub ended_at_end : (lines : Incoming) → lines.ended ≡ true → HasEnded lines
ended_at_end lines end = inl end

-- after a fault
pub ended_at_fault : (lines : Incoming) (before : ℕ) → lines.faults ≡ one_more before → HasEnded lines
ended_at_fault lines before counted = inr (omega (arith, counted))
