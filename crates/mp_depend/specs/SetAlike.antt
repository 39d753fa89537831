-- What is set on a wire from outside, before a change and after it.
use Rattle.std.specs.Prelude.{◌≡◌, ℕ, IsSome}
use Rattle.mp_netlist.specs.Circuit.{Circuit, Drives, wire_at, stimulus_at}

-- the wire stands in both netlists, and no port of the old one drives it, and the same stimulus is set on it, or nothing
pub record IsSetAlike (old new : Circuit) (w : ℕ) : Type 0 where
  pub before : IsSome (wire_at old w)
  pub after : IsSome (wire_at new w)
  pub portless : (m p : ℕ) → Drives old m p w → ⊥
  pub stimulus : stimulus_at old w ≡ stimulus_at new w
