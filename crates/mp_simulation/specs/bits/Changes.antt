-- Changes of wires: when a wire has another level than one unit before, and from when on this is known.
use Rattle.std.specs.Prelude.{ℕ, ◌+◌, ◌-◌, Bool, false, not, nat_lt, ◌==◌, if◌then◌else◌}
use Rattle.mp_netlist.specs.declared.driver.Driver.{Driver}
use Rattle.mp_netlist.specs.declared.driver.Driver.TheVariants.{Nothing, Stimulus, Port}
use Rattle.mp_netlist.specs.Circuit.{Circuit, module_at}
use Rattle.mp_model.specs.Evaluations.{delay_in}
use Rattle.mp_model.specs.Waves.{level}

-- the wire has another level at u than one unit before
abbrev pub change_at : Circuit → ℕ → ℕ → Bool
change_at n w u = not (level n w (u - 1) == level n w u)

-- the wire of a source changed so many units before u as the source says, and not before time 0
abbrev pub late_change : Circuit → ℕ × ℕ → ℕ → Bool
late_change n source u = if nat_lt source.1 u then change_at n source.0 (u - source.1) else false

-- the level at a time rests on an answer that is known, where known tells how many units each module has answered
abbrev pub is_decided : Circuit → (ℕ → ℕ) → Driver → ℕ → Bool
is_decided n known Nothing u = false
is_decided n known Stimulus u = false
is_decided n known (Port m p) u = nat_lt u (known m.0 + delay_in (module_at n m.0) p)
