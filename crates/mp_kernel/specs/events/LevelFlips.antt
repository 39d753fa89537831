-- The levels at the ports of modules of width 1 where these fire.
use Rattle.std.specs.Prelude.{◌≡◌, ℕ, ◌<◌, List, length, slice_index_or, bit_xor, ◌==◌, if◌then◌else◌}
use Rattle.mp_modules.specs.declared.automata.port_levels.PortLevels.{PortLevels}
use Rattle.mp_modules.specs.automata.PortLevels.{ports_code}
use Rattle.mp_kernel.specs.events.Adding.{listed}
use Rattle.mp_kernel.specs.events.Firing.{UnitState, reaction}

abbrev pub levels_at : List PortLevels → ℕ → ℕ
levels_at levels m = (slice_index_or levels m (record { 0 = 0 })).0

-- those of the inputs that have an event and of the outputs that toggle are others
abbrev pub flipped : UnitState → ℕ → PortLevels
flipped c levels = record { 0 = bit_xor levels (ports_code c.events (reaction c).toggles) }

-- so it is with those of these modules
abbrev pub HaveFlipped : (ℕ → UnitState) → List ℕ → List PortLevels → List PortLevels → Type 0
HaveFlipped state_of due levels new =
    (m : ℕ) → m < length levels → levels_at new m ≡ (if listed m due == 0 then levels_at levels m else (flipped (state_of m) (levels_at levels m)).0)
