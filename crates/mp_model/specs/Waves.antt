-- The levels, states and waves of a netlist.
use Rattle.std.specs.Prelude.{◌≡◌, ℕ, ◌+◌, ◌-◌, List, [], ◌∷◌, Option, Some, None}
use Rattle.mp_wave.specs.Waveform.{Waveform, wave_upto}
use Rattle.mp_modules.specs.declared.memory.Memory.{Memory}
use Rattle.mp_records.specs.declared.wire_record.WireRecord.{WireRecord}
use Rattle.mp_netlist.specs.Slots.{slot_at}
use Rattle.mp_netlist.specs.Circuit.{Circuit, wire_at}
use Rattle.mp_model.specs.Histories.{history, level_in, state_in}

-- the state of a module at a time
unfoldable pub state : Circuit → ℕ → ℕ → Memory
state n m t = state_in (history n (t + 1)) m t

-- the level of a wire at a time
unfoldable pub level : Circuit → ℕ → ℕ → ℕ
level n w t = level_in n (history n t) w t

-- the wave of a wire up to the horizon
abbrev pub wave : Circuit → ℕ → Waveform
wave n w = wave_upto (level n w) (n.horizon - 1)

-- the wave of what stands in a wire's slot
abbrev pub slot_wave : Circuit → ℕ → Option WireRecord → Option Waveform
slot_wave n w None = None
slot_wave n w (Some r) = Some (wave n w)

-- the wave of each wire that stands, by number, w being that of the first
abbrev pub waves_from : Circuit → ℕ → List (Option WireRecord) → List (Option Waveform)
waves_from n w [] = []
waves_from n w (slot ∷ slots) = slot_wave n w slot ∷ waves_from n (w + 1) slots

abbrev pub waves : Circuit → List (Option Waveform)
waves n = waves_from n 0 n.wires

-- they are the waves of the wires, and there is none where no wire stands
abbrev pub AreWavesOf : Circuit → List (Option Waveform) → Type 0
AreWavesOf n found = (w : ℕ) → slot_at found w ≡ slot_wave n w (wire_at n w)
