-- What an input of a module hears, and what becomes of a module over time.
use Rattle.std.specs.Prelude.{◌≡◌, ℕ, ◌-◌, ◌<◌, ◌==◌, Bool, List, Option, Some, None, slice_index, if◌then◌else◌}
use Rattle.mp_wave.specs.Waveform.{IsWaveform, level_of}
use Rattle.mp_modules.specs.declared.memory.Client.TheVariants.{First, Second}
use Rattle.mp_records.specs.declared.module_record.ModuleRecord.{ModuleRecord}
use Rattle.mp_netlist.specs.Circuit.{Circuit}
use Rattle.mp_model.specs.Waves.{state}
use Rattle.mp_questions.specs.timing.Events.{since}
use Rattle.mp_questions.specs.timing.Waits.{given, waiting}
use Rattle.mp_questions.specs.declared.timing.delayed_input.DelayedInput.{DelayedInput}
use Rattle.mp_questions.specs.declared.timing.input_ports.InputPorts.{InputPorts}
use Rattle.mp_questions.specs.declared.timing.marks.Marks.{Marks}
use Rattle.mp_questions.specs.declared.timing.client_watch.ClientWatch.{ClientWatch}

-- ---- inputs

-- a level is heard below an end
pub record Hears (f : ℕ → ℕ) (end : ℕ) (h : DelayedInput) : Type 0 where
  pub form : IsWaveform h.wave.now
  pub levels : (t : ℕ) → t < end → level_of h.wave.now (t - h.delay) ≡ f t

-- where there is no port the level is 0
abbrev pub HearsPort : (ℕ → ℕ) → ℕ → Option DelayedInput → Type 0
HearsPort f end None = (t : ℕ) → t < end → 0 ≡ f t
HearsPort f end (Some h) = Hears f end h

-- each port that a module can have hears the level of an input
pub record AreHeard (x : ℕ → List ℕ) (end : ℕ) (ears : InputPorts) : Type 0 where
  pub first : HearsPort (λ t. slice_index (x t) 0) end ears.first
  pub second : HearsPort (λ t. slice_index (x t) 1) end ears.second
  pub third : HearsPort (λ t. slice_index (x t) 2) end ears.third
  pub fourth : HearsPort (λ t. slice_index (x t) 3) end ears.fourth

-- ---- since when

abbrev pub bit : Bool → ℕ
bit is = if is then 1 else 0

-- the time of the last event, after a unit up to a time
abbrev pub marked : ℕ → ℕ → ℕ → ℕ → ℕ
marked last time before now = if before == now then last else time

abbrev pub no_marks : Marks
no_marks = record { first_output = 0; second_output = 0; third_output = 0; first_waiting = 0; second_waiting = 0 }

-- since when each level of a module is what it is at a time
pub record AreMarks (n : Circuit) (m : ℕ) (r : ModuleRecord) (t : ℕ) (marks : Marks) : Type 0 where
  pub first_output : marks.first_output ≡ since (given n m 0) t
  pub second_output : marks.second_output ≡ since (given n m 1) t
  pub third_output : marks.third_output ≡ since (given n m 2) t
  pub first_waiting : marks.first_waiting ≡ since (waiting n m First) t
  pub second_waiting : marks.second_waiting ≡ since (waiting n m Second) t

-- the state of a module at a time, and since when
pub record IsWatch (n : Circuit) (m : ℕ) (r : ModuleRecord) (t : ℕ) (watch : ClientWatch) : Type 0 where
  pub memory : watch.memory ≡ state n m t
  pub marks : AreMarks n m r t watch.marks
