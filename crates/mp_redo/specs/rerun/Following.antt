-- Changes to come that no active module makes.
use Rattle.std.specs.Prelude.{◌≡◌, ℕ, ◌+◌, ◌<◌, Bool, List, All, nat_lt, ◌&&◌, ◌==◌}
use Rattle.std.specs.List.{count_by}
use Rattle.mp_netlist.specs.Circuit.{Circuit}
use Rattle.mp_netlist.specs.Drivers.{driver}
use Rattle.mp_modules.specs.automata.Codes.{bit}
use Rattle.mp_kernel.specs.timers.TimerWheels.{never}
use Rattle.mp_simulation.specs.bits.Changes.{change_at}
use Rattle.mp_simulation.specs.bits.WholeRuns.{is_stimulus}
use Rattle.mp_simulation.specs.declared.run.stimuli.StimulusChange.{StimulusChange}
use Rattle.mp_simulation.specs.run.Stimuli.{AreFrom, IsSetting, is_change}
use Rattle.mp_active.specs.excerpt.Excerpts.{is_followed}

-- they are the changes after t of those wires that a time has changes of, each once
pub record AreToCome (n : Circuit) (comes : ℕ → ℕ → Bool) (t : ℕ) (ss : List StimulusChange) : Type 0 where
  pub listed : AreFrom (t + 1) ss
  pub each : (w u : ℕ) → t < u → count_by (is_change w u) ss ≡ bit (change_at n w u && comes w u)
  pub set : All (IsSetting n) ss

-- a module that sleeps now decided, before it fell asleep, what level the wire has at a time
abbrev pub is_tail : Circuit → (ℕ → Bool) → (ℕ → ℕ) → ℕ → ℕ → Bool
is_tail n active until w u = is_followed active (driver n w) && nat_lt u (until w)

-- a stimulus drives the wire, and it isn't driven alike in both netlists
abbrev pub is_set_anew : Circuit → (ℕ → ℕ) → ℕ → ℕ → Bool
is_set_anew n until w u = is_stimulus (driver n w) && (until w == never)

abbrev pub AreTails : Circuit → (ℕ → Bool) → (ℕ → ℕ) → ℕ → List StimulusChange → Type 0
AreTails n active until t ss = AreToCome n (is_tail n active until) t ss

abbrev pub AreSetAnew : Circuit → (ℕ → ℕ) → ℕ → List StimulusChange → Type 0
AreSetAnew n until t ss = AreToCome n (is_set_anew n until) t ss
