-- An evaluation by windows, in which modules answer in any order.
use Rattle.std.specs.Prelude.{◌≡◌, ℕ, ◌+◌, ◌-◌, ◌<◌, ◌≤◌, List, [], ◌∷◌, Option, Some, None, IsSome, nat_lt, ◌==◌, if◌then◌else◌}
use Rattle.mp_modules.specs.declared.memory.Memory.{Memory}
use Rattle.mp_modules.specs.Memories.{blank, output_of}
use Rattle.mp_modules.specs.storage.AnyModules.{start}
use Rattle.mp_records.specs.declared.module_record.ModuleRecord.{ModuleRecord}
use Rattle.mp_netlist.specs.declared.driver.Driver.{Driver}
use Rattle.mp_netlist.specs.declared.driver.Driver.TheVariants.{Nothing, Stimulus, Port}
use Rattle.mp_netlist.specs.Circuit.{Circuit, IsCircuit, wire_at, module_at, stimulus_at}
use Rattle.mp_netlist.specs.Drivers.{driver}
use Rattle.mp_netlist.specs.Delays.{least_delay}
use Rattle.mp_model.specs.Levels.{built, initial_of, inputs_by, stimulus_level}
use Rattle.mp_model.specs.Evaluations.{delay_in}
use Rattle.mp_model.specs.Waves.{level}
use Rattle.mp_model.specs.response.Span.{state_after}
use Rattle.mp_partition.specs.runs.Checkpoints.{state_before}

-- what a module does in a window: its state at the end, and the levels of its outputs before their delays at each time
pub record Answer : Type 0 where
  pub memory : Memory
  pub outputs : ℕ → ℕ → ℕ

-- a window from a time to before another, each module's state before it, the levels of wires as far as they are known, and the answers
-- that modules have given
pub record World : Type 0 where
  pub from : ℕ
  pub to : ℕ
  pub memories : ℕ → Memory
  pub levels : ℕ → ℕ → ℕ
  pub answers : ℕ → Option Answer

-- a window is no longer than the least delay, and ends at the horizon or before
pub record IsWindow (n : Circuit) (from to : ℕ) : Type 0 where
  pub some : from < to
  pub short : to ≤ from + least_delay n
  pub within : to ≤ n.horizon

-- a module answers by its span, or the next window begins, which ends at a time
pub data Move : Type 0 where
  AnswerOf : ℕ → Move
  NextTo : ℕ → Move

-- the state after k units of the window
abbrev pub state_in_window : Circuit → World → ℕ → ModuleRecord → ℕ → Memory
state_in_window n a m r k = state_after (built n r) (inputs_by n a.levels r) (a.memories m) a.from k

abbrev pub answer_of : Circuit → World → ℕ → ModuleRecord → Answer
answer_of n a m r = record {
  memory = state_in_window n a m r (a.to - a.from);
  outputs = λ p u. output_of (state_in_window n a m r (u + 1 - a.from)) p;
}

abbrev pub answered_by : Circuit → World → ℕ → Option ModuleRecord → World
answered_by n a m None = a
answered_by n a m (Some r) = record a { answers = λ k. if k == m then Some (answer_of n a m r) else a.answers k }

abbrev pub memory_in : Option Answer → Memory
memory_in None = blank
memory_in (Some answer) = answer.memory

abbrev pub output_in : Option Answer → ℕ → ℕ → ℕ
output_in None p u = 0
output_in (Some answer) p u = answer.outputs p u

-- the level of a wire when all have answered: from the answer of the module that drives it, once its delay is over
abbrev pub next_level : Circuit → World → Driver → ℕ → ℕ → ℕ
next_level n a Nothing w u = a.levels w u
next_level n a Stimulus w u = a.levels w u
next_level n a (Port m p) w u =
    if nat_lt u (a.from + delay_in (module_at n m.0) p) then a.levels w u
    else output_in (a.answers m.0) p (u - delay_in (module_at n m.0) p)

abbrev pub next_window : Circuit → World → ℕ → World
next_window n a to = record {
  from = a.to;
  to = to;
  memories = λ m. memory_in (a.answers m);
  levels = λ w u. next_level n a (driver n w) w u;
  answers = λ m. None;
}

abbrev pub after_move : Circuit → World → Move → World
after_move n a (AnswerOf m) = answered_by n a m (module_at n m)
after_move n a (NextTo to) = next_window n a to

-- a module that stands answers once in a window, and the next begins when all have
abbrev pub IsAllowed : Circuit → World → Move → Type 0
IsAllowed n a (AnswerOf m) = IsSome (module_at n m) × (a.answers m ≡ None)
IsAllowed n a (NextTo to) = ((m : ℕ) (r : ModuleRecord) → module_at n m ≡ Some r → IsSome (a.answers m)) × IsWindow n a.to to

abbrev pub AreAllowed : Circuit → World → List Move → Type 0
AreAllowed n a [] = Unit {0}
AreAllowed n a (move ∷ moves) = IsAllowed n a move × AreAllowed n (after_move n a move) moves

abbrev pub after_moves : Circuit → World → List Move → World
after_moves n a [] = a
after_moves n a (move ∷ moves) = after_moves n (after_move n a move) moves

-- the levels that are known before any answer
abbrev pub first_level_of : Circuit → Driver → ℕ → ℕ → ℕ
first_level_of n Nothing w u = initial_of (wire_at n w)
first_level_of n Stimulus w u = stimulus_level (stimulus_at n w) (initial_of (wire_at n w)) u
first_level_of n (Port m p) w u = initial_of (wire_at n w)

abbrev pub start_of : Circuit → Option ModuleRecord → Memory
start_of n None = blank
start_of n (Some r) = start (built n r)

-- the first window, up to a time
abbrev pub first_window : Circuit → ℕ → World
first_window n to = record {
  from = 0;
  to = to;
  memories = λ m. start_of n (module_at n m);
  levels = λ w u. first_level_of n (driver n w) w u;
  answers = λ m. None;
}

-- the memories are the states before the window, and the levels are right as far as the least delay after its begin
pub record IsRight (n : Circuit) (a : World) : Type 0 where
  pub memories : (m : ℕ) (r : ModuleRecord) → module_at n m ≡ Some r → a.memories m ≡ state_before n m r a.from
  pub levels : (w u : ℕ) → u < a.from + least_delay n → u < n.horizon → a.levels w u ≡ level n w u

-- so it is in each window of each evaluation, whatever the order of answers
abbrev pub AnyOrder : Type 0
AnyOrder = (n : Circuit) → IsCircuit n → (to : ℕ) → IsWindow n 0 to → (moves : List Move) → AreAllowed n (first_window n to) moves →
    IsRight n (after_moves n (first_window n to) moves)
