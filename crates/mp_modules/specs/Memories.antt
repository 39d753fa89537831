-- The states of modules, and what changes in them. A level is that at its port, 0 where there is none.
use Rattle.std.specs.Prelude.{ℕ, ◌-◌, Bool, false, not, List, [], ◌∷◌, slice_index, slice_set, ◌==◌}
use Rattle.mp_modules.specs.declared.memory.Memory.{Memory}
use Rattle.mp_modules.specs.declared.memory.Client.TheVariants.{Nobody}

-- the levels at the input ports, and 0 behind them
abbrev pub input_levels : List ℕ → List ℕ
input_levels levels = slice_index levels 0 ∷ slice_index levels 1 ∷ slice_index levels 2 ∷ slice_index levels 3 ∷ []

-- the state that has these levels at its inputs and at its outputs, and serves nobody
abbrev pub with_outputs : List ℕ → List ℕ → Memory
with_outputs levels outputs = record {
  inputs = input_levels levels;
  outputs = outputs;
  served = Nobody;
  waiting = record { first = false; second = false };
}

abbrev pub with_one_output : List ℕ → ℕ → Memory
with_one_output levels output = with_outputs levels (output ∷ 0 ∷ 0 ∷ [])

-- the state of no module
abbrev pub blank : Memory
blank = with_one_output [] 0

-- the level of an output before its delay
abbrev pub output_of : Memory → ℕ → ℕ
output_of memory port = slice_index memory.outputs port

-- an event of an input: its level differs from that of the unit before
abbrev pub is_event : Memory → List ℕ → ℕ → Bool
is_event memory x port = not (slice_index memory.inputs port == slice_index x port)

-- an event at an output
abbrev pub flipped : ℕ → Memory → Memory
flipped port memory = record memory { outputs = slice_set memory.outputs port (1 - slice_index memory.outputs port) }

-- the state that holds these levels of its inputs for the next unit
abbrev pub seen : List ℕ → Memory → Memory
seen x memory = record memory { inputs = input_levels x }
