-- The levels at the ports of a module of width 1 as one number, a bit each.
use Rattle.std.specs.Prelude.{ℕ, ◌+◌, ◌*◌, ◌/◌, ◌%◌, List, [], ◌∷◌, slice_index, ◌==◌}
use Rattle.mp_modules.specs.declared.memory.Memory.{Memory}
use Rattle.mp_modules.specs.Memories.{output_of}
use Rattle.mp_modules.specs.declared.automata.events.Events.{Events}
use Rattle.mp_modules.specs.declared.automata.toggles.Toggles.{Toggles}
use Rattle.mp_modules.specs.automata.Codes.{events_code, toggles_code}

-- the number of some inputs and some outputs: bit p is the input p, and bit 4 + p the output p
abbrev pub ports_code : Events → Toggles → ℕ
ports_code inputs outputs = events_code inputs + toggles_code outputs * 16

-- the inputs that have the level 1 in a state, and the outputs that have it before their delays
abbrev pub high_inputs : Memory → Events
high_inputs m = record {
  first = slice_index m.inputs 0 == 1;
  second = slice_index m.inputs 1 == 1;
  third = slice_index m.inputs 2 == 1;
  fourth = slice_index m.inputs 3 == 1;
}

abbrev pub high_outputs : Memory → Toggles
high_outputs m = record { first = output_of m 0 == 1; second = output_of m 1 == 1; third = output_of m 2 == 1 }

abbrev pub levels_code : Memory → ℕ
levels_code m = ports_code (high_inputs m) (high_outputs m)

-- the levels at the inputs, and those of the outputs, by their number
abbrev pub input_bits : ℕ → List ℕ
input_bits levels = levels % 2 ∷ levels / 2 % 2 ∷ levels / 4 % 2 ∷ levels / 8 % 2 ∷ []

abbrev pub output_bits : ℕ → List ℕ
output_bits levels = levels / 16 % 2 ∷ levels / 32 % 2 ∷ levels / 64 % 2 ∷ []
