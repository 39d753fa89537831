-- Spans and what a netlist means: its modules' states, and the levels of their outputs after their delays.
use Rattle.std.specs.Prelude.{◌≡◌, ℕ, ◌+◌, ◌-◌, ◌<◌, ◌≤◌, [], Some, slice_index_or, zero, suc}
use Rattle.std.specs.List.{flat_map, range_with_len}
use Rattle.mp_wave.specs.Waveform.{level_from}
use Rattle.mp_modules.specs.declared.memory.Memory.{Memory}
use Rattle.mp_modules.specs.storage.AnyModules.{start}
use Rattle.mp_modules.specs.declared.storage.any_module.AnyModule.{AnyModule}
use Rattle.mp_records.specs.Outputs.{delay_of}
use Rattle.mp_records.specs.declared.module_record.ModuleRecord.{ModuleRecord}
use Rattle.mp_netlist.specs.Circuit.{Circuit, IsCircuit, Drives, module_at}
use Rattle.mp_model.specs.Levels.{IsBehaviour, built, inputs_by}
use Rattle.mp_model.specs.declared.response.piece.Piece.{Piece}
use Rattle.mp_model.specs.response.Pieces.{put_off}
use Rattle.mp_model.specs.response.Span.{IsSpan, findings_of, found_at}

-- a module's state before a time: its start before time 0, and else its state at the unit before
abbrev pub state_before : AnyModule → (ℕ → Memory) → ℕ → Memory
state_before part state zero = start part
state_before part state (suc t) = state t

-- what a module of a netlist does from the time a to before the time b
abbrev pub IsSpanOf : Circuit → (ℕ → ℕ → ℕ) → (ℕ → ℕ → Memory) → ℕ → ModuleRecord → ℕ → ℕ → Piece → Type 0
IsSpanOf n level state m r a b piece = IsSpan (built n r) (inputs_by n level r) (state_before (built n r) (state m) a) a b piece

-- the last state of a span is the module's state before its end
abbrev pub EndsInState : Type 0
EndsInState = (n : Circuit) (level : ℕ → ℕ → ℕ) (state : ℕ → ℕ → Memory) → IsBehaviour n level state →
    (m a b : ℕ) (r : ModuleRecord) (piece : Piece) → module_at n m ≡ Some r → a ≤ b → IsSpanOf n level state m r a b piece →
    piece.memory ≡ state_before (built n r) (state m) b

-- the findings of a span are what the module's table finds at each of its units, from the state before the unit
abbrev pub FindsByStates : Type 0
FindsByStates = (n : Circuit) (level : ℕ → ℕ → ℕ) (state : ℕ → ℕ → Memory) → IsBehaviour n level state →
    (m a b : ℕ) (r : ModuleRecord) (piece : Piece) → module_at n m ≡ Some r → IsSpanOf n level state m r a b piece →
    piece.findings ≡ flat_map (λ t. findings_of t (found_at (built n r) (state_before (built n r) (state m) t) (inputs_by n level r t) t)) (range_with_len a (b - a))

-- the changes of an output in a span, put off by its delay, are those of its wire: from the level just before them they give the wire's level at each time of the span, put off likewise
abbrev pub GivesLevels : Type 0
GivesLevels = (n : Circuit) (level : ℕ → ℕ → ℕ) (state : ℕ → ℕ → Memory) → IsCircuit n → IsBehaviour n level state →
    (m p w a b t : ℕ) (drives : Drives n m p w) (piece : Piece) → IsSpanOf n level state m drives.part a b piece →
    (let delay = delay_of drives.part p in
    a + delay ≤ t → t < b + delay → level w t ≡ level_from (level w (a + delay - 1)) (put_off delay (slice_index_or piece.outputs p [])) t)
