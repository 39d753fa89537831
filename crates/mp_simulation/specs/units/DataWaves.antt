-- The waves of wires with data grow.
use Rattle.std.specs.Prelude.{ℕ, ◌+◌, List, [], ◌∷◌, slice_set, slice_index_or}
use Rattle.mp_wave.specs.Waveform.{held_from}
use Rattle.mp_wave.specs.Building.{Building}
use Rattle.mp_kernel.specs.declared.datapath.level_change.LevelChange.{LevelChange}

abbrev pub no_building : Building
no_building = record { wave = record { initial = 0; changes = [] }; next = 0 }

abbrev pub building_at : List Building → ℕ → Building
building_at waves w = slice_index_or waves w no_building

abbrev pub with_level : Building → ℕ → ℕ → Building
with_level b time level = record { wave = held_from b.wave time level; next = time + 1 }

-- the waves after these changes at a time; numbers behind the wires have none
abbrev pub pushed : List Building → ℕ → List LevelChange → List Building
pushed waves time [] = waves
pushed waves time (c ∷ cs) = pushed (slice_set waves c.number (with_level (building_at waves c.number) time c.level)) time cs
