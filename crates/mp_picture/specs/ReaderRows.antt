-- The readers of wires, found module by module.
use Rattle.std.specs.Prelude.{◌≡◌, ℕ, ◌<◌, ◌==◌, List, [], ◌∷◌, ◌++◌, length, slice_index_or, if◌then◌else◌}
use Rattle.mp_records.specs.declared.ids.ModuleId.{ModuleId}
use Rattle.mp_records.specs.declared.ports.Input.{Input}
use Rattle.mp_netlist.specs.Circuit.{Circuit}
use Rattle.mp_netlist.specs.Readers.{readers}

-- the row of a wire, empty behind the last one
abbrev pub row_at : List (List (ModuleId × ℕ)) → ℕ → List (ModuleId × ℕ)
row_at rows w = slice_index_or rows w []

-- a numbered input that is at the wire, as an input port of the module
abbrev pub port_at : ℕ → ℕ → ℕ × Input → List (ModuleId × ℕ)
port_at w m port = if port.1.wire.0 == w then (record { 0 = m }, port.0) ∷ [] else []

-- the row of each wire has these readers more
pub record HasMore (old new : List (List (ModuleId × ℕ))) (more : ℕ → List (ModuleId × ℕ)) : Type 0 where
  pub places : length new ≡ length old
  pub each : (w : ℕ) → w < length old → row_at new w ≡ row_at old w ++ more w

-- the row of each wire has its readers
abbrev pub AreReaders : Circuit → List (List (ModuleId × ℕ)) → Type 0
AreReaders n rows = (w : ℕ) → w < length n.wires → row_at rows w ≡ readers n w
