-- Modules of width 1 in a netlist.
use Rattle.std.specs.Prelude.{◌≡◌, ℕ, Some}
use Rattle.mp_records.specs.declared.module_record.ModuleRecord.{ModuleRecord}
use Rattle.mp_netlist.specs.Circuit.{Circuit, IsCircuit, module_at, module_width}
use Rattle.mp_model.specs.Levels.{built, inputs_by}
use Rattle.mp_model.specs.Waves.{level, state}
use Rattle.mp_modules.specs.automata.BitModules.{AreBits, IsOfBits, IsBitState}

-- the module's ports have width 1, and so have its levels at all times
pub record HasBits (n : Circuit) (m : ℕ) (r : ModuleRecord) : Type 0 where
  pub of_bits : IsOfBits (built n r)
  pub inputs : (t : ℕ) → AreBits (inputs_by n (level n) r t)
  pub states : (t : ℕ) → IsBitState (built n r) (state n m t)

-- so it is of each module of width 1, whatever its kind
abbrev pub HaveBits : Type 0
HaveBits = (n : Circuit) → IsCircuit n → (m : ℕ) (r : ModuleRecord) → module_at n m ≡ Some r → module_width n r ≡ 1 → HasBits n m r
