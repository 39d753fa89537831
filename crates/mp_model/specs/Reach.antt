-- What a change of a netlist does to its modules: two netlists, before it and after it.
use Rattle.std.specs.Prelude.{◌≢◌, ◌⊎◌, ℕ, ◌<◌, List, [], Option, Some, None, IsSome}
use Rattle.mp_records.specs.declared.module_record.ModuleRecord.{ModuleRecord}
use Rattle.mp_netlist.specs.Circuit.{Circuit, module_at}
use Rattle.mp_model.specs.Levels.{inputs_by}
use Rattle.mp_model.specs.Waves.{level}

abbrev pub slot_inputs : Circuit → Option ModuleRecord → ℕ → List ℕ
slot_inputs n None t = []
slot_inputs n (Some r) t = inputs_by n (level n) r t

-- the levels at a module's input ports at a time
abbrev pub inputs : Circuit → ℕ → ℕ → List ℕ
inputs n m t = slot_inputs n (module_at n m) t

-- the module stands in both netlists, and its inputs at the time aren't the same
pub record IsApart (old new : Circuit) (m t : ℕ) : Type 0 where
  pub before : IsSome (module_at old m)
  pub after : IsSome (module_at new m)
  pub differ : inputs old m t ≢ inputs new m t

-- the module stands in the new netlist, and its record isn't the same in the old one
pub record IsTouched (old new : Circuit) (m : ℕ) : Type 0 where
  pub stands : IsSome (module_at new m)
  pub differ : module_at old m ≢ module_at new m

-- the module is touched, or apart at a time below b
abbrev pub IsReached : Circuit → Circuit → ℕ → ℕ → Type 0
IsReached old new m b = IsTouched old new m ⊎ ((t : ℕ) × (t < b) × IsApart old new m t)
