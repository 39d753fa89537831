-- Modules with data fire: their states go on, and the wires that they drive are scheduled.
use Rattle.std.specs.Prelude.{◌≡◌, ℕ, ◌<◌, List, [], Option, Some, None, length, slice_set, slice_index_or, ◌==◌, if◌then◌else◌}
use Rattle.std.specs.List.{flat_map}
use Rattle.mp_kernel.specs.events.Adding.{listed}
use Rattle.mp_kernel.specs.events.Firing.{no_port}
use Rattle.mp_kernel.specs.declared.datapath.level_change.LevelChange.{LevelChange}
use Rattle.mp_modules.specs.declared.storage.data_part.DataPart.TheVariants.{Reg}
use Rattle.mp_kernel.specs.declared.datapath.data_module.DataModule.{DataModule}
use Rattle.mp_kernel.specs.datapath.DataModules.{stepped, events_of, changes_of}

abbrev pub place_at : List (Option ℕ) → ℕ → Option ℕ
place_at places q = slice_index_or places q None

abbrev pub no_module : DataModule
no_module = record {
  part = Reg 0;
  outputs = record { first = 0; second = 0; third = 0 };
  inputs = [];
  ports = record { level = no_port; bits = record { first = no_port; second = no_port; third = no_port } };
}

abbrev pub module_at : List DataModule → ℕ → DataModule
module_at modules k = slice_index_or modules k no_module

-- each place has the number of a module, if any, and no number stands at two places
pub record ArePlaced (places : List (Option ℕ)) (modules : ℕ) : Type 0 where
  pub below : (q k : ℕ) → place_at places q ≡ Some k → k < modules
  pub own : (q p k : ℕ) → place_at places q ≡ Some k → place_at places p ≡ Some k → q ≡ p

-- a module keeps all but its state
pub record HasKept (old new : DataModule) : Type 0 where
  pub part : new.part ≡ old.part
  pub inputs : new.inputs ≡ old.inputs
  pub ports : new.ports ≡ old.ports

-- the modules at these places have gone on, and the others are as they were
pub record HaveStepped (levels : List ℕ) (places : List (Option ℕ)) (due : List ℕ) (modules new : List DataModule) : Type 0 where
  pub placed : length new ≡ length modules
  pub fired : (q k : ℕ) → place_at places q ≡ Some k → module_at new k ≡ (if listed q due == 0 then module_at modules k else stepped levels (module_at modules k))
  pub others : (k : ℕ) → ((q : ℕ) → place_at places q ≡ Some k → ⊥) → module_at new k ≡ module_at modules k
  pub kept : (k : ℕ) → HasKept (module_at modules k) (module_at new k)

abbrev pub events_in : List ℕ → List DataModule → Option ℕ → List (ℕ × ℕ)
events_in levels modules None = []
events_in levels modules (Some k) = events_of levels (module_at modules k)

-- after the module of a number, if there is one, has gone on
abbrev pub stepped_in : List ℕ → List DataModule → Option ℕ → List DataModule
stepped_in levels modules None = modules
stepped_in levels modules (Some k) = slice_set modules k (stepped levels (module_at modules k))

abbrev pub changes_in : List ℕ → List DataModule → Option ℕ → List (ℕ × LevelChange)
changes_in levels modules None = []
changes_in levels modules (Some k) = changes_of levels (module_at modules k)

-- what the modules at these places schedule
abbrev pub fired_by : List ℕ → List (Option ℕ) → List DataModule → List ℕ → List (ℕ × ℕ)
fired_by levels places modules due = flat_map (λ q. events_in levels modules (place_at places q)) due

-- and of wires with data
abbrev pub changed_by : List ℕ → List (Option ℕ) → List DataModule → List ℕ → List (ℕ × LevelChange)
changed_by levels places modules due = flat_map (λ q. changes_in levels modules (place_at places q)) due
