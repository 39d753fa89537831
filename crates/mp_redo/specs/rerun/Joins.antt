-- What a module does that becomes active within a block.
use Rattle.std.specs.Prelude.{◌≡◌, ℕ, List}
use Rattle.mp_modules.specs.declared.memory.Memory.{Memory}
use Rattle.mp_modules.specs.declared.storage.any_module.AnyModule.{AnyModule}
use Rattle.mp_records.specs.declared.ids.ModuleId.{ModuleId}
use Rattle.mp_model.specs.declared.response.piece.Piece.{Piece}
use Rattle.mp_model.specs.response.Span.{IsSpan}
use Rattle.mp_depend.specs.declared.work.work_entry.WorkEntry.{WorkEntry}

-- from the state s before the time a, a module with the input levels x comes to another before the time b
abbrev pub ComesTo : AnyModule → (ℕ → List ℕ) → Memory → ℕ → ℕ → Memory → Type 0
ComesTo part x s a b memory = (piece : Piece) × IsSpan part x s a b piece × (memory ≡ piece.memory)

-- it is this module, from this time to before that one
abbrev pub IsOnly : ℕ → ℕ → ℕ → ℕ → ℕ → ℕ → Type 0
IsOnly «module» from to m a b = (m ≡ «module») × (a ≡ from) × (b ≡ to)

-- the entry is this module's, from this time to before that one
pub record IsFor (id : ModuleId) (from to : ℕ) (entry : WorkEntry) : Type 0 where
  pub own : entry.«module» ≡ id
  pub begins : entry.from ≡ from
  pub ends : entry.to ≡ to

-- the module comes to a state before the time b, from the beginning of its entry on, which lasts to an end
pub record HasCome (id : ModuleId) (part : AnyModule) (x : ℕ → List ℕ) (s : Memory) (a b end : ℕ) (entry : WorkEntry) (memory : Memory) : Type 0 where
  pub entry_is : IsFor id a end entry
  pub comes : ComesTo part x s a b memory
