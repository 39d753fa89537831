-- What each kind of module does, all kinds as one type.
use Rattle.std.specs.Prelude.{◌≡◌, ℕ, Bool, List, ◌&&◌, ◌==◌, nat_le, slice_index, if◌then◌else◌}
use Rattle.mp_modules.specs.declared.kind.Kind.{Kind}
use Rattle.mp_modules.specs.declared.kind.Kind.TheVariants as kinds
use Rattle.mp_modules.specs.declared.core_module.CoreModule.{CoreModule}
use Rattle.mp_modules.specs.declared.core_module.CoreModule.TheVariants as core
use Rattle.mp_modules.specs.declared.memory.Memory.{Memory}
use Rattle.mp_modules.specs.declared.finding_set.FindingSet.{FindingSet}
use Rattle.mp_modules.specs.Kinds.{has_width}
use Rattle.mp_modules.specs.Tables as tables
use Rattle.mp_modules.specs.storage.Reg as reg
use Rattle.mp_modules.specs.storage.Functions as functions
use Rattle.mp_modules.specs.declared.storage.any_module.AnyModule.{AnyModule}
use Rattle.mp_modules.specs.declared.storage.any_module.AnyModule.TheVariants as parts

-- a module of the kind can have this width
abbrev pub is_width_of : Kind → ℕ → Bool
is_width_of kind width = if has_width kind then nat_le 1 width && nat_le width 64 else width == 1

-- the module of a kind with these parameters and this width
unfoldable pub any_part_of : Kind → List ℕ → ℕ → AnyModule
any_part_of kinds.C params width = parts.Core (core.C (tables.rendezvous params))
any_part_of kinds.Toggle params width = parts.Core core.Toggle
any_part_of kinds.Select params width = parts.Core core.Select
any_part_of kinds.Call params width = parts.Core core.Call
any_part_of kinds.Arbiter params width = parts.Core core.Arbiter
any_part_of kinds.Reg params width = parts.Reg (record { initial = slice_index params 0 })
any_part_of (kinds.Function function) params width =
    parts.Function (record { function = function; width = width; constant = slice_index params 0 })

-- the kind of a module
abbrev pub core_kind : CoreModule → Kind
core_kind (core.C c) = kinds.C
core_kind core.Toggle = kinds.Toggle
core_kind core.Select = kinds.Select
core_kind core.Call = kinds.Call
core_kind core.Arbiter = kinds.Arbiter

abbrev pub kind_of : AnyModule → Kind
kind_of (parts.Core part) = core_kind part
kind_of (parts.Reg part) = kinds.Reg
kind_of (parts.Function part) = kinds.Function part.function

-- a module that is made of a kind has that kind
abbrev pub KeepsKind : Type 0
KeepsKind = (kind : Kind) (params : List ℕ) (width : ℕ) → kind_of (any_part_of kind params width) ≡ kind

-- the state before time 0
unfoldable pub start : AnyModule → Memory
start (parts.Core part) = tables.start part
start (parts.Reg part) = reg.start part
start (parts.Function part) = functions.start part

-- the state at time 0
unfoldable pub settle : AnyModule → List ℕ → Memory
settle (parts.Core part) x = tables.settle part x
settle (parts.Reg part) x = reg.settle part x
settle (parts.Function part) x = functions.settle part x

-- the state at a time from 1 on, after that of the unit before
unfoldable pub step : AnyModule → Memory → List ℕ → Memory
step (parts.Core part) memory x = tables.step part memory x
step (parts.Reg part) memory x = reg.step part memory x
step (parts.Function part) memory x = functions.step part memory x

-- what is found at a time from 1 on, after the state of the unit before
unfoldable pub found : AnyModule → Memory → List ℕ → FindingSet
found (parts.Core part) memory x = tables.found part memory x
found (parts.Reg part) memory x = reg.found part memory x
found (parts.Function part) memory x = functions.found part memory x
