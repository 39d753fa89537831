-- Modules with data do what modules of their kinds do.
use Rattle.std.proofs.Common.{◌≡◌, ℕ, false, cond, List, refl}
use Rattle.std.specs.Prelude.{◌==◌}
use Rattle.mp_modules.specs.declared.kind.Kind.{Kind}
use Rattle.mp_modules.specs.declared.kind.Kind.TheVariants as kinds
use Rattle.mp_modules.specs.Kinds.{width_from}
use Rattle.mp_modules.specs.storage.AnyModules.{any_part_of}
use Rattle.mp_records.specs.declared.module_record.ModuleRecord.{ModuleRecord}
use Rattle.mp_records.specs.Inputs.{input_at}
use Rattle.mp_netlist.specs.Circuit.{Circuit, wire_at, width_of, module_width}
use Rattle.mp_model.specs.Levels.{built}
use Rattle.mp_modules.specs.storage.DataParts.{data_part, any_part}
use Rattle.mp_simulation.specs.run.Widths.{is_bit_module}

by_kind : (kind : Kind) (params : List ℕ) (width first : ℕ) → (width_from kind first == 1) ≡ false → any_part (data_part (any_part_of kind params width)) ≡ any_part_of kind params width
unfolding any_part_of
by_kind kinds.C params width first wide = cc
by_kind kinds.Toggle params width first wide = cc
by_kind kinds.Select params width first wide = cc
by_kind kinds.Call params width first wide = cc
by_kind kinds.Arbiter params width first wide = cc
by_kind kinds.Reg params width first wide = refl
by_kind (kinds.Function f) params width first wide = refl

pub data_part_is : (n : Circuit) (r : ModuleRecord) → is_bit_module n r ≡ false → any_part (data_part (built n r)) ≡ built n r
data_part_is n r wide = by_kind r.kind r.params (module_width n r) (width_of (wire_at n (input_at r 0).wire.0)) wide
