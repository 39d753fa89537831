-- Wires that no module drives.
use Rattle.std.proofs.Common.{◌≡◌, ℕ, ◌+◌, List, [], ◌∷◌, Option, None, suc, refl, ap, ◌∙◌}
use Rattle.mp_records.specs.declared.module_record.ModuleRecord.{ModuleRecord}
use Rattle.mp_netlist.specs.declared.driver.Driver.TheVariants.{Nothing}
use Rattle.mp_netlist.specs.Drivers.{port_of, or_later, driver_from}
use Rattle.mp_netlist.specs.Slots.{slot_at}

-- where no slot has a port for the wire, nothing drives it
pub none_drive : (k : ℕ) (slots : List (Option ModuleRecord)) (w : ℕ) → ((m : ℕ) → port_of (slot_at slots m) w ≡ None) → driver_from k slots w Nothing ≡ Nothing
none_drive k [] w none = refl
none_drive k (slot ∷ slots) w none =
    ap (λ (found : Option ℕ). or_later found k (driver_from (k + 1) slots w Nothing)) (none 0) ∙ none_drive (k + 1) slots w (λ m. none (suc m))
