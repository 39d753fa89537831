-- The format in which a netlist is written.
use Rattle.mp_text.proofs.Names.{◌≡◌, ◌≤◌, ℕ, Bool, true, false, cond, not, Some, refl, ap, ◌∙◌, arith, is_some, list_any, Kind, ModuleRecord, Circuit, module_at, wire_limit, module_limit, bundle_limit, horizon_limit, Standard, Large, has_kind, needs_fourth, stands_fourth, written_format, slot_within}
use Rattle.std.specs.Prelude.{None}
use Rattle.std.proofs.lemmas.List.Folds.{list_any_at}
use Rattle.mp_netlist.specs.declared.format.Format.{Format as NetlistFormat}

-- a limit of a format is no lower in the format of large netlists
abbrev IsRoomier : (NetlistFormat → ℕ) → Type 0
IsRoomier limit = (b : Bool) (f : NetlistFormat) → limit f ≤ limit (cond b Large f)

module _ (limit : NetlistFormat → ℕ) (large : limit Standard ≤ limit Large) where
  roomier : IsRoomier limit
  roomier true Standard = large
  roomier true Large = omega arith
  roomier false f = omega arith

-- a netlist fits into the format in which it is written
pub wires_fit : (n : Circuit) → wire_limit n.format ≤ wire_limit (written_format n)
wires_fit n = roomier wire_limit (omega arith) (list_any stands_fourth n.modules) n.format

pub modules_fit : (n : Circuit) → module_limit n.format ≤ module_limit (written_format n)
modules_fit n = roomier module_limit (omega arith) (list_any stands_fourth n.modules) n.format

pub bundles_fit : (n : Circuit) → bundle_limit n.format ≤ bundle_limit (written_format n)
bundles_fit n = roomier bundle_limit (omega arith) (list_any stands_fourth n.modules) n.format

pub horizon_fits : (n : Circuit) → horizon_limit n.format ≤ horizon_limit (written_format n)
horizon_fits n = roomier horizon_limit (omega arith) (list_any stands_fourth n.modules) n.format

other_kind : (f : NetlistFormat) (kind : Kind) → needs_fourth kind ≡ false → has_kind f kind ≡ true
other_kind Standard kind other = ap not other
other_kind Large kind other = refl

-- and its format has the kinds of its modules
pub kinds_fit : (n : Circuit) (m : ℕ) (r : ModuleRecord) → module_at n m ≡ Some r → has_kind (written_format n) r.kind ≡ true
kinds_fit n m r at = by (list_any stands_fourth n.modules) refl
  where
    by : (some : Bool) → list_any stands_fourth n.modules ≡ some → has_kind (cond some Large n.format) r.kind ≡ true
    by true some = refl
    by false none = tested (needs_fourth r.kind) refl
      where
        tested : (late : Bool) → needs_fourth r.kind ≡ late → has_kind n.format r.kind ≡ true
        tested false is = other_kind n.format r.kind is
        tested true is =
            let any = list_any_at stands_fourth n.modules m None (slot_within n.modules m (ap is_some at)) (ap stands_fourth at ∙ is) in
            let no : ⊥ = cc in absurd no
