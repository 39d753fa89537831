-- The least delay of modules, when one of them changes.
use Rattle.std.specs.Prelude.{◌≡◌, ◌≤◌, ◌<◌, ℕ, List, Option, None, Some, IfSome, fold}
use Rattle.std.specs.List.{flat_map}
use Rattle.mp_records.specs.declared.module_record.ModuleRecord.{ModuleRecord}
use Rattle.mp_modules.specs.Delays.{lesser}
use Rattle.mp_netlist.specs.Delays.{delays_in}

-- the least delay of the modules in these slots
abbrev pub least_among : List (Option ModuleRecord) → Option ℕ
least_among slots = fold lesser None (flat_map delays_in slots)

-- that of what stands in one slot
abbrev pub least_at : Option ModuleRecord → Option ℕ
least_at slot = fold lesser None (delays_in slot)

-- the lesser of two delays, if there are any
abbrev pub lesser_of : Option ℕ → Option ℕ → Option ℕ
lesser_of one None = one
lesser_of one (Some delay) = lesser one delay

-- there is a least delay, and no other or a greater one
abbrev pub IsAfter : Option ℕ → Option ℕ → Type 0
IsAfter None after = ⊥
IsAfter (Some least) None = Unit {0}
IsAfter (Some least) (Some after) = least < after

-- what had the least delay has none now, or a greater one
abbrev pub GoesUp : Option ℕ → Option ℕ → Option ℕ → Type 0
GoesUp least before after = (before ≡ least) × IsAfter least after

-- there is a delay, and it is at most another, if there is another
abbrev pub IsAtMost : Option ℕ → Option ℕ → Type 0
IsAtMost None other = ⊥
IsAtMost (Some bound) other = IfSome other (λ delay. bound ≤ delay)

-- one of some least delays is another one now: the rest, with the one, had the least before, and with the other has it now
pub record IsChanged (least before after now : Option ℕ) : Type 0 where
  pub rest : Option ℕ
  pub was : least ≡ lesser_of rest before
  pub is : now ≡ lesser_of rest after
