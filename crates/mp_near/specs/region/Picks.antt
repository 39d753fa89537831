-- What is picked from two netlists, by marks.
use Rattle.std.specs.Prelude.{◌≡◌, ℕ, Bool, true, List, length}
use Rattle.mp_netlist.specs.Circuit.{Circuit}
use Rattle.mp_partition.specs.runs.Marks.{is_marked}
use Rattle.mp_partition.specs.regions.Readers.{Reads}
use Rattle.mp_near.specs.laws.Picking.{Picking, IsPicking}
use Rattle.mp_near.specs.laws.Regions.{IsRegion, IsCore}
use Rattle.mp_near.specs.reach.Numbers.{AreNumbered, number_at, place_at}
use Rattle.mp_near.specs.declared.region.picked.Picked.{Picked}

-- marks on all wires that are reached, and on those that marked modules read, in either netlist
pub record AreWiresOf (old new : Circuit) (modules wires all : List Bool) : Type 0 where
  pub places : length all ≡ length wires
  pub reached : (w : ℕ) → is_marked wires w ≡ true → is_marked all w ≡ true
  pub before : (m w : ℕ) → is_marked modules m ≡ true → Reads old m w → is_marked all w ≡ true
  pub after : (m w : ℕ) → is_marked modules m ≡ true → Reads new m w → is_marked all w ≡ true

-- the numbers and places of what is picked; beyond them nothing stands in a netlist or in one that it revises
abbrev pub picking : Circuit → Picked → Picking
picking new picked = record {
  wire_of = number_at (length new.wires) picked.wires.numbers.items;
  module_of = number_at (length new.modules) picked.modules.numbers.items;
  place_of = place_at picked.wires.places.items;
  seat_of = place_at picked.modules.places.items;
  given = is_marked picked.given.items;
}

-- what is picked is a region; all that hear of a change are a core of it
pub record ArePicks (old new : Circuit) (picked : Picked) : Type 0 where
  pub region : IsRegion old new (picking new picked)
  pub before : IsPicking old (picking new picked)
  pub after : IsPicking new (picking new picked)
  pub core : (core : List Bool) × IsCore old new (picking new picked) (is_marked core)
  pub wires : (all : List Bool) × AreNumbered all (length new.wires) picked.wires.numbers.items picked.wires.places.items
  pub modules : (marks : List Bool) × AreNumbered marks (length new.modules) picked.modules.numbers.items picked.modules.places.items
  pub given : length picked.given.items ≡ length picked.wires.numbers.items
