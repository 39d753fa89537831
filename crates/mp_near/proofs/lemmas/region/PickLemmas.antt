-- What is marked as reached is a region, picked from the netlist before an edit and from the one after it.
use Rattle.std.proofs.Common.{◌≡◌, ℕ, ◌+◌, ◌<◌, ◌≤◌, ◌==◌, Bool, true, false, List, ◌⊎◌, length, refl, ap, sym, subst, ◌∙◌, arith, inl, inr}
use Rattle.std.specs.Prelude.{IsSome}
use Rattle.std.proofs.lemmas.Bool.{cases_lt}
use Rattle.std.proofs.lemmas.List.{get_or_past}
use Rattle.mp_netlist.specs.Circuit.{Circuit, IsCircuit, Drives, wire_at, module_at, stimulus_at}
use Rattle.mp_netlist.specs.Drivers.{driver, stimulus_driver}
use Rattle.mp_netlist.proofs.DriverLemmas.{finds_ports, finds_only_ports, driven_by}
use Rattle.mp_model.proofs.SlotLemmas.{no_some, some_within}
use Rattle.mp_partition.specs.runs.Marks.{is_marked}
use Rattle.mp_partition.specs.regions.Readers.{Reads}
use Rattle.mp_depend.specs.work.Revisions.{IsRevision, IsDrivenAlike}
use Rattle.mp_near.specs.laws.Picking.{Picking, has_wire, has_module}
use Rattle.mp_near.specs.laws.Regions.{IsAsBefore, IsCore}
use Rattle.mp_near.specs.reach.Numbers.{AreNumbered, number_at, place_at}
use Rattle.mp_near.specs.reach.Marks.{AreGrown}
use Rattle.mp_near.specs.reach.Reach.{IsSetSame, IsReach, IsWholeReach, HasReach}
use Rattle.mp_near.specs.region.Given.{AreGiven}
use Rattle.mp_near.specs.region.Picks.{AreWiresOf, ArePicks, picking}
use Rattle.mp_near.specs.declared.region.picked.Picked.{Picked}
use Rattle.mp_near.proofs.lemmas.reach.MarkLemmas.{grown_more}
use Rattle.mp_near.proofs.lemmas.reach.NumberLemmas.{is_picked}
use Rattle.mp_near.proofs.lemmas.reach.ReachLemmas.{MarkedBelow, below_next, below_same, wires_are}
use Rattle.mp_near.proofs.lemmas.reach.StandLemmas.{drives_new, drives_old, driven, read_low, read_stands}

-- what is known of two netlists and marks
pub record Known (old new : Circuit) (modules wires : List Bool) : Type 0 where
  pub old_ok : IsCircuit old
  pub new_ok : IsCircuit new
  pub revision : IsRevision old new
  pub reach : IsReach old new modules wires

-- the module of a port that drives an unmarked wire isn't marked, so it is the same in both netlists
unmarked_new : (old new : Circuit) (modules wires : List Bool) → Known old new modules wires → (m p w : ℕ) → is_marked wires w ≡ false → Drives new m p w → module_at old m ≡ module_at new m
unmarked_new old new modules wires known m p w not drives = by (is_marked modules m) refl
  where
    by : (b : Bool) → is_marked modules m ≡ b → module_at old m ≡ module_at new m
    by true is = let yes = known.reach.after m p w is drives in cc
    by false is = known.reach.same m is

unmarked_old : (old new : Circuit) (modules wires : List Bool) → Known old new modules wires → (m p w : ℕ) → is_marked wires w ≡ false → Drives old m p w → module_at old m ≡ module_at new m
unmarked_old old new modules wires known m p w not drives = by (is_marked modules m) refl
  where
    by : (b : Bool) → is_marked modules m ≡ b → module_at old m ≡ module_at new m
    by true is = let yes = known.reach.before m p w is drives in cc
    by false is = known.reach.same m is

-- what drives an unmarked wire that is set the same
driven_alike : (old new : Circuit) (modules wires : List Bool) → Known old new modules wires → (w : ℕ) → is_marked wires w ≡ false →
    IsSome (wire_at old w) → IsSome (wire_at new w) → stimulus_at old w ≡ stimulus_at new w → IsDrivenAlike old new w
driven_alike old new modules wires known w not before after set = record {
  before = before;
  after = after;
  one = by (driven_by new w) (driven_by old w);
  stimulus = set;
  part = λ m p is. unmarked_new old new modules wires known m.0 p w not (finds_only_ports new w p m is);
}
  where
    port : (m p : ℕ) → Drives old m p w → Drives new m p w → driver old w ≡ driver new w
    port m p was is = finds_ports old known.old_ok m p w was ∙ sym (finds_ports new known.new_ok m p w is)

    by : ((m p : ℕ) × Drives new m p w) ⊎ (driver new w ≡ stimulus_driver (stimulus_at new w)) → ((m p : ℕ) × Drives old m p w) ⊎ (driver old w ≡ stimulus_driver (stimulus_at old w)) → driver old w ≡ driver new w
    by (inl found) other = port found.0 found.1 (drives_old old new found.0 found.1 w (unmarked_new old new modules wires known found.0 found.1 w not found.2) found.2) found.2
    by (inr is) (inl found) = port found.0 found.1 found.2 (drives_new old new found.0 found.1 w (unmarked_old old new modules wires known found.0 found.1 w not found.2) found.2)
    by (inr is) (inr was) = was ∙ ap stimulus_driver set ∙ sym is

as_before : (old new : Circuit) (modules wires : List Bool) → Known old new modules wires → (w : ℕ) → is_marked wires w ≡ false → IsAsBefore old new w
as_before old new modules wires known w not = by (known.reach.alike w not)
  where
    by : IsSetSame old new w → IsAsBefore old new w
    by (inl both) = inl (driven_alike old new modules wires known w not both.0 both.1 both.2)
    by (inr none) = inr none

-- the wire of a port that is in both netlists
port_alike : (old new : Circuit) → IsCircuit old → IsCircuit new → (m p w : ℕ) → module_at old m ≡ module_at new m → Drives new m p w → IsDrivenAlike old new w
port_alike old new old_ok new_ok m p w same drives =
    let was = drives_old old new m p w same drives in
    record {
      before = driven old old_ok m p w was;
      after = driven new new_ok m p w drives;
      one = finds_ports old old_ok m p w was ∙ sym (finds_ports new new_ok m p w drives);
      stimulus = old_ok.port_or_stimulus m p w was ∙ sym (new_ok.port_or_stimulus m p w drives);
      part = λ k q is.
          let one = new_ok.one_port m p k.0 q w drives (finds_only_ports new w q k is) in
          subst (λ j. module_at old j ≡ module_at new j) one.0 same;
    }

-- what an edit reaches is a core of what is picked, if all of that is
core_is : (old new : Circuit) (pick : Picking) (modules wires : List Bool) → Known old new modules wires → IsWholeReach old new modules wires →
    ((m : ℕ) → is_marked modules m ≡ true → has_module pick m ≡ true) → IsCore old new pick (is_marked modules)
core_is old new pick modules wires known whole picked = record {
  picked = picked;
  same = known.reach.same;
  driven = λ k p w m has drives reads. hears m w reads (known.reach.after k p w has drives) (is_marked modules m) refl;
  changed = λ w m reads. changed w m reads (is_marked modules m) refl;
}
  where
    hears : (m w : ℕ) → Reads new m w → is_marked wires w ≡ true → (b : Bool) → is_marked modules m ≡ b → is_marked modules m ≡ true
    hears m w reads is true has = has
    hears m w reads is false has = let not = whole.closed m has w reads in cc

    changed : (w m : ℕ) → Reads new m w → (b : Bool) → is_marked modules m ≡ b → (is_marked modules m ≡ true) ⊎ IsDrivenAlike old new w
    changed w m reads true has = inl has
    changed w m reads false has = inr (by (as_before old new modules wires known w (whole.closed m has w reads)))
      where
        by : IsAsBefore old new w → IsDrivenAlike old new w
        by (inl alike) = alike
        by (inr none) = absurd (no_some (wire_at new w) none.1 (read_stands new known.new_ok m w reads))

-- what is marked, numbered anew
pub are_picks : (old new : Circuit) (modules wires all : List Bool) (picked : Picked) → Known old new modules wires → HasReach old new modules wires → AreWiresOf old new modules wires all →
    AreNumbered all (length all) picked.wires.numbers.items picked.wires.places.items → AreNumbered modules (length modules) picked.modules.numbers.items picked.modules.places.items →
    AreGiven new modules picked.wires.numbers.items picked.given.items → ArePicks old new picked
are_picks old new modules wires all picked known has spread wire_list module_list given = record {
  region = record {
    modules = λ m not. known.reach.same m (sym (has_module_is m) ∙ not);
    given = λ k is.
        let port = given.outside k (length new.wires + k + 1) is in
        port_alike old new known.old_ok known.new_ok port.0.0 port.1 (pick.wire_of k) (known.reach.same port.0.0 port.3) (finds_only_ports new (pick.wire_of k) port.1 port.0 port.2);
    others = λ w not. as_before old new modules wires known w (unmarked w (sym (has_wire_is w) ∙ not));
  };
  before = record {
    driven = λ m p w has drives. has_wire_is w ∙ spread.reached w (known.reach.before m p w (sym (has_module_is m) ∙ has) drives);
    read = λ m w has reads. has_wire_is w ∙ spread.before m w (sym (has_module_is m) ∙ has) reads;
    places = λ k stands. place k (let low = some_within old.wires (pick.wire_of k) stands in let more = known.revision.wires in omega (arith, low, more));
    seats = λ k stands. seat k (let low = some_within old.modules (pick.module_of k) stands in let more = known.revision.modules in omega (arith, low, more));
    given_driven = λ k is.
        let port = given.outside k (length new.wires + k + 1) is in
        (port.0.0, port.1, drives_old old new port.0.0 port.1 (pick.wire_of k) (known.reach.same port.0.0 port.3) (finds_only_ports new (pick.wire_of k) port.1 port.0 port.2), has_module_is port.0.0 ∙ port.3);
    own_driven = λ k m p not drives. own_old k m p not drives (is_marked modules m) refl;
  };
  after = record {
    driven = λ m p w has drives. has_wire_is w ∙ spread.reached w (known.reach.after m p w (sym (has_module_is m) ∙ has) drives);
    read = λ m w has reads. has_wire_is w ∙ spread.after m w (sym (has_module_is m) ∙ has) reads;
    places = λ k stands. place k (some_within new.wires (pick.wire_of k) stands);
    seats = λ k stands. seat k (some_within new.modules (pick.module_of k) stands);
    given_driven = λ k is.
        let port = given.outside k (length new.wires + k + 1) is in
        (port.0.0, port.1, finds_only_ports new (pick.wire_of k) port.1 port.0 port.2, has_module_is port.0.0 ∙ port.3);
    own_driven = own;
  };
  core = (has.core, core_is old new pick has.core has.core_wires core_known has.whole (λ m is. has_module_is m ∙ has.grown.kept m is));
  wires = (all, subst (λ count. AreNumbered all count picked.wires.numbers.items picked.wires.places.items) (spread.places ∙ known.reach.wire_count) wire_list);
  modules = (modules, subst (λ count. AreNumbered modules count picked.modules.numbers.items picked.modules.places.items) known.reach.module_count module_list);
  given = given.places;
}
  where
    pick : Picking
    pick = picking new picked

    has_wire_is : (w : ℕ) → has_wire pick w ≡ is_marked all w
    has_wire_is w = subst (λ far. (number_at far picked.wires.numbers.items (place_at picked.wires.places.items w) == w) ≡ is_marked all w) (spread.places ∙ known.reach.wire_count)
        (is_picked all picked.wires.numbers.items picked.wires.places.items wire_list w)

    has_module_is : (m : ℕ) → has_module pick m ≡ is_marked modules m
    has_module_is m = subst (λ far. (number_at far picked.modules.numbers.items (place_at picked.modules.places.items m) == m) ≡ is_marked modules m) known.reach.module_count
        (is_picked modules picked.modules.numbers.items picked.modules.places.items module_list m)

    unmarked : (w : ℕ) → is_marked all w ≡ false → is_marked wires w ≡ false
    unmarked w not = by (is_marked wires w) refl
      where
        by : (b : Bool) → is_marked wires w ≡ b → is_marked wires w ≡ false
        by true is = let yes = spread.reached w is in cc
        by false is = is

    place : (k : ℕ) → pick.wire_of k < length new.wires → pick.place_of (pick.wire_of k) ≡ k
    place k low = elim (cases_lt k (length picked.wires.numbers.items)) as (λ _. pick.place_of (pick.wire_of k) ≡ k) [
      | inl here ↦ wire_list.placed k (length new.wires + k + 1) here
      | inr past ↦ let at : pick.wire_of k ≡ length new.wires + k + 1 = get_or_past picked.wires.numbers.items k (length new.wires + k + 1) past in absurd (omega (arith, at, low))
    ]

    seat : (k : ℕ) → pick.module_of k < length new.modules → pick.seat_of (pick.module_of k) ≡ k
    seat k low = elim (cases_lt k (length picked.modules.numbers.items)) as (λ _. pick.seat_of (pick.module_of k) ≡ k) [
      | inl here ↦ module_list.placed k (length new.modules + k + 1) here
      | inr past ↦ let at : pick.module_of k ≡ length new.modules + k + 1 = get_or_past picked.modules.numbers.items k (length new.modules + k + 1) past in absurd (omega (arith, at, low))
    ]

    -- the place of a wire that a port drives is within the list
    listed : (k m p : ℕ) → Drives new m p (pick.wire_of k) → k < length picked.wires.numbers.items
    listed k m p drives = elim (cases_lt k (length picked.wires.numbers.items)) as (λ _. k < length picked.wires.numbers.items) [
      | inl here ↦ here
      | inr past ↦
          let at : pick.wire_of k ≡ length new.wires + k + 1 = get_or_past picked.wires.numbers.items k (length new.wires + k + 1) past in
          let low = some_within new.wires (pick.wire_of k) (driven new known.new_ok m p (pick.wire_of k) drives) in
          absurd (omega (arith, at, low))
    ]

    own : (k m p : ℕ) → pick.given k ≡ false → Drives new m p (pick.wire_of k) → has_module pick m ≡ true
    own k m p not drives =
        has_module_is m ∙ given.inside k (length new.wires + k + 1) p (record { 0 = m }) (listed k m p drives) not (finds_ports new known.new_ok m p (pick.wire_of k) drives)

    own_old : (k m p : ℕ) → pick.given k ≡ false → Drives old m p (pick.wire_of k) → (b : Bool) → is_marked modules m ≡ b → has_module pick m ≡ true
    own_old k m p not drives true is = has_module_is m ∙ is
    own_old k m p not drives false is = own k m p not (drives_new old new m p (pick.wire_of k) (known.reach.same m is) drives)

    core_known : Known old new has.core has.core_wires
    core_known = record { old_ok = known.old_ok; new_ok = known.new_ok; revision = known.revision; reach = has.whole.reach }

-- the wires that are reached are marked, and those that the marked modules below a count read
pub record AreSpread (old new : Circuit) (modules wires : List Bool) (count : ℕ) (marks : List Bool) : Type 0 where
  pub grown : AreGrown wires marks
  pub before : MarkedBelow (Reads old) modules count marks
  pub after : MarkedBelow (Reads new) modules count marks

-- the next module isn't marked
pub spread_same : (old new : Circuit) (modules wires marks : List Bool) (m : ℕ) → is_marked modules m ≡ false → AreSpread old new modules wires m marks → AreSpread old new modules wires (m + 1) marks
spread_same old new modules wires marks m not are = record {
  grown = are.grown;
  before = below_same (Reads old) modules m marks not are.before;
  after = below_same (Reads new) modules m marks not are.after;
}

-- the wires are marked that the next module reads, first those in the old netlist
pub spread_more : (old new : Circuit) (modules wires marks half next : List Bool) (m : ℕ) → Known old new modules wires → AreGrown marks half → AreGrown half next →
    ((w : ℕ) → Reads old m w → w < length marks → is_marked half w ≡ true) → ((w : ℕ) → Reads new m w → w < length half → is_marked next w ≡ true) →
    AreSpread old new modules wires m marks → AreSpread old new modules wires (m + 1) next
spread_more old new modules wires marks half next m known one two read_old read_new are = record {
  grown = grown_more wires marks next are.grown both;
  before = below_next (Reads old) modules m marks next both (λ w reads. two.kept w (read_old w reads (let low = read_low old new known.old_ok (omega (arith, fewer)) m w reads in omega (arith, low, size)))) are.before;
  after = below_next (Reads new) modules m marks next both (λ w reads. read_new w reads (let low = read_low new new known.new_ok (omega arith) m w reads in omega (arith, low, size, half_size))) are.after;
}
  where
    both : AreGrown marks next
    both = grown_more marks half next one two

    fewer : length old.wires ≤ length new.wires
    fewer = known.revision.wires

    size : length marks ≡ length new.wires
    size = are.grown.places ∙ known.reach.wire_count

    half_size : length half ≡ length marks
    half_size = one.places

-- of all modules
pub spread_all : (old new : Circuit) (modules wires all : List Bool) (count : ℕ) → length modules ≤ count → AreSpread old new modules wires count all → AreWiresOf old new modules wires all
spread_all old new modules wires all count whole are = wires_are old new modules wires all count whole are.grown are.before are.after
