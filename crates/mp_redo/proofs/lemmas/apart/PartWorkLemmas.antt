-- What is evaluated again in a part.
use Rattle.std.proofs.Common.{◌≡◌, ◌≤◌, ◌⊎◌, ℕ, List, [], Option, Some, None, IsSome, refl, sym, ◌∙◌, arith, inl, inr}
use Rattle.mp_records.specs.declared.module_record.ModuleRecord.{ModuleRecord}
use Rattle.mp_records.specs.Outputs.{delay_of}
use Rattle.mp_netlist.specs.Circuit.{Circuit, IsCircuit, Drives, module_at}
use Rattle.mp_netlist.specs.Delays.{least_delay, IsPortDelay, NoPortDrives, IsLeastDelay}
use Rattle.mp_netlist.proofs.DelayLemmas.{delays_are_least}
use Rattle.mp_partition.specs.regions.Regions.{partition_of}
use Rattle.mp_partition.proofs.lemmas.regions.RegionLemmas.{is_here}
use Rattle.mp_depend.specs.work.Work.{IsAtWork, WorksFrom}
use Rattle.mp_depend.proofs.lemmas.work.StayLemmas.{some_is}
use Rattle.mp_redo.specs.apart.Parts.{part_of, AreUnconnected}
use Rattle.mp_redo.specs.apart.PartWork.{PartsAreRevisions, PartsHaveLeastDelay, PartsHaveWindows, PartsHaveWork, OthersDontWork}
use Rattle.mp_redo.proofs.lemmas.apart.PartLemmas.{parts_have_places, parts_have_wires, parts_have_modules, parts_have_no_others, parts_are_circuits}
use Rattle.mp_redo.proofs.lemmas.apart.PartLevelLemmas.{parts_have_states, inputs_at_home}
use Rattle.mp_redo.proofs.lemmas.apart.SameModuleLemmas.{HasSame, turned, window_same, end_same, is_window, entry_there}

pub parts_are_revisions : PartsAreRevisions
parts_are_revisions old new revised homes k =
    let before = parts_have_places old homes k in
    let after = parts_have_places new homes k in
    let was_wires = before.wires in
    let was_modules = before.modules in
    let now_wires = after.wires in
    let now_modules = after.modules in
    let more_wires = revised.wires in
    let more_modules = revised.modules in
    record {
      horizon = revised.horizon;
      wires = omega (arith, was_wires, now_wires, more_wires);
      modules = omega (arith, was_modules, now_modules, more_modules);
      widths = λ w r s was now. revised.widths w r s (sym (parts_have_wires old homes k w) ∙ was) (sym (parts_have_wires new homes k w) ∙ now);
      initials = λ w r s was now. revised.initials w r s (sym (parts_have_wires old homes k w) ∙ was) (sym (parts_have_wires new homes k w) ∙ now);
    }

pub parts_have_least_delay : PartsHaveLeastDelay
parts_have_least_delay n ok homes k m p w drives home same = by least.attained
  where
    least : IsLeastDelay (part_of n homes k) (least_delay (part_of n homes k))
    least = delays_are_least (part_of n homes k) (parts_are_circuits n homes k ok)

    here : Drives (part_of n homes k) m p w
    here = record { part = drives.part; stands = parts_have_modules n homes k m home ∙ drives.stands; output = drives.output }

    low : least_delay (part_of n homes k) ≤ delay_of drives.part p
    low = least.least m p w here

    by : IsPortDelay (part_of n homes k) (least_delay (part_of n homes k)) ⊎ ((least_delay (part_of n homes k) ≡ (part_of n homes k).horizon) × NoPortDrives (part_of n homes k))
        → least_delay (part_of n homes k) ≡ least_delay n
    by (inl found) =
        let stands = (is_here n homes k [] found.part found.drives.part found.drives.stands).stands in
        let there : Drives n found.part found.port found.wire = record { part = found.drives.part; stands = stands; output = found.drives.output } in
        let high : least_delay n ≤ delay_of found.drives.part found.port = (delays_are_least n ok).least found.part found.port found.wire there in
        let is : delay_of found.drives.part found.port ≡ least_delay (part_of n homes k) = found.same in
        omega (arith, low, same, high, is)
    by (inr none) = absurd (none.1 m p w here)

pub parts_have_windows : PartsHaveWindows
parts_have_windows n homes k least = record {
  horizon = refl;
  begins = window_same n (part_of n homes k) refl least;
  ends = end_same n (part_of n homes k) refl least;
  windows = λ from to. (is_window n (part_of n homes k) refl least from to, is_window (part_of n homes k) n refl (sym least) from to);
}

-- a part has its modules as they are in the netlist
same_at_home : (n : Circuit) → IsCircuit n → (homes : List ℕ) → AreUnconnected n homes → (k m : ℕ) → partition_of homes m ≡ k → HasSame n (part_of n homes k) m
same_at_home n ok homes apart k m home = record {
  horizon = refl;
  slot = parts_have_modules n homes k m home;
  reads = λ t low. inputs_at_home n ok homes apart k m t home low;
  states = λ t r at low. parts_have_states n ok homes apart k m t r home at low;
}

pub parts_have_work : PartsHaveWork
parts_have_work old new old_ok new_ok revised homes old_apart new_apart k m from to least home =
    let before = same_at_home old old_ok homes old_apart k m home in
    let after = same_at_home new new_ok homes new_apart k m home in (
      entry_there old new (part_of old homes k) (part_of new homes k) m before after revised.horizon least from to,
      entry_there (part_of old homes k) (part_of new homes k) old new m
          (turned old (part_of old homes k) m before) (turned new (part_of new homes k) m after) revised.horizon (sym least) from to,
    )

-- nothing stands in an empty slot
no_slot : (slot : Option ModuleRecord) → slot ≡ None → IsSome slot → ⊥
no_slot None e some = cc
no_slot (Some r) e some = cc

pub others_dont_work : OthersDontWork
others_dont_work old new homes k m from to other is = by is.works
  where
    gone : IsSome (module_at (part_of new homes k) m) → ⊥
    gone = no_slot (module_at (part_of new homes k) m) (parts_have_no_others new homes k m other)

    at_work : (t : ℕ) → IsAtWork (part_of old homes k) (part_of new homes k) m t → ⊥
    at_work t (inl touched) = gone touched.stands
    at_work t (inr (inl differs)) = gone (some_is (module_at (part_of new homes k) m) differs.part differs.kept.after)
    at_work t (inr (inr (u, low, high, apart))) = gone apart.after

    by : WorksFrom (part_of old homes k) (part_of new homes k) m is.start from to → ⊥
    by (inl (works, e)) = at_work is.start works
    by (inr (rests, (u, low, high, apart), e)) = gone apart.after
