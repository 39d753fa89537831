-- What the wheels have of wires is taken out of them, one unit after the other.
use Rattle.std.proofs.Common.{◌≡◌, ℕ, suc, ◌+◌, ◌<◌, ◌≤◌, Bool, true, false, List, [], ◌++◌, cond, length, map, refl, ap, sym, ◌∙◌, arith, inl, inr}
use Rattle.std.specs.Prelude.{◌==◌, slice_index_or, slice_set}
use Rattle.std.specs.List.{filter}
use Rattle.std.proofs.lemmas.Bool.{eqb-true, eq-eqb, ne_eqb, cases_lt, both_ways}
use Rattle.std.proofs.lemmas.List.{length-set, append_assoc, get_or_past}
use Rattle.mp_simulation.specs.declared.bits.simulation.Simulation.{Simulation}
use Rattle.mp_simulation.specs.bits.Simulators.{slot_at}
use Rattle.mp_kernel.specs.events.Firing.{scheduled}
use Rattle.mp_kernel.specs.declared.datapath.level_change.LevelChange.{LevelChange}
use Rattle.mp_kernel.specs.datapath.LevelWheels.{scheduled as levels_scheduled}
use Rattle.mp_simulation.specs.declared.units.data_wires.DataWires.{DataWires}
use Rattle.mp_simulation.specs.declared.units.netlist_simulation.NetlistSimulation.{NetlistSimulation}
use Rattle.mp_simulation.specs.units.DataWheels.{data_slot}
use Rattle.mp_simulation.specs.declared.run.stimuli.StimulusChange.{StimulusChange}
use Rattle.mp_active.specs.steps.Taking.{staying, staying_changes, gone_changes, in_slot, in_level_slot, taken_toggle, taken_change, taken_in, HasTaken, HasTakenToggles, HasTakenLevels}
use Rattle.mp_active.proofs.lemmas.steps.PutLemmas.{scheduled_length, levels_length}
use Rattle.mp_active.proofs.lemmas.steps.BackLemmas.{puts_back, puts_levels_back}

-- ---- one slot

-- a slot in which something is stands in the wheel
pub within_when : {A : Type 0} (slots : List (List A)) (k : ℕ) (found : List A) → found ≡ slice_index_or slots k [] → (length found == 0) ≡ false → k < length slots
within_when {A} slots k found is some = elim (cases_lt k (length slots)) as (λ _. k < length slots) [
  | inl low ↦ low
  | inr past ↦ absurd (both_ways (length found == 0) some (ap (λ (xs : List A). length xs == 0) (is ∙ get_or_past slots k [] past)))
]

module _ (gone : ℕ → Bool) (units : ℕ) (s : NetlistSimulation) where
  -- what stays is put back into a slot that was emptied
  pub toggles_back : (wheel : List (List ℕ)) → units < length s.bits.simulator.wheel →
      wheel ≡ scheduled (slice_set s.bits.simulator.wheel units []) (map (in_slot units) (staying gone (slot_at s.bits.simulator units))) → (k : ℕ) →
      slice_index_or wheel k [] ≡ cond (k == units) (staying gone (slot_at s.bits.simulator k)) (slot_at s.bits.simulator k)
  toggles_back wheel low is k =
      ap (λ (x : List (List ℕ)). slice_index_or x k []) is ∙ puts_back s.bits.simulator.wheel units k (staying gone (slot_at s.bits.simulator units)) low ∙ by (k == units) refl
    where
      by : (b : Bool) → (k == units) ≡ b →
          cond b (staying gone (slot_at s.bits.simulator units)) (slot_at s.bits.simulator k) ≡ cond b (staying gone (slot_at s.bits.simulator k)) (slot_at s.bits.simulator k)
      by true here = ap (λ j. staying gone (slot_at s.bits.simulator j)) (sym (eqb-true k units here))
      by false other = refl

  pub toggles_long : (wheel : List (List ℕ)) →
      wheel ≡ scheduled (slice_set s.bits.simulator.wheel units []) (map (in_slot units) (staying gone (slot_at s.bits.simulator units))) → length wheel ≡ length s.bits.simulator.wheel
  toggles_long wheel is =
      ap (length {A = List ℕ}) is ∙ scheduled_length (slice_set s.bits.simulator.wheel units []) (map (in_slot units) (staying gone (slot_at s.bits.simulator units)))
      ∙ length-set s.bits.simulator.wheel units []

  pub levels_back : (wheel : List (List LevelChange)) → units < length s.wires.wheel →
      wheel ≡ levels_scheduled (slice_set s.wires.wheel units []) (map (in_level_slot units) (staying_changes gone (data_slot s.wires.wheel units))) → (k : ℕ) →
      data_slot wheel k ≡ cond (k == units) (staying_changes gone (data_slot s.wires.wheel k)) (data_slot s.wires.wheel k)
  levels_back wheel low is k =
      ap (λ (x : List (List LevelChange)). data_slot x k) is ∙ puts_levels_back s.wires.wheel units k (staying_changes gone (data_slot s.wires.wheel units)) low ∙ by (k == units) refl
    where
      by : (b : Bool) → (k == units) ≡ b →
          cond b (staying_changes gone (data_slot s.wires.wheel units)) (data_slot s.wires.wheel k) ≡ cond b (staying_changes gone (data_slot s.wires.wheel k)) (data_slot s.wires.wheel k)
      by true here = ap (λ j. staying_changes gone (data_slot s.wires.wheel j)) (sym (eqb-true k units here))
      by false other = refl

  pub levels_long : (wheel : List (List LevelChange)) →
      wheel ≡ levels_scheduled (slice_set s.wires.wheel units []) (map (in_level_slot units) (staying_changes gone (data_slot s.wires.wheel units))) → length wheel ≡ length s.wires.wheel
  levels_long wheel is =
      ap (length {A = List LevelChange}) is ∙ levels_length (slice_set s.wires.wheel units []) (map (in_level_slot units) (staying_changes gone (data_slot s.wires.wheel units)))
      ∙ length-set s.wires.wheel units []

-- ---- all slots, one after the other
module _ (gone : ℕ → Bool) (k : ℕ) (s mid then new : NetlistSimulation) (so : HasTaken gone k s mid) (toggles : HasTakenToggles gone k mid then) (levels : HasTakenLevels gone k then new) where
  event_here : (j : ℕ) → j < k + 1 → slot_at new.bits.simulator j ≡ staying gone (slot_at s.bits.simulator j)
  event_here j low =
      ap (λ (b : Simulation). slot_at b.simulator j) levels.bits
      ∙ toggles.events j
      ∙ elim (cases_lt j k) as (λ _. cond (j == k) (staying gone (slot_at mid.bits.simulator j)) (slot_at mid.bits.simulator j) ≡ staying gone (slot_at s.bits.simulator j)) [
        | inl sooner ↦
            ap (λ b. cond b (staying gone (slot_at mid.bits.simulator j)) (slot_at mid.bits.simulator j)) (ne_eqb j k (λ e. let no : ⊥ = omega (arith, sooner, e) in no)) ∙ so.events j sooner
        | inr not_sooner ↦
            ap (λ b. cond b (staying gone (slot_at mid.bits.simulator j)) (slot_at mid.bits.simulator j)) (eq-eqb j k (omega (arith, low, not_sooner))) ∙ ap (staying gone) (so.later_events j not_sooner)
      ]

  event_later : (j : ℕ) → k + 1 ≤ j → slot_at new.bits.simulator j ≡ slot_at s.bits.simulator j
  event_later j high =
      ap (λ (b : Simulation). slot_at b.simulator j) levels.bits
      ∙ toggles.events j
      ∙ ap (λ b. cond b (staying gone (slot_at mid.bits.simulator j)) (slot_at mid.bits.simulator j)) (ne_eqb j k (λ e. let no : ⊥ = omega (arith, high, e) in no))
      ∙ so.later_events j (omega (arith, high))

  change_here : (j : ℕ) → j < k + 1 → data_slot new.wires.wheel j ≡ staying_changes gone (data_slot s.wires.wheel j)
  change_here j low =
      levels.changes j
      ∙ ap (λ (v : DataWires). cond (j == k) (staying_changes gone (data_slot v.wheel j)) (data_slot v.wheel j)) toggles.wires
      ∙ elim (cases_lt j k) as (λ _. cond (j == k) (staying_changes gone (data_slot mid.wires.wheel j)) (data_slot mid.wires.wheel j) ≡ staying_changes gone (data_slot s.wires.wheel j)) [
        | inl sooner ↦
            ap (λ b. cond b (staying_changes gone (data_slot mid.wires.wheel j)) (data_slot mid.wires.wheel j)) (ne_eqb j k (λ e. let no : ⊥ = omega (arith, sooner, e) in no)) ∙ so.changes j sooner
        | inr not_sooner ↦
            ap (λ b. cond b (staying_changes gone (data_slot mid.wires.wheel j)) (data_slot mid.wires.wheel j)) (eq-eqb j k (omega (arith, low, not_sooner)))
            ∙ ap (staying_changes gone) (so.later_changes j not_sooner)
      ]

  change_later : (j : ℕ) → k + 1 ≤ j → data_slot new.wires.wheel j ≡ data_slot s.wires.wheel j
  change_later j high =
      levels.changes j
      ∙ ap (λ (v : DataWires). cond (j == k) (staying_changes gone (data_slot v.wheel j)) (data_slot v.wheel j)) toggles.wires
      ∙ ap (λ b. cond b (staying_changes gone (data_slot mid.wires.wheel j)) (data_slot mid.wires.wheel j)) (ne_eqb j k (λ e. let no : ⊥ = omega (arith, high, e) in no))
      ∙ so.later_changes j (omega (arith, high))

  pub more_taken : HasTaken gone (k + 1) s new
  more_taken = record {
    bits =
        levels.bits
        ∙ toggles.bits
        ∙ ap (λ (b : Simulation). (let x : Simulation = record b { simulator = record (b.simulator) { wheel = then.bits.simulator.wheel } } in x)) so.bits
        ∙ ap (λ o. (let x : Simulation = record (s.bits) { simulator = record (s.bits.simulator) { wheel = o } } in x)) (sym (ap (λ (b : Simulation). b.simulator.wheel) levels.bits));
    long = ap (λ (b : Simulation). length b.simulator.wheel) levels.bits ∙ toggles.long ∙ so.long;
    events = event_here;
    later_events = event_later;
    wires =
        levels.wires
        ∙ ap (λ (v : DataWires). (let x : DataWires = record v { wheel = new.wires.wheel } in x)) (toggles.wires ∙ so.wires);
    data_long = levels.long ∙ ap (λ (v : DataWires). length v.wheel) toggles.wires ∙ so.data_long;
    changes = change_here;
    later_changes = change_later;
    modules = levels.modules ∙ toggles.modules ∙ so.modules;
  }

  -- what is listed of this unit is what the slots had at first
  pub more_listed : (time : ℕ) (first was next all : List StimulusChange) → was ≡ first ++ taken_in gone time s k →
      next ≡ was ++ map (taken_toggle (time + k)) (filter gone (slot_at mid.bits.simulator k)) → all ≡ next ++ map (taken_change (time + k)) (gone_changes gone (data_slot then.wires.wheel k)) →
      all ≡ first ++ taken_in gone time s (k + 1)
  more_listed time first was next all before one other =
      let e : suc k ≡ k + 1 = omega arith in
      let wires : List StimulusChange = map (taken_toggle (time + k)) (filter gone (slot_at s.bits.simulator k)) in
      let changes : List StimulusChange = map (taken_change (time + k)) (gone_changes gone (data_slot s.wires.wheel k)) in
      other
      ∙ ap (λ (xs : List StimulusChange). xs ++ map (taken_change (time + k)) (gone_changes gone (data_slot then.wires.wheel k))) one
      ∙ ap (λ (xs : List ℕ). (was ++ map (taken_toggle (time + k)) (filter gone xs)) ++ map (taken_change (time + k)) (gone_changes gone (data_slot then.wires.wheel k))) (so.later_events k (omega arith))
      ∙ ap (λ (xs : List LevelChange). (was ++ wires) ++ map (taken_change (time + k)) (gone_changes gone xs))
      (ap (λ (v : DataWires). data_slot v.wheel k) toggles.wires ∙ so.later_changes k (omega arith))
      ∙ ap (λ (xs : List StimulusChange). (xs ++ wires) ++ changes) before
      ∙ append_assoc (first ++ taken_in gone time s k) wires changes
      ∙ append_assoc first (taken_in gone time s k) (wires ++ changes)
      ∙ ap (λ j. first ++ taken_in gone time s j) e
