-- A small netlist that has what is picked.
use Rattle.std.proofs.Common.{◌≡◌, ℕ, ◌+◌, ◌-◌, ◌≤◌, Bool, true, false, cond, List, [], ◌∷◌, Option, Some, None, option_map, length, refl, ap, sym, ◌∙◌, arith, inl, inr}
use Rattle.std.specs.Prelude.{IsSome}
use Rattle.std.proofs.lemmas.Bool.{cases_lt}
use Rattle.std.proofs.lemmas.List.{get_or_past}
use Rattle.mp_wave.specs.Waveform.{changes_after}
use Rattle.mp_records.specs.declared.wire_record.WireRecord.{WireRecord}
use Rattle.mp_netlist.specs.Circuit.{Circuit, wire_at, module_at}
use Rattle.mp_model.specs.Waves.{level, slot_wave}
use Rattle.mp_partition.specs.regions.Regions.{set_on_slot}
use Rattle.mp_near.specs.laws.Picking.{Picking, placed}
use Rattle.mp_near.specs.Changes.{IsChange, IsEither}
use Rattle.mp_near.specs.region.Picks.{ArePicks, picking}
use Rattle.mp_near.specs.region.Likeness.{AreWiresLike, AreModulesLike, HasFrame, picked_wire, set_by}
use Rattle.mp_near.specs.region.Regions.{IsLike}
use Rattle.mp_near.specs.declared.revision.Revision.{Revision}
use Rattle.mp_near.specs.declared.region.picked.Picked.{Picked}

-- a list without elements
pub no_elements : {A : Type 0} (xs : List A) → length xs ≡ 0 → xs ≡ []
no_elements [] is = refl
no_elements (x ∷ xs) is = absurd (omega arith)

-- the wave of a wire that stands, as its stimulus
set_by_wave : (n : Circuit) (w horizon : ℕ) (slot old : Option WireRecord) → IsSome old → horizon ≡ n.horizon → set_by (slot_wave n w old) slot ≡ set_on_slot horizon (level n w) slot
set_by_wave n w horizon slot None stands same = let no : ⊥ = cc in absurd no
set_by_wave n w horizon None (Some r) stands same = refl
set_by_wave n w horizon (Some q) (Some r) stands same = ap (λ h. Some (record q { stimulus = Some (changes_after (level n w) 0 (h - 1)) })) (sym same)

pub like_is : (change : Revision) (n : Circuit) (picked : Picked) (small : Circuit) → IsChange change → IsEither change n → ArePicks change.old.now change.new.now picked →
    HasFrame n small → AreWiresLike change.run.now n picked small (length picked.wires.numbers.items) →
    AreModulesLike n picked small (length picked.modules.numbers.items) → IsLike n small (picking change.new.now picked) picked (level change.old.now)
like_is change n picked small is either picks frame wires modules = record {
  has = record {
    format = frame.format;
    horizon = frame.horizon;
    bundles = no_elements small.bundles frame.bundles;
    wires = λ k. elim (cases_lt k (length picked.wires.numbers.items)) as (λ _. wire_at small k ≡ there k) [
      | inl low ↦ wires.each k (length change.new.now.wires + k + 1) low ∙ by k (pick.given k) refl
      | inr past ↦ (let few = wires.few in get_or_past small.wires k None (omega arith)) ∙ sym (none k past)
    ];
    modules = λ k. elim (cases_lt k (length picked.modules.numbers.items)) as (λ _. module_at small k ≡ option_map (placed pick.place_of) (module_at n (pick.module_of k))) [
      | inl low ↦ modules.each k (length change.new.now.modules + k + 1) low
      | inr past ↦
          let few = modules.few in
          let more = either.modules in
          let number : pick.module_of k ≡ length change.new.now.modules + k + 1 = get_or_past picked.modules.numbers.items k (length change.new.now.modules + k + 1) past in
          let absent : module_at n (pick.module_of k) ≡ None = get_or_past n.modules (pick.module_of k) None (omega (arith, number, more)) in
          get_or_past small.modules k None (omega arith) ∙ sym (ap (option_map (placed pick.place_of)) absent)
    ];
  };
  wires = wires.few;
  modules = modules.few;
}
  where
    pick : Picking
    pick = picking change.new.now picked

    there : ℕ → Option WireRecord
    there k = cond (pick.given k) (set_on_slot n.horizon (level change.old.now (pick.wire_of k)) (wire_at n (pick.wire_of k))) (wire_at n (pick.wire_of k))

    by : (k : ℕ) → (b : Bool) → pick.given k ≡ b → picked_wire change.run.now n (pick.wire_of k) (pick.given k) ≡ there k
    by k true e =
        rw e (ap (λ v. set_by v (wire_at n (pick.wire_of k))) (is.run.waves (pick.wire_of k))
        ∙ set_by_wave change.old.now (pick.wire_of k) n.horizon (wire_at n (pick.wire_of k)) (wire_at change.old.now (pick.wire_of k)) (picks.region.given k e).before either.horizon)
    by k false e = rw e refl

    none : (k : ℕ) → length picked.wires.numbers.items ≤ k → there k ≡ None
    none k past =
        let size = picks.given in
        let more = either.wires in
        let not : pick.given k ≡ false = get_or_past picked.given.items k false (omega arith) in
        let number : pick.wire_of k ≡ length change.new.now.wires + k + 1 = get_or_past picked.wires.numbers.items k (length change.new.now.wires + k + 1) past in
        let absent : wire_at n (pick.wire_of k) ≡ None = get_or_past n.wires (pick.wire_of k) None (omega (arith, number, more)) in
        rw not absent
