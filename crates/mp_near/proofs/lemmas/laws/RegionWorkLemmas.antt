-- The work of a region is the work of its netlist.
use Rattle.std.proofs.Common.{◌≡◌, ℕ, ◌<◌, ◌≤◌, false, Option, Some, None, is_some, option_map, refl, ap, sym, ◌∙◌, arith}
use Rattle.std.specs.Prelude.{IsSome}
use Rattle.mp_records.specs.declared.module_record.ModuleRecord.{ModuleRecord}
use Rattle.mp_netlist.specs.Circuit.{Circuit, IsCircuit, module_at}
use Rattle.mp_model.specs.Waves.{level}
use Rattle.mp_model.specs.Reach.{inputs, slot_inputs, IsApart}
use Rattle.mp_depend.specs.work.Revisions.{IsRevision, IsKept}
use Rattle.mp_depend.specs.work.Work.{Differs}
use Rattle.mp_depend.proofs.lemmas.work.StayLemmas.{old_inputs, new_inputs}
use Rattle.mp_near.specs.laws.Picking.{Picking, has_module, placed, IsPicking, HasPicked, HasLevelsOf}
use Rattle.mp_near.specs.laws.Regions.{AreRegion, Stays}
use Rattle.mp_near.specs.laws.RegionWork.{RegionsHaveWork, OthersRest}
use Rattle.mp_near.proofs.lemmas.laws.PlacedLemmas.{at_place, module_stands, module_there}
use Rattle.mp_near.proofs.lemmas.laws.DrivenLemmas.{same_inputs}
use Rattle.mp_near.proofs.lemmas.laws.PickedLevelLemmas.{picked_have_levels}
use Rattle.mp_near.proofs.lemmas.laws.RegionLevelLemmas.{inputs_stay, state_elsewhere, regions_have_levels}
use Rattle.mp_near.proofs.lemmas.laws.UnplacedLemmas.{module_back}
use Rattle.mp_near.proofs.lemmas.laws.EntryLemmas.{Follows, entry_there, Rests, no_entry}

-- the inputs of a picked module
inputs_there : (n s : Circuit) (pick : Picking) (levels : ℕ → ℕ → ℕ) → IsPicking n pick → HasPicked n s pick levels → (h : ℕ) → HasLevelsOf n s pick h → (k t : ℕ) → t < h
    → inputs s k t ≡ inputs n (pick.module_of k) t
inputs_there n s pick levels is has h same k t low = ap (λ slot. slot_inputs s slot t) (has.modules k) ∙ by (module_at n (pick.module_of k)) refl
  where
    by : (slot : Option ModuleRecord) → module_at n (pick.module_of k) ≡ slot → slot_inputs s (option_map (placed pick.place_of) slot) t ≡ slot_inputs n slot t
    by None at = refl
    by (Some r) at = same_inputs n s pick levels is has k r t (level s) (level n) at
        (λ w u before picked. same.levels (pick.place_of w) u (omega (arith, low, before)) ∙ ap (λ v. level n v u) (at_place pick w picked))

module _ (old new was now : Circuit) (pick : Picking) (region : AreRegion old new was now pick) (h : ℕ) (before : HasLevelsOf old was pick h) (after : HasLevelsOf new now pick h) where
  stood : (k : ℕ) → is_some (module_at was k) ≡ is_some (module_at old (pick.module_of k))
  stood = module_stands old was pick (level old) region.old_picking region.before

  stands : (k : ℕ) → is_some (module_at now k) ≡ is_some (module_at new (pick.module_of k))
  stands = module_stands new now pick (level old) region.new_picking region.after

  old_there : (k t : ℕ) → t < h → inputs was k t ≡ inputs old (pick.module_of k) t
  old_there = inputs_there old was pick (level old) region.old_picking region.before h before

  new_there : (k t : ℕ) → t < h → inputs now k t ≡ inputs new (pick.module_of k) t
  new_there = inputs_there new now pick (level old) region.new_picking region.after h after

  old_back : (k : ℕ) → module_at old (pick.module_of k) ≡ option_map (placed pick.wire_of) (module_at was k)
  old_back = module_back old was pick (level old) region.old_picking region.before

  new_back : (k : ℕ) → module_at new (pick.module_of k) ≡ option_map (placed pick.wire_of) (module_at now k)
  new_back = module_back new now pick (level old) region.new_picking region.after

  -- the netlist follows the region
  differs_up : (k t : ℕ) → t ≤ h → Differs was now k t → Differs old new (pick.module_of k) t
  differs_up k t low is =
      let kept_before = old_back k ∙ ap (option_map (placed pick.wire_of)) is.kept.before in
      let kept_after = new_back k ∙ ap (option_map (placed pick.wire_of)) is.kept.after in
      let e = is.before in
      record {
        part = placed pick.wire_of is.part;
        kept = record { before = kept_before; after = kept_after };
        last = is.last;
        before = is.before;
        differ = λ same. is.differ
            (before.states k is.last (placed pick.wire_of is.part) (omega (arith, e, low)) kept_before
            ∙ same
            ∙ sym (after.states k is.last (placed pick.wire_of is.part) (omega (arith, e, low)) kept_after));
      }

  pub up : (k : ℕ) → Follows old new was now (pick.module_of k) k h
  up k = record {
    touched = λ is. record { stands = sym (stands k) ∙ is.stands; differ = λ same. is.differ (region.before.modules k ∙ ap (option_map (placed pick.place_of)) same ∙ sym (region.after.modules k)) };
    apart = λ t low is. record {
      before = sym (stood k) ∙ is.before;
      after = sym (stands k) ∙ is.after;
      differ = λ same. is.differ (old_there k t low ∙ same ∙ sym (new_there k t low));
    };
    differs = differs_up k;
  }

  -- and the region follows the netlist
  differs_down : (k t : ℕ) → t ≤ h → Differs old new (pick.module_of k) t → Differs was now k t
  differs_down k t low is =
      let e = is.before in
      record {
        part = placed pick.place_of is.part;
        kept = record {
          before = module_there old was pick (level old) region.old_picking region.before k is.part is.kept.before;
          after = module_there new now pick (level old) region.new_picking region.after k is.part is.kept.after;
        };
        last = is.last;
        before = is.before;
        differ = λ same. is.differ
            (sym (before.states k is.last is.part (omega (arith, e, low)) is.kept.before) ∙ same ∙ after.states k is.last is.part (omega (arith, e, low)) is.kept.after);
      }

  pub down : (k : ℕ) → Follows was now old new k (pick.module_of k) h
  down k = record {
    touched = λ is. record { stands = stands k ∙ is.stands; differ = λ same. is.differ (old_back k ∙ ap (option_map (placed pick.wire_of)) same ∙ sym (new_back k)) };
    apart = λ t low is. record {
      before = stood k ∙ is.before;
      after = stands k ∙ is.after;
      differ = λ same. is.differ (sym (old_there k t low) ∙ same ∙ new_there k t low);
    };
    differs = differs_down k;
  }

-- what isn't picked rests
module _ (old new was now : Circuit) (pick : Picking) (old_ok : IsCircuit old) (new_ok : IsCircuit new) (now_ok : IsCircuit now) (revised : IsRevision old new) (region : AreRegion old new was now pick)
    (h : ℕ) (within : h ≤ new.horizon) (stays : Stays old new now pick h) (m : ℕ) (not : has_module pick m ≡ false) where
  never_apart : (t : ℕ) → t < h → IsApart old new m t → ⊥
  never_apart t low is = by (module_at new m) refl is.after
    where
      by : (slot : Option ModuleRecord) → module_at new m ≡ slot → IsSome slot → ⊥
      by None at some = cc
      by (Some r) at some =
          let kept : IsKept old new m r = record { before = region.region.modules m not ∙ at; after = at } in
          is.differ
          (old_inputs old new old_ok new_ok revised m r kept t
          ∙ inputs_stay old new was now pick old_ok new_ok now_ok revised region h within stays m t r low not at
          ∙ sym (new_inputs old new old_ok new_ok revised m r kept t))

  pub rests : Rests old new m h
  rests = record {
    touched = λ is. is.differ (region.region.modules m not);
    apart = never_apart;
    differs = λ t low is.
        let e = is.before in
        is.differ (sym (state_elsewhere old new was now pick old_ok new_ok now_ok revised region h within stays m is.last is.part (omega (arith, e, low)) not is.kept.after));
  }

pub regions_have_work : RegionsHaveWork
regions_have_work old new was now pick old_ok new_ok was_ok now_ok revised region least h within stays k from to low = (
  entry_there old new was now (pick.module_of k) k h new_ok horizon least (upward k) (downward k) from to low,
  entry_there was now old new k (pick.module_of k) h now_ok (sym horizon) (sym least) (downward k) (upward k) from to low,
)
  where
    horizon : now.horizon ≡ new.horizon
    horizon = region.after.horizon

    before : HasLevelsOf old was pick h
    before =
        let whole = picked_have_levels old was pick old_ok was_ok region.old_picking region.before in
        let same = revised.horizon in
        record {
          levels = λ k t low. whole.levels k t (omega (arith, low, within, same));
          states = λ k t r low at. whole.states k t r (omega (arith, low, within, same)) at;
        }

    after : HasLevelsOf new now pick h
    after = (regions_have_levels old new was now pick old_ok new_ok now_ok revised region h within stays).0

    upward : (k : ℕ) → Follows old new was now (pick.module_of k) k h
    upward = up old new was now pick region h before after

    downward : (k : ℕ) → Follows was now old new k (pick.module_of k) h
    downward = down old new was now pick region h before after

pub others_rest : OthersRest
others_rest old new was now pick old_ok new_ok now_ok revised region h within stays m from to low not =
    no_entry old new m h new_ok (rests old new was now pick old_ok new_ok now_ok revised region h within stays m not) from to low
