-- The run of a netlist that is picked from another, and what of a run stays outside a region.
use Rattle.std.proofs.Common.{◌≡◌, ℕ, ◌+◌, ◌-◌, ◌%◌, ◌<◌, ◌≤◌, false, cond, ◌==◌, ◌&&◌, nat_lt, List, [], ◌∷◌, ◌++◌, Option, Some, None, is_some, option_map, zero, suc, refl, ap, sym, ◌∙◌, arith, inl, inr}
use Rattle.std.proofs.lemmas.Bool.{cases_lt, le-ltb}
use Rattle.mp_wave.specs.Waveform.{Waveform, change_after, changes_after, wave_upto}
use Rattle.mp_modules.specs.storage.AnyModules.{start}
use Rattle.mp_records.specs.declared.wire_record.WireRecord.{WireRecord}
use Rattle.mp_records.specs.declared.module_record.ModuleRecord.{ModuleRecord}
use Rattle.mp_netlist.specs.Circuit.{Circuit, wire_at, module_at}
use Rattle.mp_netlist.specs.Limits.{checkpoint_units}
use Rattle.mp_model.specs.Waves.{level, state, wave, slot_wave}
use Rattle.mp_partition.specs.runs.Checkpoints.{state_before}
use Rattle.mp_partition.specs.runs.Runs.{end_memory, checkpoint}
use Rattle.mp_depend.proofs.lemmas.work.StayLemmas.{built_same}
use Rattle.mp_near.specs.laws.Picking.{has_module, placed}
use Rattle.mp_near.specs.laws.Regions.{IsAsBefore}
use Rattle.mp_near.specs.laws.RegionRuns.{PickedHaveRuns, OthersHaveRuns}
use Rattle.mp_near.proofs.lemmas.laws.PlacedLemmas.{stands_there, built_there}

-- ---- waves
abbrev changed : ℕ → ℕ → ℕ → List (ℕ × ℕ)
changed t before after = cond (before == after) [] ((suc t, after) ∷ [])

change_same : (f g : ℕ → ℕ) (t : ℕ) → f t ≡ g t → f (suc t) ≡ g (suc t) → change_after f t ≡ change_after g t
change_same f g t here next = ap (λ v. changed t v (f (suc t))) here ∙ ap (λ v. changed t (g t) v) next

changes_same : (f g : ℕ → ℕ) (count : ℕ) → ((t : ℕ) → t ≤ count → f t ≡ g t) → changes_after f 0 count ≡ changes_after g 0 count
changes_same f g zero same = refl
changes_same f g (suc count) same =
    ap (λ xs. xs ++ change_after f (0 + count)) (changes_same f g count (λ t low. same t (omega (arith, low))))
    ∙ ap (λ xs. changes_after g 0 count ++ xs) (change_same f g (0 + count) (same (0 + count) (omega arith)) (same (suc (0 + count)) (omega arith)))

upto_same : (f g : ℕ → ℕ) (last : ℕ) → ((t : ℕ) → t ≤ last → f t ≡ g t) → wave_upto f last ≡ wave_upto g last
upto_same f g last same =
    ap (λ (v : ℕ). let x : Waveform = record { initial = v; changes = changes_after f 0 last } in x) (same 0 (omega arith))
    ∙ ap (λ (xs : List (ℕ × ℕ)). let x : Waveform = record { initial = g 0; changes = xs } in x) (changes_same f g last same)

-- two netlists have one horizon, and a wire of each the same levels
wave_same : (n s : Circuit) (w k : ℕ) → 1 ≤ n.horizon → s.horizon ≡ n.horizon → ((t : ℕ) → t < n.horizon → level s k t ≡ level n w t) → wave s k ≡ wave n w
wave_same n s w k some horizon same =
    ap (λ h. wave_upto (level s k) (h - 1)) horizon ∙ upto_same (level s k) (level n w) (n.horizon - 1) (λ t low. same t (omega (arith, some, low)))

slot_same : (n s : Circuit) (w k : ℕ) (one other : Option WireRecord) → is_some one ≡ is_some other → wave s k ≡ wave n w → slot_wave s k one ≡ slot_wave n w other
slot_same n s w k None None stands same = refl
slot_same n s w k None (Some r) stands same = let no : ⊥ = cc in absurd no
slot_same n s w k (Some r) None stands same = let no : ⊥ = cc in absurd no
slot_same n s w k (Some r) (Some q) stands same = ap (λ x. Some x) same

-- ---- states
-- two netlists have one horizon, and a module of each the same states, wherever it stands
module _ (n s : Circuit) (m k : ℕ) (f : ModuleRecord → ModuleRecord) (some : 1 ≤ n.horizon) (horizon : s.horizon ≡ n.horizon) (slots : module_at s k ≡ option_map f (module_at n m)) where
  end_same : ((t : ℕ) (r : ModuleRecord) → t < n.horizon → module_at n m ≡ Some r → state s k t ≡ state n m t) → end_memory s k ≡ end_memory n m
  end_same states = ap (option_map (λ (r : ModuleRecord). state s k (s.horizon - 1))) slots ∙ by (module_at n m) refl
    where
      by : (slot : Option ModuleRecord) → module_at n m ≡ slot → option_map (λ (r : ModuleRecord). state s k (s.horizon - 1)) (option_map f slot) ≡ option_map (λ (r : ModuleRecord). state n m (n.horizon - 1)) slot
      by None at = refl
      by (Some r) at = ap (λ h. Some (state s k (h - 1))) horizon ∙ ap (λ x. Some x) (states (n.horizon - 1) r (omega (arith, some)) at)

  kept_same : ((t : ℕ) (r : ModuleRecord) → t < n.horizon → module_at n m ≡ Some r → state_before s k (f r) t ≡ state_before n m r t) → (c : ℕ) → checkpoint s k c ≡ checkpoint n m c
  kept_same states c =
      ap (λ h. cond (nat_lt c h && c % checkpoint_units h == 0) (option_map (λ (r : ModuleRecord). state_before s k r c) (module_at s k)) None) horizon
      ∙ elim (cases_lt c n.horizon) as (λ _. cond (nat_lt c n.horizon && c % checkpoint_units n.horizon == 0) (option_map (λ (r : ModuleRecord). state_before s k r c) (module_at s k)) None ≡ checkpoint n m c) [
        | inl low ↦ ap (λ x. cond (nat_lt c n.horizon && c % checkpoint_units n.horizon == 0) x None) (ap (option_map (λ (r : ModuleRecord). state_before s k r c)) slots ∙ by low (module_at n m) refl)
        | inr high ↦ rw (le-ltb c n.horizon high) refl
      ]
    where
      by : c < n.horizon → (slot : Option ModuleRecord) → module_at n m ≡ slot → option_map (λ (r : ModuleRecord). state_before s k r c) (option_map f slot) ≡ option_map (λ (r : ModuleRecord). state_before n m r c) slot
      by low None at = refl
      by low (Some r) at = ap (λ x. Some x) (states c r low at)

-- ---- what is picked
pub picked_have_runs : PickedHaveRuns
picked_have_runs n s pick levels ok is has same = record {
  waves = λ k.
      slot_same n s (pick.wire_of k) k (wire_at s k) (wire_at n (pick.wire_of k)) (stands_there n s pick levels is has k)
      (wave_same n s (pick.wire_of k) k ok.horizon_low has.horizon (λ t low. same.levels k t low));
  ends = λ k. end_same n s (pick.module_of k) k (placed pick.place_of) ok.horizon_low has.horizon (has.modules k) (λ t r low at. same.states k t r low at);
  checkpoints = λ k. kept_same n s (pick.module_of k) k (placed pick.place_of) ok.horizon_low has.horizon (has.modules k) (before k);
}
  where
    before : (k t : ℕ) (r : ModuleRecord) → t < n.horizon → module_at n (pick.module_of k) ≡ Some r → state_before s k (placed pick.place_of r) t ≡ state_before n (pick.module_of k) r t
    before k zero r low at = ap start (built_there n s pick levels is has k r at (ok.modules_ok (pick.module_of k) r at))
    before k (suc u) r low at = same.states k u r (omega (arith, low)) at

-- ---- what isn't
same_slot : (slot : Option ModuleRecord) → slot ≡ option_map (λ (r : ModuleRecord). r) slot
same_slot None = refl
same_slot (Some r) = refl

pub others_have_runs : OthersHaveRuns
others_have_runs old new pick old_ok new_ok revised region same = record {
  waves = λ w not. sym
      (slot_same new old w w (wire_at old w) (wire_at new w) (stands w (region.others w not))
      (wave_same new old w w new_ok.horizon_low (sym revised.horizon) (λ t low. sym (same.levels w t low not))));
  ends = λ m not. sym (end_same new old m m (λ r. r) new_ok.horizon_low (sym revised.horizon) (slots m not) (λ t r low at. sym (same.states m t r low not at)));
  checkpoints = λ m c not. sym (kept_same new old m m (λ r. r) new_ok.horizon_low (sym revised.horizon) (slots m not) (before m not) c);
}
  where
    stands : (w : ℕ) → IsAsBefore old new w → is_some (wire_at old w) ≡ is_some (wire_at new w)
    stands w (inl alike) = alike.before ∙ sym alike.after
    stands w (inr none) = ap is_some none.0 ∙ sym (ap is_some none.1)

    slots : (m : ℕ) → has_module pick m ≡ false → module_at old m ≡ option_map (λ (r : ModuleRecord). r) (module_at new m)
    slots m not = region.modules m not ∙ same_slot (module_at new m)

    before : (m : ℕ) → has_module pick m ≡ false → (t : ℕ) (r : ModuleRecord) → t < new.horizon → module_at new m ≡ Some r → state_before old m r t ≡ state_before new m r t
    before m not zero r low at = ap start (built_same old new old_ok new_ok revised m r (record { before = region.modules m not ∙ at; after = at }))
    before m not (suc u) r low at = sym (same.states m u r (omega (arith, low)) not at)
