-- As long as nothing outside a region reads another level, the netlist has the levels and states of the region, and outside those of the old netlist.
use Rattle.std.proofs.Common.{◌≡◌, ◌⊎◌, ℕ, ◌+◌, ◌<◌, ◌≤◌, Bool, true, false, cond, Some, is_some, refl, ap, sym, subst, ◌∙◌, arith, inl, inr}
use Rattle.std.proofs.lemmas.Bool.{cases_Bool}
use Rattle.mp_modules.specs.declared.memory.Memory.{Memory}
use Rattle.mp_modules.specs.storage.AnyModules.{settle, step}
use Rattle.mp_records.specs.declared.module_record.ModuleRecord.{ModuleRecord}
use Rattle.mp_netlist.specs.declared.driver.Driver.{Driver}
use Rattle.mp_netlist.specs.declared.driver.Driver.TheVariants.{Nothing, Stimulus, Port}
use Rattle.mp_netlist.specs.Circuit.{Circuit, IsCircuit, Drives, wire_at, module_at}
use Rattle.mp_netlist.specs.Drivers.{driver, is_port}
use Rattle.mp_netlist.proofs.DriverLemmas.{finds_only_ports, portless_is_undriven}
use Rattle.mp_model.specs.Levels.{built, inputs_by, level_by}
use Rattle.mp_model.specs.Waves.{level, state}
use Rattle.mp_model.proofs.BehaviourLemmas.{satisfies}
use Rattle.mp_model.proofs.EndsLemmas.{first_level}
use Rattle.mp_partition.specs.regions.Readers.{Reads}
use Rattle.mp_depend.specs.work.Revisions.{IsRevision, IsKept, IsDrivenAlike}
use Rattle.mp_depend.proofs.lemmas.work.StayLemmas.{built_same}
use Rattle.mp_depend.proofs.lemmas.work.LevelLemmas.{initials_same}
use Rattle.mp_near.specs.laws.Below.{IsBehaviourBelow}
use Rattle.mp_near.specs.laws.Picking.{Picking, has_wire, has_module, placed}
use Rattle.mp_near.specs.laws.Regions.{IsAsBefore, AreRegion, Stays, RegionsHaveLevels, IsClosed, ClosedRegionsStay}
use Rattle.mp_near.proofs.lemmas.laws.BelowLemmas.{only_one_below}
use Rattle.mp_near.proofs.lemmas.laws.PlacedLemmas.{at_place, at_seat, wire_picked, module_there, stands_there, picked_there, seat_is, built_there}
use Rattle.mp_near.proofs.lemmas.laws.AlikeLemmas.{empty_level, none_is, alike_level, kept_inputs}
use Rattle.mp_near.proofs.lemmas.laws.DrivenLemmas.{same_inputs, given_level, unported_level, own_level}

module _ (old new was now : Circuit) (pick : Picking) (old_ok : IsCircuit old) (new_ok : IsCircuit new) (now_ok : IsCircuit now) (revised : IsRevision old new) (region : AreRegion old new was now pick) where
  -- the levels and states of the region where they are picked, and else those of the old netlist
  abbrev pub levels : ℕ → ℕ → ℕ
  levels w t = cond (has_wire pick w) (level now (pick.place_of w) t) (level old w t)

  abbrev pub states : ℕ → ℕ → Memory
  states m t = cond (has_module pick m) (state now (pick.seat_of m) t) (state old m t)

  pub level_in : (w t : ℕ) → has_wire pick w ≡ true → levels w t ≡ level now (pick.place_of w) t
  level_in w t picked = ap (λ b. cond b (level now (pick.place_of w) t) (level old w t)) picked

  level_out : (w t : ℕ) → has_wire pick w ≡ false → levels w t ≡ level old w t
  level_out w t not = ap (λ b. cond b (level now (pick.place_of w) t) (level old w t)) not

  pub state_in : (m t : ℕ) → has_module pick m ≡ true → states m t ≡ state now (pick.seat_of m) t
  state_in m t picked = ap (λ b. cond b (state now (pick.seat_of m) t) (state old m t)) picked

  pub state_out : (m t : ℕ) → has_module pick m ≡ false → states m t ≡ state old m t
  state_out m t not = ap (λ b. cond b (state now (pick.seat_of m) t) (state old m t)) not

  -- a module that drives a wire which is given, or not picked, isn't picked
  driver_out : (m p w : ℕ) → has_wire pick w ≡ false → Drives new m p w → has_module pick m ≡ false
  driver_out m p w not drives = elim (cases_Bool (has_module pick m)) as (λ _. has_module pick m ≡ false) [
    | inl picked ↦ let wire = region.new_picking.driven m p w picked drives in let no : ⊥ = cc in absurd no
    | inr other ↦ other
  ]

  given_out : (k m p : ℕ) → pick.given k ≡ true → Drives new m p (pick.wire_of k) → has_module pick m ≡ false
  given_out k m p given drives =
      let found = region.new_picking.given_driven k given in
      let same = new_ok.one_port m p found.0 found.1 (pick.wire_of k) drives found.2 in
      subst (λ j. has_module pick j ≡ false) (sym same.0) found.3

  -- a given wire has its old levels in the region
  given_now : (k t : ℕ) → pick.given k ≡ true → t < new.horizon → level now k t ≡ level old (pick.wire_of k) t
  given_now k t given low =
      let alike = region.region.given k given in
      (satisfies now now_ok).levels k t
      ∙ given_level new now pick (level old) region.new_picking region.after new_ok now_ok k t (state now) given low
      (sym (initials_same old new revised (pick.wire_of k) (wire_at old (pick.wire_of k)) (wire_at new (pick.wire_of k)) refl refl alike.before alike.after)
      ∙ sym (first_level old old_ok (pick.wire_of k)))

  -- a wire that isn't picked
  driven_out : (w t : ℕ) → has_wire pick w ≡ false → level old w t ≡ level_by new states w t
  driven_out w t not = by (region.region.others w not)
    where
      by : IsAsBefore old new w → level old w t ≡ level_by new states w t
      by (inl alike) = alike_level old new old_ok new_ok revised w t states alike (λ m p u drives. state_out m u (driver_out m p w not drives))
      by (inr none) = (satisfies old old_ok).levels w t ∙ empty_level old old_ok w (state old) t none.0 ∙ sym (empty_level new new_ok w states t none.1)

  -- a wire that is picked
  pub driven_in : (k t : ℕ) → t < new.horizon → level now k t ≡ level_by new states (pick.wire_of k) t
  driven_in k t low = elim (cases_Bool (pick.given k)) as (λ _. level now k t ≡ level_by new states (pick.wire_of k) t) [
    | inl given ↦
        given_now k t given low
        ∙ alike_level old new old_ok new_ok revised (pick.wire_of k) t states (region.region.given k given) (λ m p u drives. state_out m u (given_out k m p given drives))
    | inr own ↦
        (satisfies now now_ok).levels k t
        ∙ own_level new now pick (level old) region.new_picking region.after new_ok now_ok k t (state now) states own
        (λ j u r before at.
        sym (state_in (pick.module_of j) u (picked_there new now pick (level old) region.new_picking region.after j r at)
        ∙ ap (λ i. state now i u) (seat_is new now pick (level old) region.new_picking region.after j r at)))
  ]

  driven : (w t : ℕ) → t < new.horizon → levels w t ≡ level_by new states w t
  driven w t low = elim (cases_Bool (has_wire pick w)) as (λ _. levels w t ≡ level_by new states w t) [
    | inl picked ↦ level_in w t picked ∙ driven_in (pick.place_of w) t low ∙ ap (λ v. level_by new states v t) (at_place pick w picked)
    | inr not ↦ level_out w t not ∙ driven_out w t not
  ]

  -- a module that is picked
  module _ (m : ℕ) (r : ModuleRecord) (picked : has_module pick m ≡ true) (at : module_at new m ≡ Some r) where
    at_now : module_at new (pick.module_of (pick.seat_of m)) ≡ Some r
    at_now = ap (λ j. module_at new j) (at_seat pick m picked) ∙ at

    pub inputs_in : (t : ℕ) → inputs_by now (level now) (placed pick.place_of r) t ≡ inputs_by new levels r t
    inputs_in t = same_inputs new now pick (level old) region.new_picking region.after (pick.seat_of m) r t (level now) levels at_now (λ w u before is. sym (level_in w u is))

    built_in : built now (placed pick.place_of r) ≡ built new r
    built_in = built_there new now pick (level old) region.new_picking region.after (pick.seat_of m) r at_now (new_ok.modules_ok m r at)

    here_now : module_at now (pick.seat_of m) ≡ Some (placed pick.place_of r)
    here_now = module_there new now pick (level old) region.new_picking region.after (pick.seat_of m) r at_now

    pub settled_in : states m 0 ≡ settle (built new r) (inputs_by new levels r 0)
    settled_in =
        state_in m 0 picked
        ∙ (satisfies now now_ok).settled (pick.seat_of m) (placed pick.place_of r) here_now
        ∙ ap (λ part. settle part (inputs_by now (level now) (placed pick.place_of r) 0)) built_in
        ∙ ap (settle (built new r)) (inputs_in 0)

    pub stepped_in : (t : ℕ) → states m (t + 1) ≡ step (built new r) (states m t) (inputs_by new levels r (t + 1))
    stepped_in t =
        state_in m (t + 1) picked
        ∙ (satisfies now now_ok).stepped (pick.seat_of m) t (placed pick.place_of r) here_now
        ∙ ap (λ part. step part (state now (pick.seat_of m) t) (inputs_by now (level now) (placed pick.place_of r) (t + 1))) built_in
        ∙ ap (step (built new r) (state now (pick.seat_of m) t)) (inputs_in (t + 1))
        ∙ ap (λ (x : Memory). step (built new r) x (inputs_by new levels r (t + 1))) (sym (state_in m t picked))

  -- a module that isn't picked, up to a time from which on other levels may be read
  module _ (h : ℕ) (within : h ≤ new.horizon) (stays : Stays old new now pick h) where
    read_out : (m w u : ℕ) → u < h → has_module pick m ≡ false → Reads new m w → level old w u ≡ levels w u
    read_out m w u low not reads = elim (cases_Bool (has_wire pick w)) as (λ _. level old w u ≡ levels w u) [
      | inr other ↦ sym (level_out w u other)
      | inl picked ↦ elim (cases_Bool (pick.given (pick.place_of w))) as (λ _. level old w u ≡ levels w u) [
        | inl given ↦ sym (level_in w u picked ∙ given_now (pick.place_of w) u given (omega (arith, low, within)) ∙ ap (λ v. level old v u) (at_place pick w picked))
        | inr own ↦ sym (level_in w u picked ∙ stays m w u not reads picked own low)
      ]
    ]

    module _ (m : ℕ) (r : ModuleRecord) (not : has_module pick m ≡ false) (at : module_at new m ≡ Some r) where
      kept : IsKept old new m r
      kept = record { before = region.region.modules m not ∙ at; after = at }

      inputs_out : (t : ℕ) → t < h → inputs_by old (level old) r t ≡ inputs_by new levels r t
      inputs_out t low = kept_inputs old new old_ok new_ok revised m r t levels kept (λ w u before reads. read_out m w u (omega (arith, low, before)) not reads)

      built_out : built old r ≡ built new r
      built_out = built_same old new old_ok new_ok revised m r kept

      settled_out : 0 < h → states m 0 ≡ settle (built new r) (inputs_by new levels r 0)
      settled_out low =
          state_out m 0 not
          ∙ (satisfies old old_ok).settled m r kept.before
          ∙ ap (λ part. settle part (inputs_by old (level old) r 0)) built_out
          ∙ ap (settle (built new r)) (inputs_out 0 low)

      stepped_out : (t : ℕ) → t + 1 < h → states m (t + 1) ≡ step (built new r) (states m t) (inputs_by new levels r (t + 1))
      stepped_out t low =
          state_out m (t + 1) not
          ∙ (satisfies old old_ok).stepped m t r kept.before
          ∙ ap (λ part. step part (state old m t) (inputs_by old (level old) r (t + 1))) built_out
          ∙ ap (step (built new r) (state old m t)) (inputs_out (t + 1) low)
          ∙ ap (λ (x : Memory). step (built new r) x (inputs_by new levels r (t + 1))) (sym (state_out m t not))

    behaves : IsBehaviourBelow new h levels states
    behaves = record {
      driven = λ w t low. driven w t (omega (arith, low, within));
      settled = λ m r low at. elim (cases_Bool (has_module pick m)) as (λ _. states m 0 ≡ settle (built new r) (inputs_by new levels r 0)) [
        | inl picked ↦ settled_in m r picked at
        | inr not ↦ settled_out m r not at low
      ];
      stepped = λ m t r low at. elim (cases_Bool (has_module pick m)) as (λ _. states m (t + 1) ≡ step (built new r) (states m t) (inputs_by new levels r (t + 1))) [
        | inl picked ↦ stepped_in m r picked at t
        | inr not ↦ stepped_out m r not at t low
      ];
    }

    level_there : (k t : ℕ) → t < h → level now k t ≡ level new (pick.wire_of k) t
    level_there k t low = by (is_some (wire_at new (pick.wire_of k))) refl
      where
        by : (b : Bool) → is_some (wire_at new (pick.wire_of k)) ≡ b → level now k t ≡ level new (pick.wire_of k) t
        by true stands =
            let place = region.new_picking.places k stands in
            sym (level_in (pick.wire_of k) t (wire_picked pick k place) ∙ ap (λ j. level now j t) place)
            ∙ (only_one_below new new_ok h levels states behaves).0 (pick.wire_of k) t low
        by false none =
            let here = none_is (wire_at now k) (stands_there new now pick (level old) region.new_picking region.after k ∙ none) in
            let there = none_is (wire_at new (pick.wire_of k)) none in
            (satisfies now now_ok).levels k t ∙ empty_level now now_ok k (state now) t here
            ∙ sym ((satisfies new new_ok).levels (pick.wire_of k) t ∙ empty_level new new_ok (pick.wire_of k) (state new) t there)

    state_there : (k t : ℕ) (r : ModuleRecord) → t < h → module_at new (pick.module_of k) ≡ Some r → state now k t ≡ state new (pick.module_of k) t
    state_there k t r low at =
        let seat = seat_is new now pick (level old) region.new_picking region.after k r at in
        sym (state_in (pick.module_of k) t (picked_there new now pick (level old) region.new_picking region.after k r at) ∙ ap (λ j. state now j t) seat)
        ∙ (only_one_below new new_ok h levels states behaves).1 (pick.module_of k) t r low at

    level_elsewhere : (w t : ℕ) → t < h → has_wire pick w ≡ false → level new w t ≡ level old w t
    level_elsewhere w t low not = sym ((only_one_below new new_ok h levels states behaves).0 w t low) ∙ level_out w t not

    pub state_elsewhere : (m t : ℕ) (r : ModuleRecord) → t < h → has_module pick m ≡ false → module_at new m ≡ Some r → state new m t ≡ state old m t
    state_elsewhere m t r low not at = sym ((only_one_below new new_ok h levels states behaves).1 m t r low at) ∙ state_out m t not

    pub inputs_stay : (m t : ℕ) (r : ModuleRecord) → t < h → has_module pick m ≡ false → module_at new m ≡ Some r → inputs_by old (level old) r t ≡ inputs_by new (level new) r t
    inputs_stay m t r low not at = kept_inputs old new old_ok new_ok revised m r t (level new) (kept m r not at)
        (λ w u before reads.
        read_out m w u (omega (arith, low, before)) not reads
        ∙ (only_one_below new new_ok h levels states behaves).0 w u (omega (arith, low, before)))

  -- in a closed region all stays
  closed_stays : IsClosed old new pick → (h : ℕ) → Stays old new now pick h
  closed_stays closed h m w t not reads picked own low = by (closed.changed w m reads)
    where
      unported : IsDrivenAlike old new w → (d : Driver) → driver new w ≡ d → is_port d ≡ false → level now (pick.place_of w) t ≡ level old w t
      unported alike d e none =
          (satisfies now now_ok).levels (pick.place_of w) t
          ∙ unported_level new now pick (level old) region.new_picking region.after new_ok now_ok (pick.place_of w) t (state now) states d (ap (λ v. driver new v) (at_place pick w picked) ∙ e) none own
          ∙ ap (λ v. level_by new states v t) (at_place pick w picked)
          ∙ sym (alike_level old new old_ok new_ok revised w t states alike (λ k p u drives. absurd (portless_is_undriven new new_ok w (ap is_port e ∙ none) k p drives)))

      by_driver : IsDrivenAlike old new w → (d : Driver) → driver new w ≡ d → level now (pick.place_of w) t ≡ level old w t
      by_driver alike Nothing e = unported alike Nothing e refl
      by_driver alike Stimulus e = unported alike Stimulus e refl
      by_driver alike (Port k p) e =
          let drives = finds_only_ports new w p k e in
          let driver_picked = region.new_picking.own_driven (pick.place_of w) k.0 p own (subst (Drives new k.0 p) (sym (at_place pick w picked)) drives) in
          let reader_picked = closed.driven k.0 p w m driver_picked drives reads in
          let no : ⊥ = cc in absurd no

      by : (has_module pick m ≡ true) ⊎ IsDrivenAlike old new w → level now (pick.place_of w) t ≡ level old w t
      by (inl is) = let no : ⊥ = cc in absurd no
      by (inr alike) = by_driver alike (driver new w) refl

pub closed_regions_stay : ClosedRegionsStay
closed_regions_stay old new was now pick old_ok new_ok now_ok revised region closed h = closed_stays old new was now pick old_ok new_ok now_ok revised region closed h

pub regions_have_levels : RegionsHaveLevels
regions_have_levels old new was now pick old_ok new_ok now_ok revised region h within stays = (
  record {
    levels = level_there old new was now pick old_ok new_ok now_ok revised region h within stays;
    states = state_there old new was now pick old_ok new_ok now_ok revised region h within stays;
  },
  record {
    levels = level_elsewhere old new was now pick old_ok new_ok now_ok revised region h within stays;
    states = state_elsewhere old new was now pick old_ok new_ok now_ok revised region h within stays;
  },
)
