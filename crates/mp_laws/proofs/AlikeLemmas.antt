-- Netlists that are alike, on which stimuli set the same up to a time, have the same levels and states up to then.
use Rattle.std.proofs.Common.{◌≡◌, ℕ, ◌+◌, ◌-◌, ◌<◌, ◌≤◌, cond, List, map, Option, Some, None, is_some, nat_lt, zero, suc, refl, ap, sym, subst, ◌∙◌, inl, inr, arith}
use Rattle.std.proofs.lemmas.Bool.{cases_lt, lt-ltb}
use Rattle.mp_modules.specs.declared.memory.Memory.{Memory}
use Rattle.mp_modules.specs.Kinds.{width_from}
use Rattle.mp_modules.specs.Memories.{output_of}
use Rattle.mp_modules.specs.storage.AnyModules.{any_part_of, settle, step}
use Rattle.mp_records.specs.declared.wire_record.WireRecord.{WireRecord}
use Rattle.mp_records.specs.declared.module_record.ModuleRecord.{ModuleRecord}
use Rattle.mp_records.specs.declared.ports.Input.{Input}
use Rattle.mp_records.specs.Inputs.{input_at}
use Rattle.mp_records.specs.Outputs.{delay_of}
use Rattle.mp_netlist.specs.declared.driver.Driver.{Driver}
use Rattle.mp_netlist.specs.declared.driver.Driver.TheVariants.{Nothing, Stimulus, Port}
use Rattle.mp_netlist.specs.Slots.{slot_at}
use Rattle.mp_netlist.specs.Circuit.{Circuit, IsCircuit, wire_at, module_at, width_of, stimulus_at, stimulus_in}
use Rattle.mp_netlist.specs.Drivers.{driver, driver_from, stimulus_driver}
use Rattle.mp_model.specs.Levels.{built, initial_of, stimulus_level, port_level, driven_level, input_by, inputs_by}
use Rattle.mp_model.specs.Waves.{level, state}
use Rattle.mp_model.proofs.BehaviourLemmas.{satisfies}
use Rattle.mp_model.proofs.HistoryLemmas.{late}
use Rattle.mp_laws.specs.Stimuli.{AreSetAlike, AreAlikeUpto, LaterChangesNothingBefore}

module _ (end : ℕ) where
  slot_driver : (a b : Option WireRecord) → AreSetAlike end a b → stimulus_driver (stimulus_in b) ≡ stimulus_driver (stimulus_in a)
  slot_driver None None alike = refl
  slot_driver (Some r) (Some s) alike = by r.stimulus s.stimulus alike.set
    where
      by : (a b : Option (List (ℕ × ℕ))) → is_some b ≡ is_some a → stimulus_driver b ≡ stimulus_driver a
      by None None same = refl
      by (Some c) (Some d) same = refl
      by None (Some d) same = let no : ⊥ = cc in absurd no
      by (Some c) None same = let no : ⊥ = cc in absurd no
  slot_driver None (Some s) alike = absurd alike
  slot_driver (Some r) None alike = absurd alike

  slot_initial : (a b : Option WireRecord) → AreSetAlike end a b → initial_of b ≡ initial_of a
  slot_initial None None alike = refl
  slot_initial (Some r) (Some s) alike = alike.initial
  slot_initial None (Some s) alike = absurd alike
  slot_initial (Some r) None alike = absurd alike

  slot_width : (a b : Option WireRecord) → AreSetAlike end a b → width_of b ≡ width_of a
  slot_width None None alike = refl
  slot_width (Some r) (Some s) alike = alike.width
  slot_width None (Some s) alike = absurd alike
  slot_width (Some r) None alike = absurd alike

  slot_level : (t : ℕ) → t ≤ end → (a b : Option WireRecord) → AreSetAlike end a b → stimulus_level (stimulus_in b) (initial_of b) t ≡ stimulus_level (stimulus_in a) (initial_of a) t
  slot_level t le None None alike = refl
  slot_level t le (Some r) (Some s) alike = alike.levels t le
  slot_level t le None (Some s) alike = absurd alike
  slot_level t le (Some r) None alike = absurd alike

module _ (n later : Circuit) (ok : IsCircuit n) (later_ok : IsCircuit later) (end : ℕ) (goes : AreAlikeUpto end n later) where
  pub same_driver : (w : ℕ) → driver later w ≡ driver n w
  unfolding driver
  same_driver w =
      ap (λ slots. driver_from 0 slots w (stimulus_driver (stimulus_at later w))) goes.modules
      ∙ ap (driver_from 0 n.modules w) (slot_driver end (wire_at n w) (wire_at later w) (goes.wires w))

  pub same_module : (m : ℕ) → module_at later m ≡ module_at n m
  same_module m = ap (λ slots. slot_at slots m) goes.modules

  pub same_initial : (w : ℕ) → initial_of (wire_at later w) ≡ initial_of (wire_at n w)
  same_initial w = slot_initial end (wire_at n w) (wire_at later w) (goes.wires w)

  pub same_built : (r : ModuleRecord) → built later r ≡ built n r
  same_built r =
      ap (λ v. any_part_of r.kind r.params (width_from r.kind v)) (slot_width end (wire_at n (input_at r 0).wire.0) (wire_at later (input_at r 0).wire.0) (goes.wires (input_at r 0).wire.0))

  -- levels by the states before
  port_same : (m p w t : ℕ) (slot : Option ModuleRecord) → ((r : ModuleRecord) → slot ≡ Some r → delay_of r p ≤ t → state later m (t - delay_of r p) ≡ state n m (t - delay_of r p))
      → port_level (state later) slot m p (initial_of (wire_at later w)) t ≡ port_level (state n) slot m p (initial_of (wire_at n w)) t
  port_same m p w t None before = same_initial w
  port_same m p w t (Some r) before = elim (cases_lt t (delay_of r p)) as (λ _. port_level (state later) (Some r) m p (initial_of (wire_at later w)) t ≡ port_level (state n) (Some r) m p (initial_of (wire_at n w)) t) [
    | inl early ↦
        let is = lt-ltb t (delay_of r p) early in
        ap (λ b. cond b (initial_of (wire_at later w)) (output_of (state later m (t - delay_of r p)) p)) is ∙ same_initial w
        ∙ sym (ap (λ b. cond b (initial_of (wire_at n w)) (output_of (state n m (t - delay_of r p)) p)) is)
    | inr past ↦
        ap (λ i. cond (nat_lt t (delay_of r p)) i (output_of (state later m (t - delay_of r p)) p)) (same_initial w)
        ∙ ap (λ (s : Memory). cond (nat_lt t (delay_of r p)) (initial_of (wire_at n w)) (output_of s p)) (before r refl past)
  ]

  abbrev pub StatesBefore : ℕ → Type 0
  StatesBefore t = (m u : ℕ) (r : ModuleRecord) → u < t → module_at n m ≡ Some r → state later m u ≡ state n m u

  abbrev pub LevelsUpto : ℕ → Type 0
  LevelsUpto t = (w u : ℕ) → u ≤ t → level later w u ≡ level n w u

  level_step : (w t : ℕ) → t ≤ end → StatesBefore t → level later w t ≡ level n w t
  level_step w t le before =
      (satisfies later later_ok).levels w t ∙ ap (λ d. driven_level d later (state later) w t) (same_driver w) ∙ by (driver n w) ∙ sym ((satisfies n ok).levels w t)
    where
      by : (d : Driver) → driven_level d later (state later) w t ≡ driven_level d n (state n) w t
      by Nothing = same_initial w
      by Stimulus = slot_level end t le (wire_at n w) (wire_at later w) (goes.wires w)
      by (Port m p) =
          ap (λ slot. port_level (state later) slot m.0 p (initial_of (wire_at later w)) t) (same_module m.0)
          ∙ port_same m.0 p w t (module_at n m.0) (λ r at past. let positive = late n r p (ok.modules_ok m.0 r at) in before m.0 (t - delay_of r p) r (omega (arith, positive, past)) at)

  pub inputs_same : (r : ModuleRecord) (t : ℕ) → LevelsUpto t → inputs_by later (level later) r t ≡ inputs_by n (level n) r t
  inputs_same r t levels = λ i. map (λ (j : Input). one j i) r.inputs
    where
      one : (j : Input) → input_by later (level later) j t ≡ input_by n (level n) j t
      one j =
          ap (λ v. cond (nat_lt t j.delay) v (level later j.wire.0 (t - j.delay))) (same_initial j.wire.0)
          ∙ ap (cond (nat_lt t j.delay) (initial_of (wire_at n j.wire.0))) (levels j.wire.0 (t - j.delay) (omega arith))

  state_step : (m t : ℕ) (r : ModuleRecord) → module_at n m ≡ Some r → LevelsUpto t → StatesBefore t → state later m t ≡ state n m t
  state_step m zero r at levels before =
      (satisfies later later_ok).settled m r (same_module m ∙ at) ∙ ap (λ part. settle part (inputs_by later (level later) r 0)) (same_built r)
      ∙ ap (settle (built n r)) (inputs_same r 0 levels) ∙ sym ((satisfies n ok).settled m r at)
  state_step m (suc t) r at levels before =
      let e : t + 1 ≡ suc t = omega arith in
      let levels_next : LevelsUpto (t + 1) = subst LevelsUpto (sym e) levels in
      let whole : state later m (t + 1) ≡ state n m (t + 1) =
      (satisfies later later_ok).stepped m t r (same_module m ∙ at) ∙ ap (λ part. step part (state later m t) (inputs_by later (level later) r (t + 1))) (same_built r)
      ∙ ap (λ (s : Memory). step (built n r) s (inputs_by later (level later) r (t + 1))) (before m t r (omega arith) at)
      ∙ ap (step (built n r) (state n m t)) (inputs_same r (t + 1) levels_next) ∙ sym ((satisfies n ok).stepped m t r at) in
      subst (λ k. state later m k ≡ state n m k) e whole

  -- both, up to a time
  pub record AreSame (t : ℕ) : Type 0 where
    pub levels : LevelsUpto t
    pub states : StatesBefore (t + 1)

  pub same_upto : (t : ℕ) → t ≤ end → AreSame t
  same_upto zero le =
      let none : StatesBefore 0 = λ m u r less at. absurd (omega (arith, less)) in
      let levels : LevelsUpto 0 = λ w u low. let is : 0 ≡ u = omega (arith, low) in subst (λ k. level later w k ≡ level n w k) is (level_step w 0 le none) in
      record {
        levels = levels;
        states = λ m u r less at. let is : 0 ≡ u = omega (arith, less) in subst (λ k. state later m k ≡ state n m k) is (state_step m 0 r at levels none);
      }
  same_upto (suc t) le =
      let before = same_upto t (omega (arith, le)) in
      let states : StatesBefore (suc t) = λ m u r less at. before.states m u r (omega (arith, less)) at in
      let levels : LevelsUpto (suc t) = λ w u low. elim (cases_lt u (suc t)) as (λ _. level later w u ≡ level n w u) [
        | inl less ↦ before.levels w u (omega (arith, less))
        | inr over ↦ let is : suc t ≡ u = omega (arith, low, over) in subst (λ k. level later w k ≡ level n w k) is (level_step w (suc t) le states)
      ] in
      record {
        levels = levels;
        states = λ m u r less at. elim (cases_lt u (suc t)) as (λ _. state later m u ≡ state n m u) [
          | inl sooner ↦ states m u r sooner at
          | inr over ↦ let is : suc t ≡ u = omega (arith, less, over) in subst (λ k. state later m k ≡ state n m k) is (state_step m (suc t) r at levels states)
        ];
      }

pub later_changes_nothing_before : LaterChangesNothingBefore
later_changes_nothing_before n other ok other_ok end alike w t le = (same_upto n other ok other_ok end alike t le).levels w t (omega arith)
