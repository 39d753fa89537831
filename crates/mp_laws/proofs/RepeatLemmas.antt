-- Wires that repeat in a run repeat for ever.
use Rattle.std.proofs.Common.{◌≡◌, ℕ, ◌+◌, ◌-◌, ◌<◌, ◌≤◌, ◌⊎◌, inl, inr, Bool, true, false, cond, List, drop, take, Option, Some, None, zero, suc, refl, ap, sym, subst, ◌∙◌, arith}
use Rattle.std.specs.Prelude.{◌&&◌, ◌||◌, IfSome, IsTrue, nat_le}
use Rattle.std.specs.List.{list_all}
use Rattle.std.proofs.lemmas.Bool.{cases_Bool, cases_lt, leb-true, lt-ltb, and_parts}
use Rattle.mp_modules.specs.declared.memory.Memory.{Memory}
use Rattle.mp_modules.specs.Memories.{output_of}
use Rattle.mp_modules.specs.storage.AnyModules.{any_part_of, settle, step}
use Rattle.mp_records.specs.declared.wire_record.WireRecord.{WireRecord}
use Rattle.mp_records.specs.declared.module_record.ModuleRecord.{ModuleRecord}
use Rattle.mp_records.specs.declared.ports.Input.{Input}
use Rattle.mp_records.specs.Outputs.{delay_of}
use Rattle.mp_records.specs.Stimuli.{is_stimulus}
use Rattle.mp_netlist.specs.declared.driver.Driver.{Driver}
use Rattle.mp_netlist.specs.declared.driver.Driver.TheVariants.{Nothing, Stimulus, Port}
use Rattle.mp_netlist.specs.Circuit.{Circuit, IsCircuit, wire_at, module_at, module_width, stimulus_at, stimulus_in}
use Rattle.mp_netlist.specs.Drivers.{driver}
use Rattle.mp_netlist.proofs.DriverLemmas.{finds_only_ports}
use Rattle.mp_model.specs.Levels.{built, driven_level, initial_of, input_by, inputs_by, port_level, stimulus_level}
use Rattle.mp_model.specs.Waves.{level, state}
use Rattle.mp_model.proofs.BehaviourLemmas.{satisfies}
use Rattle.mp_model.proofs.EvaluationLemmas.{port_level_is}
use Rattle.mp_model.proofs.HistoryLemmas.{late}
use Rattle.mp_model.proofs.InputLemmas.{input_is}
use Rattle.mp_questions.specs.timing.Events.{since}
use Rattle.mp_check.proofs.QuietLemmas.{from_on}
use Rattle.mp_check.proofs.StateLemmas.{after_step}
use Rattle.mp_check.proofs.StillLemmas.{since_still}
use Rattle.mp_steady.specs.WireSets.{has_wire, inputs_by as depended, inputs_in, is_whole, passes_on, port_inputs, wire_inputs}
use Rattle.mp_steady.specs.Periods.{delay_by, delay_in, heard_from, is_again_by, is_again_in, is_state_again, last_set, last_unit, longest_delay, longest_input, longest_input_delay, longest_period, repeats, repeats_from, set_by, start, told_until}
use Rattle.mp_laws.specs.Repeating.{GoesOnAt, RepeatsForEver}
use Rattle.mp_laws.proofs.AlikeLemmas.{same_driver, same_module, same_built, same_initial}
use Rattle.mp_steady.proofs.SetLemmas.{of_wire, greatest_bounds, all_same, one_same, passes_reg, reg_passes, both_all, short_all, same_state, repeats_level, stimulus_over}

-- ---- two netlists with the same modules, or one of them at two times: a wire has the same level if the inputs on which it depends had

module _ (n later : Circuit) (ok : IsCircuit n) (later_ok : IsCircuit later) (m : ℕ) (r : ModuleRecord) (at : module_at n m ≡ Some r) (at_later : module_at later m ≡ Some r)
    (one_built : built later r ≡ built n r) (p : ℕ) (q : Input → Bool) (holds : list_all q (port_inputs r p) ≡ true) where
  -- the inputs on which the output depends have the same levels, the one u of the units later and the other v
  abbrev Hear : ℕ → ℕ → Type 0
  Hear u v = (i : Input) → q i ≡ true → input_by later (level later) i u ≡ input_by n (level n) i v

  -- where it passes an input on, the output is the same then
  pub passed_same : passes_on r.kind p ≡ true → (u v : ℕ) → Hear u v → output_of (state later m u) p ≡ output_of (state n m v) p
  passed_same passes u v hear =
      let reg = passes_reg r.kind p passes in
      let inputs : list_all q (take 1 (drop p r.inputs)) ≡ true = sym (ap (λ b. list_all q (cond b (take 1 (drop p r.inputs)) r.inputs)) passes) ∙ holds in
      let same = one_same (λ i. input_by later (level later) i u) (λ i. input_by n (level n) i v) q r.inputs p inputs hear in
      let one = after_step later later_ok m r at_later u in
      let other = after_step n ok m r at v in
      ap (λ (s : Memory). output_of s p) one.1 ∙ ap (λ part. output_of (step part one.0 (inputs_by later (level later) r u)) p) one_built
      ∙ subst
      (λ kind. output_of (step (any_part_of kind r.params (module_width n r)) one.0 (inputs_by later (level later) r u)) p ≡ output_of (step (any_part_of kind r.params (module_width n r)) other.0 (inputs_by n (level n) r v)) p)
      (sym reg.0) (reg_passes r.params (module_width n r) one.0 other.0 (inputs_by later (level later) r u) (inputs_by n (level n) r v) p reg.1 same)
      ∙ sym (ap (λ (s : Memory). output_of s p) other.1)

  -- else its module has the same inputs
  pub inputs_same : passes_on r.kind p ≡ false → (u v : ℕ) → Hear u v → inputs_by later (level later) r u ≡ inputs_by n (level n) r v
  inputs_same passes u v hear =
      let inputs : list_all q r.inputs ≡ true = sym (ap (λ b. list_all q (cond b (take 1 (drop p r.inputs)) r.inputs)) passes) ∙ holds in
      all_same (λ i. input_by later (level later) i u) (λ i. input_by n (level n) i v) q r.inputs inputs hear

  -- and the next state after the same one
  pub states_same : passes_on r.kind p ≡ false → (u v : ℕ) → state later m u ≡ state n m v → Hear (u + 1) (v + 1) → state later m (u + 1) ≡ state n m (v + 1)
  states_same passes u v before hear =
      (satisfies later later_ok).stepped m u r at_later ∙ ap (λ part. step part (state later m u) (inputs_by later (level later) r (u + 1))) one_built
      ∙ ap (λ (s : Memory). step (built n r) s (inputs_by later (level later) r (u + 1))) before
      ∙ ap (step (built n r) (state n m v)) (inputs_same passes (u + 1) (v + 1) hear) ∙ sym ((satisfies n ok).stepped m v r at)

-- ---- levels of wires that no port drives

level_set : (n : Circuit) → IsCircuit n → (w t : ℕ) → driver n w ≡ Stimulus → level n w t ≡ stimulus_level (stimulus_at n w) (initial_of (wire_at n w)) t
level_set n ok w t is = (satisfies n ok).levels w t ∙ ap (λ d. driven_level d n (state n) w t) is

level_free : (n : Circuit) → IsCircuit n → (w t : ℕ) → driver n w ≡ Nothing → level n w t ≡ initial_of (wire_at n w)
level_free n ok w t is = (satisfies n ok).levels w t ∙ ap (λ d. driven_level d n (state n) w t) is

-- a level at a port before its delay is over
level_early : (n : Circuit) → IsCircuit n → (m p w t : ℕ) (r : ModuleRecord) → module_at n m ≡ Some r → driver n w ≡ Port (record { 0 = m }) p → t < delay_of r p → level n w t ≡ initial_of (wire_at n w)
level_early n ok m p w t r at is early =
    (satisfies n ok).levels w t ∙ ap (λ d. driven_level d n (state n) w t) is ∙ ap (λ slot. port_level (state n) slot m p (initial_of (wire_at n w)) t) at
    ∙ ap (λ b. cond b (initial_of (wire_at n w)) (output_of (state n m (t - delay_of r p)) p)) (lt-ltb t (delay_of r p) early)

-- what a stimulus sets stays after the last unit
set_stays : (n : Circuit) → IsCircuit n → (w t : ℕ) → driver n w ≡ Stimulus → last_unit n ≤ t → level n w t ≡ level n w (last_unit n)
set_stays n ok w t is past = level_set n ok w t is ∙ by (wire_at n w) refl ∙ sym (level_set n ok w (last_unit n) is)
  where
    set : (r : WireRecord) (stimulus : Option (List (ℕ × ℕ))) → IfSome stimulus (λ changes. IsTrue (is_stimulus n.horizon r.width 0 changes))
        → stimulus_level stimulus r.initial t ≡ stimulus_level stimulus r.initial (last_unit n)
    set r None valid = refl
    set r (Some changes) valid = stimulus_over n.horizon r.width 0 r.initial changes t valid past

    by : (slot : Option WireRecord) → wire_at n w ≡ slot → stimulus_level (stimulus_in slot) (initial_of slot) t ≡ stimulus_level (stimulus_in slot) (initial_of slot) (last_unit n)
    by None stands = refl
    by (Some r) stands = set r r.stimulus (ok.wires_ok w r stands).stimulus

-- ---- the set

module _ (n : Circuit) (ok : IsCircuit n) (wires : List ℕ) (whole : is_whole n wires ≡ true) where
  abbrev In : ℕ → Type 0
  In w = has_wire wires w ≡ true

  -- the inputs on which a wire of the set depends read wires of the set
  reads_in : (w m p : ℕ) (r : ModuleRecord) → In w → module_at n m ≡ Some r → driver n w ≡ Port (record { 0 = m }) p → list_all (λ (i : Input). has_wire wires i.wire.0) (port_inputs r p) ≡ true
  reads_in w m p r has at is =
      sym (ap (λ slot. list_all (λ (i : Input). has_wire wires i.wire.0) (inputs_in p slot)) at) ∙ sym (ap (λ d. list_all (λ (i : Input). has_wire wires i.wire.0) (depended n d)) is)
      ∙ of_wire (λ v. list_all (λ (i : Input). has_wire wires i.wire.0) (wire_inputs n v)) wires w whole has

  -- ---- another netlist in which these wires are set alike has the same levels on them

  module _ (later : Circuit) (later_ok : IsCircuit later) (goes : GoesOnAt wires n later) where
    abbrev Same : ℕ → Type 0
    Same t = (w : ℕ) → In w → level later w t ≡ level n w t

    module _ (t : ℕ) (before : (s : ℕ) → s < t → Same s) where
      hear : (u : ℕ) → u < t → (i : Input) → has_wire wires i.wire.0 ≡ true → input_by later (level later) i u ≡ input_by n (level n) i u
      hear u less i has = input_is later later_ok i u ∙ before (u - i.delay) (omega (arith, less)) i.wire.0 has ∙ sym (input_is n ok i u)

      module _ (w m p : ℕ) (r : ModuleRecord) (has : In w) (at : module_at n m ≡ Some r) (is : driver n w ≡ Port (record { 0 = m }) p) where
        at_later : module_at later m ≡ Some r
        at_later = same_module n later ok later_ok 0 goes.alike m ∙ at

        one_built : built later r ≡ built n r
        one_built = same_built n later ok later_ok 0 goes.alike r

        inside : list_all (λ (i : Input). has_wire wires i.wire.0) (port_inputs r p) ≡ true
        inside = reads_in w m p r has at is

        state_same : passes_on r.kind p ≡ false → (v : ℕ) → v < t → state later m v ≡ state n m v
        state_same passes zero low =
            (satisfies later later_ok).settled m r at_later ∙ ap (λ part. settle part (inputs_by later (level later) r 0)) one_built
            ∙ ap (settle (built n r)) (inputs_same n later ok later_ok m r at at_later one_built p (λ (i : Input). has_wire wires i.wire.0) inside passes 0 0 (hear 0 low)) ∙ sym ((satisfies n ok).settled m r at)
        state_same passes (suc v) low =
            let e : v + 1 ≡ suc v = omega arith in
            subst (λ k. state later m k ≡ state n m k) e
            (states_same n later ok later_ok m r at at_later one_built p (λ (i : Input). has_wire wires i.wire.0) inside passes v v (state_same passes v (omega (arith, low))) (hear (v + 1) (omega (arith, low))))

        port_same : (u : ℕ) → u < t → output_of (state later m u) p ≡ output_of (state n m u) p
        port_same u less = by (cases_Bool (passes_on r.kind p))
          where
            by : (passes_on r.kind p ≡ true) ⊎ (passes_on r.kind p ≡ false) → output_of (state later m u) p ≡ output_of (state n m u) p
            by (inl passes) = passed_same n later ok later_ok m r at at_later one_built p (λ (i : Input). has_wire wires i.wire.0) inside passes u u (hear u less)
            by (inr holds) = ap (λ (s : Memory). output_of s p) (state_same holds u less)

      level_same : Same t
      level_same w has = by (driver n w) refl
        where
          is_later : driver later w ≡ driver n w
          is_later = same_driver n later ok later_ok 0 goes.alike w

          initial : initial_of (wire_at later w) ≡ initial_of (wire_at n w)
          initial = same_initial n later ok later_ok 0 goes.alike w

          by : (d : Driver) → driver n w ≡ d → level later w t ≡ level n w t
          by Nothing is = level_free later later_ok w t (is_later ∙ is) ∙ initial ∙ sym (level_free n ok w t is)
          by Stimulus is =
              level_set later later_ok w t (is_later ∙ is) ∙ ap (λ stimulus. stimulus_level stimulus (initial_of (wire_at later w)) t) (goes.stimuli w has)
              ∙ ap (λ level. stimulus_level (stimulus_at n w) level t) initial ∙ sym (level_set n ok w t is)
          by (Port m p) is =
              let drives = finds_only_ports n w p m is in
              let r = drives.part in
              let at = drives.stands in
              let at_there : module_at later m.0 ≡ Some r = same_module n later ok later_ok 0 goes.alike m.0 ∙ at in
              let some : 0 < delay_of r p = late n r p (ok.modules_ok m.0 r at) in
              elim (cases_lt t (delay_of r p)) as (λ _. level later w t ≡ level n w t) [
                | inl early ↦ level_early later later_ok m.0 p w t r at_there (is_later ∙ is) early ∙ initial ∙ sym (level_early n ok m.0 p w t r at is early)
                | inr past ↦
                    let back : t - delay_of r p + delay_of r p ≡ t = omega (arith, past) in
                    subst (λ k. level later w k ≡ level n w k) back
                    (port_level_is later later_ok m.0 p w (t - delay_of r p) r at_there (is_later ∙ is)
                    ∙ port_same w m.0 p r has at is (t - delay_of r p) (omega (arith, past, some)) ∙ sym (port_level_is n ok m.0 p w (t - delay_of r p) r at is))
              ]

    same_below : (t s : ℕ) → s < t → Same s
    same_below zero s less = absurd (omega (arith, less))
    same_below (suc t) s less = by (cases_lt s t) (same_below t)
      where
        by : (s < t) ⊎ (t ≤ s) → ((k : ℕ) → k < t → Same k) → Same s
        by (inl sooner) before = before s sooner
        by (inr here) before = let is : t ≡ s = omega (arith, here, less) in subst Same is (level_same t before)

    pub same_levels : (w t : ℕ) → In w → level later w t ≡ level n w t
    same_levels w t has = same_below (suc t) t (omega arith) w has

    -- and the same states of a module that drives one of these wires, and doesn't only pass an input on
    pub same_states : (w m p : ℕ) (r : ModuleRecord) → In w → module_at n m ≡ Some r → driver n w ≡ Port (record { 0 = m }) p → passes_on r.kind p ≡ false → (t : ℕ) → state later m t ≡ state n m t
    same_states w m p r has at is holds t = state_same (suc t) (same_below (suc t)) w m p r has at is holds t (omega arith)

    -- and what it hears
    pub same_heard : (w m p : ℕ) (r : ModuleRecord) → In w → module_at n m ≡ Some r → driver n w ≡ Port (record { 0 = m }) p → passes_on r.kind p ≡ false → (t : ℕ)
        → inputs_by later (level later) r t ≡ inputs_by n (level n) r t
    same_heard w m p r has at is holds t =
        let before = same_below (suc t) in
        inputs_same n later ok later_ok m r at (at_later (suc t) before w m p r has at is) (one_built (suc t) before w m p r has at is) p (λ (i : Input). has_wire wires i.wire.0)
        (inside (suc t) before w m p r has at is) holds t t (hear (suc t) before t (omega arith))

  -- ---- one netlist, so many units later

  module _ (units : ℕ) (some : 1 ≤ units) (few : units ≤ longest_period n wires) (again : repeats n wires units ≡ true) where
    abbrev from : ℕ
    from = heard_from n wires - units

    both : (nat_le (start n wires units) from ≡ true) × (list_all (λ w. is_again_by n wires units (driver n w)) wires ≡ true)
    unfolding repeats
    both = and_parts (nat_le (start n wires units) from) (list_all (λ w. is_again_by n wires units (driver n w)) wires) again

    pub begun_by : start n wires units ≤ from
    begun_by = leb-true (start n wires units) from both.0

    -- an input of the set with a delay that is short enough
    abbrev fits : Input → Bool
    fits i = has_wire wires i.wire.0 && nat_le i.delay (longest_input_delay n wires)

    abbrev Again : ℕ → Type 0
    Again t = (w : ℕ) → In w → level n w (t + units) ≡ level n w t

    -- in the run
    seen_again : (t : ℕ) → start n wires units ≤ t → t ≤ last_unit n - units → Again t
    seen_again t low high w has =
        let late : repeats_from (level n w) units (last_unit n - units) ≤ start n wires units = greatest_bounds (λ v. repeats_from (level n v) units (last_unit n - units)) wires w has in
        sym (repeats_level (level n w) units (last_unit n - units) t (omega (arith, late, low)) high)

    -- a stimulus sets nothing any more
    set_again : (t w : ℕ) → In w → driver n w ≡ Stimulus → from ≤ t → level n w (t + units) ≡ level n w t
    set_again t w has is low =
        still (t + units) (omega (arith, low)) ∙ sym (still t low)
      where
        late_set : since (level n w) (last_unit n) ≤ last_set n wires
        late_set = subst (λ k. k ≤ last_set n wires) (ap (set_by n w) is) (greatest_bounds (λ v. set_by n v (driver n v)) wires w has)

        still : (s : ℕ) → from ≤ s → level n w s ≡ level n w (last_unit n)
        still s past = elim (cases_lt s (last_unit n)) as (λ _. level n w s ≡ level n w (last_unit n)) [
          | inl sooner ↦ since_still (level n w) (last_unit n) (last_set n wires) s late_set (omega (arith, past, few, some)) (omega (arith, sooner))
          | inr over ↦ set_stays n ok w s is over
        ]

    module _ (t : ℕ) (before : (s : ℕ) → from ≤ s → s < t → Again s) where
      -- inputs with delays that are short enough hear again what they heard
      hear_again : (u : ℕ) → told_until n wires - units ≤ u → u < t → (i : Input) → (has_wire wires i.wire.0 && nat_le i.delay (longest_input_delay n wires)) ≡ true
          → input_by n (level n) i (u + units) ≡ input_by n (level n) i u
      hear_again u low less i fits =
          let parts = and_parts (has_wire wires i.wire.0) (nat_le i.delay (longest_input_delay n wires)) fits in
          let short : i.delay ≤ longest_input_delay n wires = leb-true i.delay (longest_input_delay n wires) parts.1 in
          let back : u + units - i.delay ≡ u - i.delay + units = omega (arith, low, short, few, some) in
          input_is n ok i (u + units) ∙ ap (level n i.wire.0) back
          ∙ before (u - i.delay) (omega (arith, low, short, few, some)) (omega (arith, less)) i.wire.0 parts.0 ∙ sym (input_is n ok i u)

      module _ (w m p : ℕ) (r : ModuleRecord) (has : In w) (at : module_at n m ≡ Some r) (is : driver n w ≡ Port (record { 0 = m }) p) where
        fit_in : list_all fits (port_inputs r p) ≡ true
        fit_in =
            both_all (λ (i : Input). has_wire wires i.wire.0) (λ (i : Input). nat_le i.delay (longest_input_delay n wires)) (port_inputs r p) (reads_in w m p r has at is)
            (short_all (port_inputs r p) (longest_input_delay n wires)
            (subst (λ k. k ≤ longest_input_delay n wires) (ap (λ d. longest_input (depended n d)) is ∙ ap (λ slot. longest_input (inputs_in p slot)) at)
            (greatest_bounds (λ v. longest_input (wire_inputs n v)) wires w has)))

        state_at : passes_on r.kind p ≡ false → state n m (told_until n wires - units) ≡ state n m (told_until n wires)
        state_at holds =
            let one = of_wire (λ v. is_again_by n wires units (driver n v)) wires w both.1 has in
            let here : (passes_on r.kind p || is_state_again n wires units m) ≡ true = sym (ap (λ slot. is_again_in n wires units m p slot) at) ∙ sym (ap (is_again_by n wires units) is) ∙ one in
            same_state (state n m (told_until n wires - units)) (state n m (told_until n wires)) (sym (ap (λ b. b || is_state_again n wires units m) holds) ∙ here)

        -- the states of its module, if it doesn't only pass an input on, are again what they were
        state_again : passes_on r.kind p ≡ false → (u : ℕ) → u < t → (v : ℕ) → told_until n wires - units ≤ v → v ≤ u → state n m (v + units) ≡ state n m v
        state_again holds u less =
            let whole_time : told_until n wires - units + units ≡ told_until n wires = omega (arith, few) in
            from_on (λ v. state n m (v + units) ≡ state n m v) (told_until n wires - units) u (ap (state n m) whole_time ∙ sym (state_at holds))
            (λ v first below known.
            let e : v + units + 1 ≡ suc v + units = omega arith in
            let e' : v + 1 ≡ suc v = omega arith in
            let e'' : v + 1 + units ≡ v + units + 1 = omega arith in
            sym (ap (state n m) e)
            ∙ states_same n n ok ok m r at at refl p fits fit_in holds (v + units) v known
            (λ i fit. subst (λ k. input_by n (level n) i k ≡ input_by n (level n) i (v + 1)) e'' (hear_again (v + 1) (omega (arith, first)) (omega (arith, below, less)) i fit))
            ∙ ap (state n m) e')

        -- and so is the output
        out_again : (u : ℕ) → told_until n wires - units ≤ u → u < t → output_of (state n m (u + units)) p ≡ output_of (state n m u) p
        out_again u low less = by (cases_Bool (passes_on r.kind p))
          where
            by : (passes_on r.kind p ≡ true) ⊎ (passes_on r.kind p ≡ false) → output_of (state n m (u + units)) p ≡ output_of (state n m u) p
            by (inl passes) = passed_same n n ok ok m r at at refl p fits fit_in passes (u + units) u (hear_again u low less)
            by (inr holds) = ap (λ (s : Memory). output_of s p) (state_again holds u less u low (omega arith))

      level_again : last_unit n - units < t → Again t
      level_again past w has = by (driver n w) refl
        where
          by : (d : Driver) → driver n w ≡ d → level n w (t + units) ≡ level n w t
          by Nothing is = level_free n ok w (t + units) is ∙ sym (level_free n ok w t is)
          by Stimulus is = set_again t w has is (omega (arith, past, few))
          by (Port m p) is =
              let drives = finds_only_ports n w p m is in
              let r = drives.part in
              let at = drives.stands in
              let short : delay_of r p ≤ longest_delay n wires = subst (λ k. k ≤ longest_delay n wires) (ap (delay_by n) is ∙ ap (delay_in p) at) (greatest_bounds (λ v. delay_by n (driver n v)) wires w has) in
              let positive : 0 < delay_of r p = late n r p (ok.modules_ok m.0 r at) in
              let u : ℕ = t - delay_of r p in
              let back : u + delay_of r p ≡ t = omega (arith, past, short, few, some) in
              let back_later : u + units + delay_of r p ≡ t + units = omega (arith, back) in
              sym (ap (level n w) back_later) ∙ port_level_is n ok m.0 p w (u + units) r at is
              ∙ out_again w m.0 p r has at is u (omega (arith, past, short, few, some)) (omega (arith, back, positive)) ∙ sym (port_level_is n ok m.0 p w u r at is) ∙ ap (level n w) back

    again_below : (t s : ℕ) → from ≤ s → s < t → Again s
    again_below zero s low less = absurd (omega (arith, less))
    again_below (suc t) s low less = by (cases_lt s t) (cases_lt (last_unit n - units) s) (again_below t)
      where
        by : (s < t) ⊎ (t ≤ s) → (last_unit n - units < s) ⊎ (s ≤ last_unit n - units) → ((k : ℕ) → from ≤ k → k < t → Again k) → Again s
        by (inl sooner) past before = before s low sooner
        by (inr here) (inr inside) before = seen_again s (omega (arith, begun_by, low)) inside
        by (inr here) (inl past) before = let is : t ≡ s = omega (arith, here, less) in level_again s (λ k first below. before k first (omega (arith, below, is))) past

    pub again_for_ever : (w t : ℕ) → In w → start n wires units ≤ t → level n w (t + units) ≡ level n w t
    again_for_ever w t has low = elim (cases_lt t from) as (λ _. level n w (t + units) ≡ level n w t) [
      | inl sooner ↦ seen_again t low (omega (arith, sooner)) w has
      | inr past ↦ again_below (suc t) t past (omega arith) w has
    ]

    -- the states of a module that drives one of the wires, and doesn't only pass an input on
    pub state_for_ever : (w m p : ℕ) (r : ModuleRecord) → In w → module_at n m ≡ Some r → driver n w ≡ Port (record { 0 = m }) p → passes_on r.kind p ≡ false → (v : ℕ) → told_until n wires - units ≤ v
        → state n m (v + units) ≡ state n m v
    state_for_ever w m p r has at is holds v low =
        state_again (suc v) (λ s first below u here. again_for_ever u s here (omega (arith, begun_by, first))) w m p r has at is holds v (omega arith) v low (omega arith)

    -- what it hears
    pub heard_for_ever : (w m p : ℕ) (r : ModuleRecord) → In w → module_at n m ≡ Some r → driver n w ≡ Port (record { 0 = m }) p → passes_on r.kind p ≡ false → (v : ℕ) → told_until n wires - units ≤ v
        → inputs_by n (level n) r (v + units) ≡ inputs_by n (level n) r v
    heard_for_ever w m p r has at is holds v low =
        let before : (s : ℕ) → from ≤ s → s < suc v → Again s = λ s first below u here. again_for_ever u s here (omega (arith, begun_by, first)) in
        inputs_same n n ok ok m r at at refl p fits (fit_in (suc v) before w m p r has at is) holds (v + units) v (hear_again (suc v) before v low (omega arith))

pub repeats_for_ever : RepeatsForEver
repeats_for_ever n later ok later_ok wires whole goes units some few again w t has low =
    same_levels n ok wires whole later later_ok goes w (t + units) has ∙ again_for_ever n ok wires whole units some few again w t has low
    ∙ sym (same_levels n ok wires whole later later_ok goes w t has)
