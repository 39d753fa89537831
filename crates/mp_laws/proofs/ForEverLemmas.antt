-- Dead ports keep their wires for ever.
use Rattle.std.proofs.Common.{◌≡◌, ℕ, ◌+◌, ◌-◌, ◌/◌, ◌%◌, ◌<◌, ◌≤◌, ◌⊎◌, inl, inr, Bool, true, false, List, [], ◌∷◌, length, slice_index, Option, Some, None, zero, suc, refl, ap, sym, subst, ◌∙◌, arith}
use Rattle.std.specs.Prelude.{slice_get, nat_le}
use Rattle.std.specs.List.{list_any}
use Rattle.std.proofs.lemmas.Bool.{cases_lt, leb-true, and_parts}
use Rattle.std.proofs.lemmas.Option.{same_Some}
use Rattle.mp_modules.specs.declared.memory.Memory.{Memory}
use Rattle.mp_modules.specs.Kinds.{output_count}
use Rattle.mp_modules.specs.Memories.{output_of}
use Rattle.mp_modules.specs.storage.AnyModules.{step}
use Rattle.mp_records.specs.declared.module_record.ModuleRecord.{ModuleRecord}
use Rattle.mp_records.specs.declared.ports.Input.{Input}
use Rattle.mp_records.specs.Outputs.{delay_of}
use Rattle.mp_netlist.specs.declared.driver.Driver.{Driver}
use Rattle.mp_netlist.specs.declared.driver.Driver.TheVariants.{Nothing, Stimulus, Port}
use Rattle.mp_netlist.specs.Circuit.{Circuit, IsCircuit, module_at, module_width}
use Rattle.mp_netlist.specs.Drivers.{driver}
use Rattle.mp_netlist.proofs.DriverLemmas.{finds_ports, finds_only_ports}
use Rattle.mp_netlist.proofs.UseLemmas.{output_within}
use Rattle.mp_model.specs.Levels.{built, driven_level, inputs_by}
use Rattle.mp_model.specs.Waves.{level, state}
use Rattle.mp_model.proofs.BehaviourLemmas.{satisfies}
use Rattle.mp_model.proofs.EvaluationLemmas.{port_level_is}
use Rattle.mp_model.proofs.HistoryLemmas.{late}
use Rattle.mp_holding.specs.Holding.{holding_sets}
use Rattle.mp_holding.specs.Laws.{HasSet, AreSame}
use Rattle.mp_holding.proofs.HoldingLemmas.{keeps_held_outputs}
use Rattle.mp_holding.proofs.lemmas.sets.ClosedLemmas.{true_false, or_cases}
use Rattle.mp_questions.specs.timing.Events.{since}
use Rattle.mp_questions.specs.timing.Waits.{given}
use Rattle.mp_check.specs.Dead.{dead, port_numbers, port_number, is_still, is_still_in, is_driven_within, are_still, last_unit}
use Rattle.mp_check.proofs.DeadLemmas.{IsKept, kept_of, dead_is_kept, kept_are_dead}
use Rattle.mp_modules.proofs.KindLemmas.{few_outputs}
use Rattle.mp_check.proofs.QuietLemmas.{from_on}
use Rattle.mp_check.proofs.StateLemmas.{next_state, after_step}
use Rattle.mp_check.proofs.StillLemmas.{since_still}
use Rattle.mp_laws.proofs.AlikeLemmas.{same_driver, same_module, same_initial, AreSame as AreAlike, same_upto}
use Rattle.mp_laws.proofs.CycleLemmas.{waits_of_deadlock, wire_of_wait}
use Rattle.mp_laws.proofs.ReadLemmas.{reads_wire}
use Rattle.mp_laws.specs.ForEver.{GoesOn, DeadAreGreatest, DeadStandForEver, StandsForEver}

pub dead_are_greatest : DeadAreGreatest
dead_are_greatest n = record { closed = dead_is_kept n; greatest = kept_are_dead n }

-- a set of a list that passes a test
found_set : (test : List ℕ → Bool) (sets : List (List ℕ)) → list_any test sets ≡ true → (set : List ℕ) × HasSet sets set × (test set ≡ true)
found_set test [] is = absurd (true_false false is refl)
found_set test (s ∷ sets) is = by (or_cases (test s) (list_any test sets) is) (found_set test sets)
  where
    by : (test s ≡ true) ⊎ (list_any test sets ≡ true) → (list_any test sets ≡ true → (set : List ℕ) × HasSet sets set × (test set ≡ true)) → (set : List ℕ) × HasSet (s ∷ sets) set × (test set ≡ true)
    by (inl here) later = (s, inl refl, here)
    by (inr rest) later = let one = later rest in (one.0, inr one.1, one.2)

-- the state that an output of a module is in is kept while the inputs of a set that holds it keep their levels
module _ (n : Circuit) (ok : IsCircuit n) (m : ℕ) (r : ModuleRecord) (at : module_at n m ≡ Some r) (p : ℕ) (low : p < output_count r.kind) (set : List ℕ) where
  abbrev heard_at : ℕ → List ℕ
  heard_at t = inputs_by n (level n) r t

  abbrev Held : ℕ → Type 0
  Held t = HasSet (holding_sets r.kind r.params (state n m t) p) set

  held_step : (t : ℕ) → Held t → AreSame set (heard_at t) (heard_at (suc t)) → (output_of (state n m (suc t)) p ≡ output_of (state n m t) p) × Held (suc t)
  held_step t held same =
      let one = after_step n ok m r at t in
      let s = one.0 in
      let x = heard_at t in
      let y = heard_at (suc t) in
      let next : state n m (suc t) ≡ step (built n r) (step (built n r) s x) y = next_state n ok m r at t ∙ ap (λ (k : Memory). step (built n r) k y) one.1 in
      let stays = keeps_held_outputs r.kind r.params (module_width n r) s x y p set low (subst (λ (k : Memory). HasSet (holding_sets r.kind r.params k p) set) one.1 held) same in (
        ap (λ (k : Memory). output_of k p) next ∙ stays.output ∙ sym (ap (λ (k : Memory). output_of k p) one.1),
        subst (λ (k : Memory). HasSet (holding_sets r.kind r.params k p) set) (sym next) stays.holds,
      )

  pub held_on : (first last : ℕ) → Held first → ((u : ℕ) → first ≤ u → u < last → AreSame set (heard_at u) (heard_at (suc u))) → (u : ℕ) → first ≤ u → u ≤ last
      → output_of (state n m u) p ≡ output_of (state n m first) p
  held_on first last held calm u from upto =
      (from_on (λ u. (output_of (state n m u) p ≡ output_of (state n m first) p) × Held u) first last (refl, held)
      (λ u from below known. let next = held_step u known.1 (calm u from below) in (next.0 ∙ known.0, next.1))
      u from upto).0

-- ---- two netlists on which the same is set up to the last unit of the first

module _ (n later : Circuit) (ok : IsCircuit n) (later_ok : IsCircuit later) (goes : GoesOn n later) where
  abbrev end : ℕ
  end = last_unit n

  upto_end : AreAlike n later ok later_ok end goes.alike end
  upto_end = same_upto n later ok later_ok end goes.alike end (omega arith)

  state_same : (m t : ℕ) (r : ModuleRecord) → module_at n m ≡ Some r → t ≤ end → state later m t ≡ state n m t
  state_same m t r at low = upto_end.states m t r (omega (arith, low)) at

  -- the wires of all dead ports at a time
  abbrev Stand : ℕ → Type 0
  Stand t = (m p w : ℕ) → driver n w ≡ Port (record { 0 = m }) p → dead n (port_number m p) ≡ true → level later w t ≡ level n w end

  -- nothing drives a wire: it keeps its level
  undriven : (w t : ℕ) → driver n w ≡ Nothing → level later w t ≡ level n w end
  undriven w t nothing =
      (satisfies later later_ok).levels w t ∙ ap (λ (d : Driver). driven_level d later (state later) w t) (same_driver n later ok later_ok end goes.alike w ∙ nothing)
      ∙ same_initial n later ok later_ok end goes.alike w
      ∙ sym (ap (λ (d : Driver). driven_level d n (state n) w end) nothing) ∙ sym ((satisfies n ok).levels w end)

  module _ (t : ℕ) (before : (s : ℕ) → end ≤ s → s < t → Stand s) where
    -- the wire of an input that is still
    calm : (i : Input) → is_still_in n (dead n) (Some i) ≡ true → (s : ℕ) → end - i.delay ≤ s → s < t → level later i.wire.0 s ≡ level n i.wire.0 end
    calm i is s from below = by (cases_lt s end)
      where
        w : ℕ
        w = i.wire.0

        parts : (is_still n (level n w) (end - i.delay) ≡ true) × (is_driven_within (dead n) (driver n w) ≡ true)
        parts = and_parts (is_still n (level n w) (end - i.delay)) (is_driven_within (dead n) (driver n w)) is

        later_on : end ≤ s → (d : Driver) → driver n w ≡ d → is_driven_within (dead n) d ≡ true → level later w s ≡ level n w end
        later_on past Nothing driven within = undriven w s driven
        later_on past Stimulus driven within = absurd (true_false false within refl)
        later_on past (Port m p) driven within = before s past below m.0 p w driven within

        by : (s < end) ⊎ (end ≤ s) → level later w s ≡ level n w end
        by (inl sooner) =
            upto_end.levels w s (omega (arith, sooner))
            ∙ since_still (level n w) end (end - i.delay) s (leb-true (since (level n w) end) (end - i.delay) parts.0) from (omega (arith, sooner))
        by (inr past) = later_on past (driver n w) refl parts.1

    module _ (m p : ℕ) (kept : IsKept n (dead n) m p) (within : p < length kept.part.outputs) (last : ℕ) (soon : last < t) where
      abbrev r : ModuleRecord
      r = kept.part

      at_later : module_at later m ≡ Some r
      at_later = same_module n later ok later_ok end goes.alike m ∙ kept.stands

      one : (q : ℕ) (slot : Option Input) → slice_get r.inputs q ≡ slot → is_still_in n (dead n) slot ≡ true → (u : ℕ) → end ≤ u → u < last
          → slice_index (inputs_by later (level later) r (suc u)) q ≡ slice_index (inputs_by later (level later) r u) q
      one q None reads is u from below = absurd (true_false false is refl)
      one q (Some i) reads is u from below =
          reads_wire later later_ok r q i reads (suc u) ∙ calm i is (suc u - i.delay) (omega (arith, from)) (omega (arith, below, soon))
          ∙ sym (calm i is (u - i.delay) (omega (arith, from)) (omega (arith, below, soon))) ∙ sym (reads_wire later later_ok r q i reads u)

      all : (set : List ℕ) → are_still n (dead n) r set ≡ true → (u : ℕ) → end ≤ u → u < last → AreSame set (inputs_by later (level later) r u) (inputs_by later (level later) r (suc u))
      all [] is u from below = tt
      all (q ∷ qs) is u from below =
          let parts = and_parts (is_still_in n (dead n) (slice_get r.inputs q)) (are_still n (dead n) r qs) is in
          (one q (slice_get r.inputs q) refl parts.0 u from below, all qs parts.1 u from below)

      out_stays : (u : ℕ) → end ≤ u → u ≤ last → output_of (state later m u) p ≡ output_of (state later m end) p
      out_stays =
          let found = found_set (are_still n (dead n) r) (holding_sets r.kind r.params (state n m end) p) kept.held in
          let form = (ok.modules_ok m r kept.stands).outputs in
          let held = subst (λ (s : Memory). HasSet (holding_sets r.kind r.params s p) found.0) (sym (state_same m end r kept.stands (omega arith))) found.1 in
          held_on later later_ok m r at_later p (omega (arith, within, form)) found.0 end last held (all found.0 found.2)

      -- so from its delay before the end on
      out_same : (u : ℕ) → end - delay_of r p ≤ u → u ≤ last → output_of (state later m u) p ≡ given n m p end
      out_same u from upto = by (cases_lt u end)
        where
          parts : (nat_le (delay_of r p) end ≡ true) × (is_still n (given n m p) (end - delay_of r p) ≡ true)
          parts = and_parts (nat_le (delay_of r p) end) (is_still n (given n m p) (end - delay_of r p)) kept.quiet

          by : (u < end) ⊎ (end ≤ u) → output_of (state later m u) p ≡ given n m p end
          by (inl sooner) =
              ap (λ (s : Memory). output_of s p) (state_same m u r kept.stands (omega (arith, sooner)))
              ∙ since_still (given n m p) end (end - delay_of r p) u (leb-true (since (given n m p) end) (end - delay_of r p) parts.1) from (omega (arith, sooner))
          by (inr past) = out_stays u past upto ∙ ap (λ (s : Memory). output_of s p) (state_same m end r kept.stands (omega arith))

    stand_next : end ≤ t → Stand t
    stand_next past m p w drives is_dead =
        let drives_at = finds_only_ports n w p (record { 0 = m }) drives in
        let within_part = output_within drives_at.part p (record { 0 = w }) drives_at.output in
        let few = few_outputs drives_at.part.kind in
        let form = (ok.modules_ok m drives_at.part drives_at.stands).outputs in
        let first : port_number m p / port_numbers ≡ m = omega (arith, within_part, few, form) in
        let second : port_number m p % port_numbers ≡ p = omega (arith, within_part, few, form) in
        let kept : IsKept n (dead n) m p =
        subst (λ q. IsKept n (dead n) m q) second (subst (λ k. IsKept n (dead n) k (port_number m p % port_numbers)) first (kept_of n (dead n) (port_number m p) (dead_is_kept n (port_number m p) is_dead))) in
        let same : drives_at.part ≡ kept.part = same_Some {A = ModuleRecord} drives_at.part kept.part (sym drives_at.stands ∙ kept.stands) in
        by kept (subst (λ (r : ModuleRecord). p < length r.outputs) same within_part)
      where
        by : (kept : IsKept n (dead n) m p) → p < length kept.part.outputs → level later w t ≡ level n w end
        by kept within =
            let d = delay_of kept.part p in
            let parts = and_parts (nat_le d end) (is_still n (given n m p) (end - d)) kept.quiet in
            let short : d ≤ end = leb-true d end parts.0 in
            let some : 0 < d = late n kept.part p (ok.modules_ok m kept.part kept.stands) in
            let back : t - d + d ≡ t = omega (arith, short, past) in
            let end_back : end - d + d ≡ end = omega (arith, short) in
            let drives_later = same_driver n later ok later_ok end goes.alike w ∙ drives in
            let at_later = same_module n later ok later_ok end goes.alike m ∙ kept.stands in
            sym (ap (level later w) back) ∙ port_level_is later later_ok m p w (t - d) kept.part at_later drives_later
            ∙ out_same m p kept within (t - d) (omega (arith, some, past, short)) (t - d) (omega (arith, past)) (omega arith)
            ∙ sym (since_still (given n m p) end (end - d) (end - d) (leb-true (since (given n m p) end) (end - d) parts.1) (omega arith) (omega arith))
            ∙ sym (port_level_is n ok m p w (end - d) kept.part kept.stands drives) ∙ ap (level n w) end_back

  stand_upto : (t s : ℕ) → end ≤ s → s < t → Stand s
  stand_upto zero s past below = absurd (omega (arith, below))
  stand_upto (suc t) s past below = by (cases_lt s t) (stand_upto t)
    where
      by : (s < t) ⊎ (t ≤ s) → ((s : ℕ) → end ≤ s → s < t → Stand s) → Stand s
      by (inl sooner) before = before s past sooner
      by (inr here) before = let is : t ≡ s = omega (arith, here, below) in subst Stand is (stand_next t before (omega (arith, is, past)))

  pub stands : (t : ℕ) → end ≤ t → Stand t
  stands t past = stand_upto (suc t) t past (omega arith)

pub dead_stand_for_ever : DeadStandForEver
dead_stand_for_ever n later ok later_ok goes m p w drives is_dead t past = stands n later ok later_ok goes t past m p w (finds_ports n ok m p w drives) is_dead

pub stands_for_ever : StandsForEver
stands_for_ever n later ok later_ok goes waits found w at t past =
    let wait = waits_of_deadlock n waits found w at in
    let wire = wire_of_wait n wait.0 w wait.1 in
    stands n later ok later_ok goes t past wire.other.0 wire.port w.wire.0 wire.drives wire.is_dead
