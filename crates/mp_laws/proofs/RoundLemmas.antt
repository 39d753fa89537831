-- Critical cycles come round from cause to cause.
use Rattle.std.proofs.Common.{◌≡◌, ℕ, ◌+◌, ◌*◌, ◌-◌, ◌/◌, ◌<◌, ◌≤◌, ◌==◌, ◌⊎◌, inl, inr, true, false, cond, List, [], ◌∷◌, ◌++◌, Option, Some, None, option_map, zero, suc, refl, ap, sym, subst, ◌∙◌, arith, mul-add}
use Rattle.std.specs.Prelude.{◌||◌}
use Rattle.std.specs.List.{list_any, sum_by}
use Rattle.std.proofs.lemmas.Bool.{cases_Bool, eqb-true, and_parts}
use Rattle.std.proofs.lemmas.List.Sums.{sum_by-cons}
use Rattle.mp_records.specs.declared.ids.WireId.{WireId}
use Rattle.mp_netlist.specs.Circuit.{Circuit, IsCircuit}
use Rattle.mp_questions.specs.declared.causes.wire_change.WireChange.{WireChange}
use Rattle.mp_questions.specs.causes.Causes.{cause_of, followed}
use Rattle.mp_questions.specs.causes.Shares.{time_of, units_of}
use Rattle.mp_questions.proofs.lemmas.causes.ChainLemmas.{followed_time, last_change_is}
use Rattle.mp_steady.specs.Periods.{last_unit}
use Rattle.mp_steady.specs.Cycles.{behind, cycle, cycle_length, first_wire, from_place, in_last, is_place, last_of, most_places, round_of, way_from}
use Rattle.mp_laws.specs.CriticalCycles.{ComeRound, CyclesComeRound, IsStep, LeadTo}

module _ (n : Circuit) (ok : IsCircuit n) (units : ℕ) (some : 0 < units) where
  -- a change in the run
  pub record IsInRun (c : WireChange) : Type 0 where
    pub from : 0 < c.time
    pub upto : c.time ≤ last_unit n

  step_is : (c f : WireChange) → IsInRun c → followed (cause_of n c) ≡ Some f → IsStep n units c (in_last n units f) × IsInRun (in_last n units f)
  step_is c f run follows =
      let early = followed_time n ok c run.from (Some f) follows in (
        record {
          cause = f;
          follows = follows;
          sooner = early.1;
          wire = refl;
          periods = (last_unit n - f.time) / units;
          later = omega (arith, some, early.1, run.upto);
        },
        record { from = omega (arith, some, early.0, early.1, run.upto); upto = omega arith },
      )

  -- a way of changes, each behind the one before
  lead_more : (cs : List WireChange) (c d : WireChange) → LeadTo n units cs c → IsStep n units c d → LeadTo n units (cs ++ c ∷ []) d
  lead_more [] c d lead step = absurd lead
  lead_more (e ∷ []) c d lead step = (lead, step)
  lead_more (e ∷ e' ∷ cs) c d lead step = (lead.0, lead_more (e' ∷ cs) c d lead.1 step)

  -- a change of the same wire at the same time may stand for the last one
  step_same : (c d e : WireChange) → is_place d e ≡ true → IsStep n units c d → IsStep n units c e
  step_same c d e same step =
      let parts = and_parts (d.wire.0 == e.wire.0) (d.time == e.time) same in
      record {
        cause = step.cause;
        follows = step.follows;
        sooner = step.sooner;
        wire = ap (λ k. let w : WireId = record { 0 = k } in w) (sym (eqb-true d.wire.0 e.wire.0 parts.0)) ∙ step.wire;
        periods = step.periods;
        later = sym (eqb-true d.time e.time parts.1) ∙ step.later;
      }

  lead_same : (cs : List WireChange) (d e : WireChange) → is_place d e ≡ true → LeadTo n units cs d → LeadTo n units cs e
  lead_same [] d e same lead = absurd lead
  lead_same (c ∷ []) d e same lead = step_same c d e same lead
  lead_same (c ∷ c' ∷ cs) d e same lead = (lead.0, lead_same (c' ∷ cs) d e same lead.1)

  from_round : (c : WireChange) (cs : List WireChange) → LeadTo n units cs c → list_any (is_place c) cs ≡ true → ComeRound n units (from_place c cs)
  from_round c [] lead found = absurd lead
  from_round c (d ∷ []) lead found = by (cases_Bool (is_place c d))
    where
      by : (is_place c d ≡ true) ⊎ (is_place c d ≡ false) → ComeRound n units (from_place c (d ∷ []))
      by (inl here) = subst (ComeRound n units) (sym (ap (λ b. cond b (d ∷ []) []) here)) (lead_same (d ∷ []) c d here lead)
      by (inr other) = let no : false ≡ true = sym (ap (λ b. b || false) other) ∙ found in let none : ⊥ = cc in absurd none
  from_round c (d ∷ e ∷ es) lead found = by (cases_Bool (is_place c d)) (λ here. from_round c (e ∷ es) lead.1 here)
    where
      by : (is_place c d ≡ true) ⊎ (is_place c d ≡ false) → (list_any (is_place c) (e ∷ es) ≡ true → ComeRound n units (from_place c (e ∷ es))) → ComeRound n units (from_place c (d ∷ e ∷ es))
      by (inl here) rest = subst (ComeRound n units) (sym (ap (λ b. cond b (d ∷ e ∷ es) (from_place c (e ∷ es))) here)) (lead_same (d ∷ e ∷ es) c d here lead)
      by (inr other) rest =
          subst (ComeRound n units) (sym (ap (λ b. cond b (d ∷ e ∷ es) (from_place c (e ∷ es))) other)) (rest (sym (ap (λ b. b || list_any (is_place c) (e ∷ es)) other) ∙ found))

  -- what comes before a change leads to it, or there is none
  abbrev Leads : List WireChange → WireChange → Type 0
  Leads [] c = Unit {0}
  Leads (e ∷ es) c = LeadTo n units (e ∷ es) c

  lead_next : (before : List WireChange) (c d : WireChange) → Leads before c → IsStep n units c d → LeadTo n units (before ++ c ∷ []) d
  lead_next [] c d lead step = step
  lead_next (e ∷ es) c d lead step = lead_more (e ∷ es) c d lead step

  leads_by : (cs : List WireChange) (d : WireChange) → LeadTo n units cs d → Leads cs d
  leads_by [] d lead = tt
  leads_by (c ∷ cs) d lead = lead

  found_round : (c : WireChange) (before : List WireChange) → Leads before c → list_any (is_place c) before ≡ true → ComeRound n units (from_place c before)
  found_round c [] lead found = let no : ⊥ = cc in absurd no
  found_round c (e ∷ es) lead found = from_round c (e ∷ es) lead found

  rounds_on : (count : ℕ) (before : List WireChange) (c : WireChange) → IsInRun c → Leads before c → (next : Option WireChange) → followed (cause_of n c) ≡ next
      → ComeRound n units (round_of (before ++ c ∷ []) (way_from n units count (option_map (in_last n units) next)))
  rounds_on zero before c run lead next follows = tt
  rounds_on (suc count) before c run lead None follows = tt
  rounds_on (suc count) before c run lead (Some f) follows =
      let step = step_is c f run follows in
      let leads = leads_by (before ++ c ∷ []) (in_last n units f) (lead_next before c (in_last n units f) lead step.0) in
      by leads (cases_Bool (list_any (is_place (in_last n units f)) (before ++ c ∷ []))) (rounds_on count (before ++ c ∷ []) (in_last n units f) step.1 leads (followed (cause_of n (in_last n units f))) refl)
    where
      by : Leads (before ++ c ∷ []) (in_last n units f) → (list_any (is_place (in_last n units f)) (before ++ c ∷ []) ≡ true) ⊎ (list_any (is_place (in_last n units f)) (before ++ c ∷ []) ≡ false)
          → ComeRound n units (round_of ((before ++ c ∷ []) ++ in_last n units f ∷ []) (way_from n units count (behind n units (in_last n units f))))
          → ComeRound n units (round_of (before ++ c ∷ []) (way_from n units (suc count) (Some (in_last n units f))))
      by leads (inl found) rest =
          subst (ComeRound n units)
          (sym (ap (λ b. cond b (from_place (in_last n units f) (before ++ c ∷ [])) (round_of ((before ++ c ∷ []) ++ in_last n units f ∷ []) (way_from n units count (behind n units (in_last n units f))))) found))
          (found_round (in_last n units f) (before ++ c ∷ []) leads found)
      by leads (inr new) rest =
          subst (ComeRound n units)
          (sym (ap (λ b. cond b (from_place (in_last n units f) (before ++ c ∷ [])) (round_of ((before ++ c ∷ []) ++ in_last n units f ∷ []) (way_from n units count (behind n units (in_last n units f))))) new))
          rest

  way_round : (count : ℕ) (next : Option WireChange) → ((c : WireChange) → next ≡ Some c → IsInRun c) → ComeRound n units (round_of [] (way_from n units count next))
  way_round zero next run = tt
  way_round (suc count) None run = tt
  way_round (suc count) (Some c) run = rounds_on count [] c (run c refl) tt (followed (cause_of n c)) refl

  last_in_run : (o : Option ℕ) (c : WireChange) → last_of n o ≡ Some c → IsInRun c
  last_in_run None c is = let no : ⊥ = cc in absurd no
  last_in_run (Some w) c is = let last = last_change_is n (record { 0 = w }) (last_unit n) c is in record { from = last.from; upto = last.within }

  -- the steps of changes that lead to another add up to the time between them and whole periods
  one_step : (c d : WireChange) (step : IsStep n units c d) → units_of n c + d.time ≡ c.time + units * step.periods
  one_step c d step =
      let is : units_of n c ≡ c.time - step.cause.time = ap (λ f. c.time - time_of f) step.follows in
      omega (arith, is, step.sooner, step.later)

  lead_sum : (c : WireChange) (cs : List WireChange) (d : WireChange) → LeadTo n units (c ∷ cs) d → (periods : ℕ) × (sum_by (units_of n) (c ∷ cs) + d.time ≡ c.time + units * periods)
  lead_sum c [] d lead = (lead.periods, omega (arith, sum_by-cons (units_of n) c [], one_step c d lead))
  lead_sum c (e ∷ es) d lead =
      let rest = lead_sum e es d lead.1 in
      let both : units * (lead.0.periods + rest.0) ≡ units * lead.0.periods + units * rest.0 = mul-add units lead.0.periods rest.0 in
      (lead.0.periods + rest.0, omega (arith, sum_by-cons (units_of n) c (e ∷ es), one_step c e lead.0, rest.1, both))

  round_sum : (cs : List WireChange) → ComeRound n units cs → (periods : ℕ) × (cycle_length n cs ≡ units * periods)
  round_sum [] round = (0, omega arith)
  round_sum (c ∷ cs) round = let sum = lead_sum c cs c round in (sum.0, omega (arith, sum.1))

pub cycles_come_round : CyclesComeRound
unfolding cycle
cycles_come_round n ok wires units some =
    let first = last_of n (first_wire n units wires) in
    let round : ComeRound n units (round_of [] (way_from n units most_places first)) = way_round n ok units some most_places first (last_in_run n ok units some (first_wire n units wires)) in
    (round, round_sum n ok units some (round_of [] (way_from n units most_places first)) round)
