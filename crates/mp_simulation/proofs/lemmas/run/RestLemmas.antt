-- Units in which nothing changes, where only stimuli change what comes.
use Rattle.std.proofs.Common.{◌≡◌, ℕ, zero, suc, ◌+◌, ◌-◌, ◌<◌, ◌≤◌, cond, List, [], ◌∷◌, ◌++◌, sym, ap, ◌∙◌, arith, refl, subst, inl, inr}
use Rattle.std.proofs.lemmas.Bool.{cases_lt, ne_eqb}
use Rattle.mp_netlist.specs.Circuit.{Circuit, IsCircuit}
use Rattle.mp_simulation.specs.declared.bits.simulation.Simulation.{Simulation}
use Rattle.mp_simulation.specs.bits.Simulations.{IsIdle}
use Rattle.mp_simulation.proofs.lemmas.bits.RestingLemmas.{stays_idle}
use Rattle.mp_simulation.specs.declared.units.netlist_simulation.NetlistSimulation.{NetlistSimulation}
use Rattle.mp_simulation.specs.units.NetlistSimulations.{IsSimulated, AreStimuli, IsAtRest}
use Rattle.mp_simulation.proofs.lemmas.units.RestingLemmas.{rests_on}
use Rattle.mp_simulation.specs.declared.run.stimuli.StimulusChange.{StimulusChange}
use Rattle.mp_simulation.specs.run.Evaluations.{IsEvaluated}
use Rattle.mp_simulation.specs.run.Narrow.{IsNarrow}
use Rattle.mp_simulation.specs.run.Stimuli.{bits_of, levels_of, bits_at, levels_at, AreFrom, AreAhead}
use Rattle.mp_simulation.proofs.lemmas.run.NarrowLemmas.{all_bits}
use Rattle.mp_simulation.proofs.lemmas.run.PresentLemmas.{stimuli_now}
use Rattle.mp_simulation.proofs.lemmas.run.RunLemmas.{passed}

pub from_before : (t later : ℕ) (rest : List StimulusChange) → AreFrom later rest → t ≤ later → AreFrom t rest
from_before t later [] from low = tt
from_before t later (s ∷ ss) from low =
    let first = from.0 in
    (omega arith, from.1)

pub no_bits : (u : ℕ) (rest : List StimulusChange) → AreFrom (u + 1) rest → bits_at u rest ≡ []
no_bits u [] from = refl
no_bits u (s ∷ ss) from =
    let late = from.0 in
    ap (λ b. cond b (bits_of s ++ bits_at u ss) []) (ne_eqb s.time u (λ e. omega arith))

pub no_levels : (u : ℕ) (rest : List StimulusChange) → AreFrom (u + 1) rest → levels_at u rest ≡ []
no_levels u [] from = refl
no_levels u (s ∷ ss) from =
    let late = from.0 in
    ap (λ b. cond b (levels_of s ++ levels_at u ss) []) (ne_eqb s.time u (λ e. omega arith))

module _ (n : Circuit) (ok : IsCircuit n) (rest : List StimulusChange) (Is : ℕ → Type 0) (goes_on : (t : ℕ) → AreStimuli n [] [] (t + 1) → Is t → Is (t + 1)) where
  over : (k t : ℕ) → Is t → AreAhead n t rest → AreFrom (t + k + 1) rest → Is (t + k) × AreAhead n (t + k) rest
  over zero t is are from =
      let here : t ≡ t + 0 = omega arith in
      (subst Is here is, subst (λ u. AreAhead n u rest) here are)
  over (suc k) t is are from =
      let next : AreFrom (t + 1 + 1) rest = from_before (t + 1 + 1) (t + suc k + 1) rest from (omega arith) in
      let none = stimuli_now n ok t rest [] [] (sym (no_bits (t + 1) rest next)) (sym (no_levels (t + 1) rest next)) are in
      let same : t + suc k + 1 ≡ t + 1 + k + 1 = omega arith in
      let there : t + 1 + k ≡ t + suc k = omega arith in
      let more = over k (t + 1) (goes_on t none is) (record { listed = next; each = λ w u later. are.each w u (omega arith); set = are.set }) (subst (λ u. AreFrom u rest) same from) in
      (subst Is there more.0, subst (λ u. AreAhead n u rest) there more.1)

  -- all up to the next change
  pub units_over : (t next : ℕ) → t < next → Is t → AreAhead n t rest → AreFrom next rest → Is (next - 1) × AreAhead n (next - 1) rest
  units_over t next later is are from =
      let there : t + (next - 1 - t) ≡ next - 1 = omega arith in
      let ahead : next ≡ t + (next - 1 - t) + 1 = omega arith in
      let all = over (next - 1 - t) t is are (subst (λ u. AreFrom u rest) ahead from) in
      (subst Is there all.0, subst (λ u. AreAhead n u rest) there all.1)

pub rested : (n : Circuit) → IsCircuit n → (rest : List StimulusChange) (s : NetlistSimulation) (t next : ℕ) → t < next → (t + 1 < next → IsAtRest s) →
    IsSimulated n t s → AreAhead n t rest → AreFrom next rest → IsSimulated n (next - 1) s × AreAhead n (next - 1) rest
rested n ok rest s t next later still is are from = elim (cases_lt (t + 1) next) as (λ _. IsSimulated n (next - 1) s × AreAhead n (next - 1) rest) [
  | inl beyond ↦ units_over n ok rest (λ u. IsSimulated n u s) (λ u none. λ now. rests_on n ok u s (still beyond) now none) t next later is are from
  | inr here ↦
      let same : t ≡ next - 1 = omega arith in
      (subst (λ u. IsSimulated n u s) same is, subst (λ u. AreAhead n u rest) same are)
]

pub idled : (n : Circuit) → IsCircuit n → IsNarrow n → (rest : List StimulusChange) (s : Simulation) (t next : ℕ) → t < next → (t + 1 < next → IsIdle s) →
    IsEvaluated n t s → AreAhead n t rest → AreFrom next rest → IsEvaluated n (next - 1) s × AreAhead n (next - 1) rest
idled n ok narrow rest s t next later still is are from = elim (cases_lt (t + 1) next) as (λ _. IsEvaluated n (next - 1) s × AreAhead n (next - 1) rest) [
  | inl beyond ↦ units_over n ok rest (λ u. IsEvaluated n u s) (λ u none. λ now. step u none now (still beyond)) t next later is are from
  | inr here ↦
      let same : t ≡ next - 1 = omega arith in
      (subst (λ u. IsEvaluated n u s) same is, subst (λ u. AreAhead n u rest) same are)
]
  where
    step : (u : ℕ) → AreStimuli n [] [] (u + 1) → IsEvaluated n u s → IsIdle s → IsEvaluated n (u + 1) s
    step u none now idle =
        passed n ok u s [] now (none.bits now.scope (λ w. now.traces w ∙ sym (all_bits n narrow w))) s now.sound refl
        (λ scope before whole are_set running. stays_idle n ok scope before u s now.sound idle whole are_set running)
