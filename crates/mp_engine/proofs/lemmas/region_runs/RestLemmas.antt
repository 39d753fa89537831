-- Units in which nothing changes, where a part of a netlist is at rest.
use Rattle.std.proofs.Common.{◌≡◌, ℕ, zero, suc, ◌+◌, ◌-◌, ◌<◌, ◌≤◌, ◌%◌, Bool, not, List, [], ◌++◌, Option, None, Some, refl, sym, ap, ◌∙◌, arith, subst, inl, inr}
use Rattle.std.proofs.lemmas.Bool.{cases_eq}
use Rattle.mp_records.specs.declared.ids.ModuleId.{ModuleId}
use Rattle.mp_records.specs.declared.module_record.ModuleRecord.{ModuleRecord}
use Rattle.mp_netlist.specs.Circuit.{Circuit, IsCircuit, module_at}
use Rattle.mp_netlist.specs.Limits.{checkpoint_units}
use Rattle.mp_model.specs.Waves.{state}
use Rattle.mp_simulation.specs.units.NetlistSimulations.{IsAtRest}
use Rattle.mp_simulation.proofs.lemmas.units.RestingLemmas.{rests_on, state_rests}
use Rattle.mp_simulation.specs.declared.run.stimuli.StimulusChange.{StimulusChange}
use Rattle.mp_simulation.specs.run.Stimuli.{rest_of, left_of, bits_at, levels_at, AreFrom}
use Rattle.mp_simulation.proofs.lemmas.run.RestLemmas.{from_before, no_bits, no_levels}
use Rattle.mp_partition.specs.runs.Checkpoints.{IsBorder}
use Rattle.mp_partition.specs.runs.Marks.{AreListed}
use Rattle.mp_partition.proofs.lemmas.runs.MarkLemmas.{none_in, none_marked}
use Rattle.mp_engine.specs.declared.region_runs.region_run.RegionRun.{RegionRun}
use Rattle.mp_engine.specs.declared.region_runs.state_history.StateHistory.{StateHistory}
use Rattle.mp_engine.specs.region_runs.RegionRuns.{AreComing, IsUnderWay}
use Rattle.mp_engine.specs.region_runs.StateHistories.{id_of, AreKept, AllAreKept, IsStateHistory, IsHistory}
use Rattle.mp_engine.proofs.lemmas.region_runs.RegionRunLemmas.{stimuli_are}
use Rattle.mp_engine.proofs.lemmas.region_runs.StateHistoryLemmas.{between_borders, border_over, unit_over}

-- ---- the states that are kept

-- a border, or none, before which all states are kept
border_passed : (n : Circuit) (t : ℕ) (h : StateHistory) → (IsBorder n.horizon (t + 1) → h.list.items ≡ []) → IsStateHistory n (t + 1) t h → AreKept n (t + 1 + 1) t h.marks.items h.kept.items
border_passed n t h kept is = elim (cases_eq ((t + 1) % checkpoint_units n.horizon) 0) as (λ _. AreKept n (t + 1 + 1) t h.marks.items h.kept.items) [
  | inl border ↦ border_over n (t + 1) t h.marks.items h.kept.items refl (none_marked h.marks.items (subst (λ (ids : List ModuleId). AreListed h.marks.items ids) (kept border) is.listed)) is.kept
  | inr inside ↦ between_borders n (t + 1) t h.marks.items h.kept.items (λ border. inside border) is.kept
]

-- and a unit in which no module changes its state
history_rests : (n : Circuit) (keeps : Bool) (t : ℕ) (history : Option StateHistory) → (IsBorder n.horizon (t + 1) → AllAreKept history) →
    ((m : ℕ) (r : ModuleRecord) → module_at n m ≡ Some r → state n m (t + 1) ≡ state n m t) → IsHistory n keeps (t + 1) t history → IsHistory n keeps (t + 1 + 1) (t + 1) history
history_rests n keeps t None kept same is = is
history_rests n keeps t (Some h) kept same is = record {
  kept = unit_over n (t + 1 + 1) t h.marks.items h.marks.items h.list.items h.list.items [] h.kept.items
      (record { places = refl; kept = λ m marked. marked; told = λ m within has. absurd (none_in (id_of m) has); listed = λ listed. listed })
      (λ m r at idle. same m r at) (border_passed n t h kept is);
  listed = is.listed;
}

-- ---- what is to come

none_of_both : {A : Type 0} (xs ys : List A) → xs ≡ [] → ys ≡ [] → [] ≡ xs ++ ys
none_of_both xs ys one other = sym (ap (λ zs. zs ++ ys) one ∙ other)

coming_later : (n : Circuit) (is_told : ℕ → Bool) (t until : ℕ) (ss : List StimulusChange) → AreFrom (t + 1 + 1) ss → AreComing n is_told t until ss → AreComing n is_told (t + 1) until ss
coming_later n is_told t until ss from are = record { listed = from; each = λ w u later low. are.each w u (omega (arith, later)) low; set = are.set }

-- ---- units

module _ (n : Circuit) (ok : IsCircuit n) (keeps : Bool) (is_heard : ℕ → Bool) (until : ℕ) (run : RegionRun) (rest : IsAtRest run.simulation) where
  -- a unit in which nothing is set is over
  unit_rests : (t : ℕ) → t + 1 < n.horizon → t + 1 < until → AreFrom (t + 1 + 1) (rest_of run.stimuli) → AreFrom (t + 1 + 1) (left_of run.heard) →
      (IsBorder n.horizon (t + 1) → AllAreKept run.history) → IsUnderWay n keeps is_heard t until run → IsUnderWay n keeps is_heard (t + 1) until run
  unit_rests t low known own heard kept is =
      let none = stimuli_are n ok is_heard t until (rest_of run.stimuli) (left_of run.heard) [] []
      (none_of_both (bits_at (t + 1) (rest_of run.stimuli)) (bits_at (t + 1) (left_of run.heard)) (no_bits (t + 1) (rest_of run.stimuli) own) (no_bits (t + 1) (left_of run.heard) heard))
      (none_of_both (levels_at (t + 1) (rest_of run.stimuli)) (levels_at (t + 1) (left_of run.heard)) (no_levels (t + 1) (rest_of run.stimuli) own) (no_levels (t + 1) (left_of run.heard) heard))
      low known is.own is.heard in
      record {
        simulated = rests_on n ok t run.simulation rest is.simulated none;
        own = coming_later n (λ w. not (is_heard w)) t n.horizon (rest_of run.stimuli) own is.own;
        heard = coming_later n is_heard t until (left_of run.heard) heard is.heard;
        kept = history_rests n keeps t run.history kept (state_rests n ok t run.simulation rest is.simulated none) is.kept;
      }

  -- and so are all before the next at which something is set, or before which states have to be kept
  module _ (first next : ℕ) (within : next ≤ n.horizon) (known : next ≤ until) (own : AreFrom next (rest_of run.stimuli)) (heard : AreFrom next (left_of run.heard))
      (kept : (b : ℕ) → first < b → b < next → IsBorder n.horizon b → AllAreKept run.history) where
    over : (k t : ℕ) → first ≤ t → t + k < next → IsUnderWay n keeps is_heard t until run → IsUnderWay n keeps is_heard (t + k) until run
    over zero t later low is = let here : t ≡ t + 0 = omega arith in subst (λ u. IsUnderWay n keeps is_heard u until run) here is
    over (suc k) t later low is =
        let there : t + 1 + k ≡ t + suc k = omega arith in
        let ahead : t + 1 + 1 ≤ next = omega (arith, low) in
        let one = unit_rests t (omega (arith, low, within)) (omega (arith, low, known)) (from_before (t + 1 + 1) next (rest_of run.stimuli) own ahead) (from_before (t + 1 + 1) next (left_of run.heard) heard ahead)
        (kept (t + 1) (omega (arith, later)) (omega (arith, low))) is in
        subst (λ u. IsUnderWay n keeps is_heard u until run) there (over k (t + 1) (omega (arith, later)) (omega (arith, low)) one)

    pub rested : first < next → IsUnderWay n keeps is_heard first until run → IsUnderWay n keeps is_heard (next - 1) until run
    rested later is =
        let there : first + (next - 1 - first) ≡ next - 1 = omega (arith, later) in
        let low : first + (next - 1 - first) < next = omega (arith, later) in
        subst (λ u. IsUnderWay n keeps is_heard u until run) there (over (next - 1 - first) first (omega arith) low is)
