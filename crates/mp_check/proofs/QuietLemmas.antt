-- Modules whose inputs are still.
use Rattle.std.proofs.Common.{◌≡◌, ℕ, ◌+◌, ◌-◌, ◌<◌, ◌≤◌, ◌⊎◌, inl, inr, Bool, true, false, ◌&&◌, List, [], ◌∷◌, map, Some, zero, suc, refl, ap, sym, subst, ◌∙◌, arith}
use Rattle.std.specs.Prelude.{nat_le}
use Rattle.std.proofs.lemmas.Bool.{cases_lt, leb-true, le-leb, and_parts}
use Rattle.mp_modules.specs.declared.memory.Memory.{Memory}
use Rattle.mp_modules.specs.Memories.{output_of}
use Rattle.mp_records.specs.declared.module_record.ModuleRecord.{ModuleRecord}
use Rattle.mp_records.specs.declared.ports.Input.{Input}
use Rattle.mp_netlist.specs.Circuit.{Circuit, IsCircuit, module_at}
use Rattle.mp_model.specs.Levels.{input_by, inputs_by}
use Rattle.mp_model.specs.Waves.{level, state}
use Rattle.mp_model.proofs.QuietLemmas.{same_inputs}
use Rattle.mp_questions.specs.timing.Events.{since}
use Rattle.mp_questions.specs.timing.Waits.{given}
use Rattle.mp_questions.specs.timing.Hearing.{IsWatch}
use Rattle.mp_questions.specs.declared.timing.client_watch.ClientWatch.{ClientWatch}
use Rattle.mp_check.specs.Dead.{last_unit, is_still, is_quiet}
use Rattle.mp_check.specs.Quiet.{are_all_still, mark_of}
use Rattle.mp_check.proofs.StillLemmas.{since_still, still_since}

-- from one unit to the next
pub from_on : (P : ℕ → Type 0) (first last : ℕ) → P first → ((u : ℕ) → first ≤ u → u < last → P u → P (suc u)) → (u : ℕ) → first ≤ u → u ≤ last → P u
from_on P first last start next zero low high = let is : first ≡ 0 = omega (arith, low) in subst P is start
from_on P first last start next (suc u) low high = by (cases_lt u first) (λ past. from_on P first last start next u past (omega (arith, high)))
  where
    by : (u < first) ⊎ (first ≤ u) → (first ≤ u → P u) → P (suc u)
    by (inl here) known = let is : first ≡ suc u = omega (arith, low, here) in subst P is start
    by (inr past) known = next u past (omega (arith, high)) (known past)

module _ (n : Circuit) (ok : IsCircuit n) (m : ℕ) (r : ModuleRecord) (at : module_at n m ≡ Some r) (after : ℕ) (low : after ≤ last_unit n) (all : are_all_still n after r.inputs ≡ true) where
  abbrev heard_at : ℕ → List ℕ
  heard_at t = inputs_by n (level n) r t

  all_still : (s : ℕ) → after ≤ s → s ≤ last_unit n → (inputs : List Input) → are_all_still n after inputs ≡ true
      → map (λ i. input_by n (level n) i s) inputs ≡ map (λ i. input_by n (level n) i (last_unit n)) inputs
  all_still s from upto [] all = refl
  all_still s from upto (i ∷ is) all =
      let parts = and_parts (is_still n (input_by n (level n) i) after) (are_all_still n after is) all in
      let here = since_still (input_by n (level n) i) (last_unit n) after s (leb-true (since (input_by n (level n) i) (last_unit n)) after parts.0) from upto in
      ap (λ x. x ∷ map (λ j. input_by n (level n) j s) is) here ∙ ap (λ xs. input_by n (level n) i (last_unit n) ∷ xs) (all_still s from upto is parts.1)

  heard_still : (s : ℕ) → after ≤ s → s ≤ last_unit n → heard_at s ≡ heard_at (last_unit n)
  heard_still s from upto = all_still s from upto r.inputs all

  upto_end : (u : ℕ) → after ≤ u → u ≤ last_unit n → state n m u ≡ state n m after
  upto_end =
      from_on (λ u. state n m u ≡ state n m after) after (last_unit n) refl
      (λ u from below known.
      let e : u + 1 ≡ suc u = omega arith in
      let same : heard_at (u + 1) ≡ heard_at u = heard_still (u + 1) (omega (arith, from)) (omega (arith, below)) ∙ sym (heard_still u from (omega (arith, below))) in
      let step_same : state n m (u + 1) ≡ state n m u = same_inputs n ok m u r at same in
      subst (λ k. state n m k ≡ state n m u) e step_same ∙ known)

  state_still : (s : ℕ) → after ≤ s → s ≤ last_unit n → state n m s ≡ state n m (last_unit n)
  state_still s from upto = upto_end s from upto ∙ sym (upto_end (last_unit n) low (omega arith))

  -- so no output has an event
  pub outputs_still : (p : ℕ) → is_still n (given n m p) after ≡ true
  outputs_still p =
      le-leb (since (given n m p) (last_unit n)) after
      (still_since (given n m p) (last_unit n) after (λ s from upto. ap (λ (x : Memory). output_of x p) (state_still s from upto)))

module _ (n : Circuit) (m p delay : ℕ) where
  pub not_quiet : last_unit n < delay → false ≡ is_quiet n m p delay
  not_quiet long = sym (ap (λ b. b && is_still n (given n m p) (last_unit n - delay)) (lt-gtb delay (last_unit n) long))
    where
      lt-gtb : (a b : ℕ) → b < a → nat_le a b ≡ false
      lt-gtb a b less = by (nat_le a b) refl
        where
          by : (t : Bool) → nat_le a b ≡ t → t ≡ false
          by true is = let low = leb-true a b is in absurd (omega (arith, low, less))
          by false is = refl

  pub quiet_by_still : delay ≤ last_unit n → is_still n (given n m p) (last_unit n - delay) ≡ is_quiet n m p delay
  quiet_by_still short = sym (ap (λ b. b && is_still n (given n m p) (last_unit n - delay)) (le-leb delay (last_unit n) short))

-- since when an output of a module is what it is
pub mark_is : (n : Circuit) (m : ℕ) (r : ModuleRecord) (t : ℕ) (w : ClientWatch) → IsWatch n m r t w → (p : ℕ) → p < 3 → mark_of w.marks p ≡ since (given n m p) t
mark_is n m r t w is zero low = is.marks.first_output
mark_is n m r t w is (suc zero) low = is.marks.second_output
mark_is n m r t w is (suc (suc zero)) low = is.marks.third_output
mark_is n m r t w is (suc (suc (suc p))) low = absurd (omega (arith, low))
