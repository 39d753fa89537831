-- CALL over time.
use Rattle.std.proofs.Common.{◌≡◌, ℕ, zero, suc, ◌+◌, ◌≤◌, Bool, true, false, not, List, refl, sym, subst, ap, ◌∙◌, arith}
use Rattle.std.specs.Prelude.{◌&&◌, slice_index}
use Rattle.std.proofs.lemmas.Bool.{both_ways}
use Rattle.mp_modules.specs.declared.core_module.CoreModule.TheVariants.{Call}
use Rattle.mp_modules.specs.declared.finding_code.FindingCode.TheVariants as codes
use Rattle.mp_modules.specs.declared.finding_set.FindingSet.{FindingSet}
use Rattle.mp_modules.specs.declared.memory.Memory.{Memory}
use Rattle.mp_modules.specs.declared.memory.Client.{Client}
use Rattle.mp_modules.specs.declared.memory.Client.TheVariants.{Nobody, First}
use Rattle.mp_modules.specs.Memories.{output_of, seen}
use Rattle.mp_modules.specs.Clients.{is_free}
use Rattle.mp_modules.specs.Call.{ended, is_end_ignored, called, is_call_ignored, is_overlap}
use Rattle.mp_modules.specs.Findings.{has_code, no_findings, with_code_if}
use Rattle.mp_modules.specs.Tables.{settle, step, found}
use Rattle.mp_modules.specs.Quiet.{unchanged}
use Rattle.mp_modules.specs.Histories.{state_at, events, input, output, served}
use Rattle.mp_modules.specs.EventLaws.{HasOnePending, ReturnsToAskers, ServesEachRequest, ReturnsEachDone}
use Rattle.mp_modules.proofs.HistoryLemmas.{and_few, bit, change, either, event_at}
use Rattle.mp_modules.proofs.ClientLemmas.{first, second, number_served}
use Rattle.mp_modules.proofs.CallUnits.{calling, unit}

record Serves (x : ℕ → List ℕ) (t : ℕ) : Type 0 where
  r : ℕ
  a : ℕ
  b : ℕ
  served : Client
  is : state_at Call x t ≡ calling (x t) r a b served

settled : (x : List ℕ) → settle Call x ≡ calling x 0 0 0 Nobody
settled x = rw (unchanged (slice_index x 0), unchanged (slice_index x 1), unchanged (slice_index x 2)) refl

-- what a unit does to those who are served, where nothing is found
record IsExact (x : ℕ → List ℕ) (t : ℕ) (m now : Memory) : Type 0 where
  of_first : change (output_of m 1) (output_of now 1) + first now.served ≡ first m.served + bit (event_at x 0 t)
  of_second : change (output_of m 2) (output_of now 2) + second now.served ≡ second m.served + bit (event_at x 1 t)
  dones : change (output_of m 1) (output_of now 1) + change (output_of m 2) (output_of now 2) ≡ bit (event_at x 2 t)

-- and in any case
record IsFair (x : ℕ → List ℕ) (t : ℕ) (m now : Memory) : Type 0 where
  pending : change (output_of m 0) (output_of now 0) + first m.served + second m.served
      ≡ change (output_of m 1) (output_of now 1) + change (output_of m 2) (output_of now 2) + first now.served + second now.served
  of_first : change (output_of m 1) (output_of now 1) + first now.served ≤ first m.served + bit (event_at x 0 t)
  of_second : change (output_of m 2) (output_of now 2) + second now.served ≤ second m.served + bit (event_at x 1 t)
  exact : found Call m (x (suc t)) ≡ no_findings → IsExact x t m now

serves : (x : ℕ → List ℕ) (t : ℕ) → Serves x t
serves x zero = record { r = 0; a = 0; b = 0; served = Nobody; is = settled (x 0) }
serves x (suc t) =
    let y = x (suc t) in
    let s = serves x t in
    let u = unit (event_at x 0 t) (event_at x 1 t) (event_at x 2 t) s.served (x t) s.r s.a s.b in
    record { r = u.new_r; a = u.new_a; b = u.new_b; served = u.then_served; is = ap (λ (m : Memory). step Call m y) s.is ∙ ap (seen y) u.is }

-- where neither is found, neither is so
neither : (done overlap : Bool) →
    with_code_if codes.DoneWithoutCall done (with_code_if codes.CallOverlap overlap no_findings) ≡ no_findings → (done ≡ false) × (overlap ≡ false)
neither true true none = absurd (both_ways _ (ap (λ (s : FindingSet). has_code s codes.DoneWithoutCall) none) refl)
neither true false none = absurd (both_ways _ (ap (λ (s : FindingSet). has_code s codes.DoneWithoutCall) none) refl)
neither false true none = absurd (both_ways _ (ap (λ (s : FindingSet). has_code s codes.CallOverlap) none) refl)
neither false false none = (refl, refl)

all_taken : (event free : Bool) → (event && not free) ≡ false → bit (event && free) ≡ bit event
all_taken true true none = refl
all_taken true false none = absurd (both_ways _ none refl)
all_taken false free none = refl

fair_unit : (x : ℕ → List ℕ) (t : ℕ) → IsFair x t (state_at Call x t) (state_at Call x (suc t))
fair_unit x t =
    let y = x (suc t) in
    let s = serves x t in
    let e1 = event_at x 0 t in
    let e2 = event_at x 1 t in
    let d = event_at x 2 t in
    let m : Memory = calling (x t) s.r s.a s.b s.served in
    let u = unit e1 e2 d s.served (x t) s.r s.a s.b in
    let few1 = and_few e1 (is_free (ended d m).served) in
    let few2 = and_few e2 (is_free (called First e1 (ended d m)).served) in
    let exact : found Call m y ≡ no_findings → IsExact x t m (calling y u.new_r u.new_a u.new_b u.then_served) = λ none.
    let so = neither (is_end_ignored d m) (is_overlap m y) none in
    let calls = either (is_call_ignored e1 (ended d m)) (is_call_ignored e2 (called First e1 (ended d m))) so.1 in
    let all1 = all_taken e1 (is_free (ended d m).served) calls.0 in
    let all2 = all_taken e2 (is_free (called First e1 (ended d m)).served) calls.1 in
    record { of_first = omega (arith, u.of_first); of_second = omega (arith, u.of_second); dones = u.exact so.0 } in
    let known : IsFair x t m (calling y u.new_r u.new_a u.new_b u.then_served) =
    record { pending = u.pending; of_first = omega (arith, u.of_first); of_second = omega (arith, u.of_second); exact = exact } in
    let stepped : IsFair x t m (step Call m y) = subst (λ (n : Memory). IsFair x t m n) (sym (ap (seen y) u.is)) known in
    subst (λ (k : Memory). IsFair x t k (step Call k y)) (sym s.is) stepped

-- what is served at the start
none_served : (x : ℕ → List ℕ) → first (served Call x 0) + second (served Call x 0) ≡ 0
none_served x = ap (λ (m : Memory). first m.served + second m.served) (settled (x 0))

-- the request output and the done outputs
pending : (x : ℕ → List ℕ) (t : ℕ) →
    events (output Call x 0) t ≡ events (output Call x 1) t + events (output Call x 2) t + first (served Call x t) + second (served Call x t)
pending x zero =
    let none = none_served x in
    omega arith
pending x (suc t) =
    let before = pending x t in
    let u = (fair_unit x t).pending in
    omega arith

pub has_one_pending : HasOnePending
has_one_pending x t =
    let all = pending x t in
    let who = number_served (served Call x t) in
    omega arith

record HaveAsked (x : ℕ → List ℕ) (t : ℕ) : Type 0 where
  of_first : events (output Call x 1) t + first (served Call x t) ≤ events (input x 0) t
  of_second : events (output Call x 2) t + second (served Call x t) ≤ events (input x 1) t

have_asked : (x : ℕ → List ℕ) (t : ℕ) → HaveAsked x t
have_asked x zero =
    let none = none_served x in
    record { of_first = omega arith; of_second = omega arith }
have_asked x (suc t) =
    let u = fair_unit x t in
    let before = have_asked x t in
    record { of_first = omega (arith, u.of_first, before.of_first); of_second = omega (arith, u.of_second, before.of_second) }

pub returns_to_askers : ReturnsToAskers
returns_to_askers x t =
    let asked = have_asked x t in
    (omega (arith, asked.of_first), omega (arith, asked.of_second))

pub serves_each_request : ServesEachRequest
serves_each_request x zero nothing =
    let none = none_served x in
    (omega arith, omega arith)
serves_each_request x (suc t) nothing =
    let u = (fair_unit x t).exact (nothing t (omega arith)) in
    let before = serves_each_request x t (λ k below. nothing k (omega arith)) in
    (omega (arith, u.of_first, before.0), omega (arith, u.of_second, before.1))

pub returns_each_done : ReturnsEachDone
returns_each_done x zero nothing = refl
returns_each_done x (suc t) nothing =
    let u = (fair_unit x t).exact (nothing t (omega arith)) in
    let before = returns_each_done x t (λ k below. nothing k (omega arith)) in
    omega (arith, u.dones, before)
