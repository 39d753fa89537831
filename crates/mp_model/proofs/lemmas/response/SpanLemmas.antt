-- Units in which no input changes leave a module as it is, and nothing is found at them.
use Rattle.std.proofs.Common.{◌≡◌, ℕ, ◌+◌, ◌-◌, ◌<◌, ◌≤◌, Bool, true, false, cond, List, [], ◌++◌, length, slice_index_or, ◌==◌, zero, suc, refl, ap, sym, ◌∙◌, arith, add-one, append-nil}
use Rattle.std.proofs.lemmas.Bool.Decides.{nat_tests}
use Rattle.mp_modules.specs.Findings.{no_findings}
use Rattle.mp_modules.specs.Kinds.{output_count}
use Rattle.mp_modules.specs.Memories.{output_of}
use Rattle.mp_modules.specs.declared.finding_code.FindingCode.{FindingCode}
use Rattle.mp_modules.specs.declared.finding_set.FindingSet.{FindingSet}
use Rattle.mp_modules.specs.declared.memory.Memory.{Memory}
use Rattle.mp_modules.specs.storage.AnyModules.{kind_of, settle, step, found}
use Rattle.mp_modules.specs.storage.QuietAny.{settled_stays, stepped_stays, settled_quiet, stepped_quiet}
use Rattle.mp_modules.specs.declared.storage.any_module.AnyModule.{AnyModule}
use Rattle.mp_model.specs.declared.response.piece.Piece.{Piece}
use Rattle.mp_model.specs.response.Span.{next_state, found_at, state_after, findings_of, findings_in, extended, output_changes, port_changes, IsSpan, IsUnitMore}

choice_stays : (b : Bool) (part : AnyModule) (s : Memory) (x : List ℕ) → step part (cond b (settle part x) (step part s x)) x ≡ cond b (settle part x) (step part s x)
choice_stays true part s x = settled_stays part x
choice_stays false part s x = stepped_stays part s x

choice_quiet : (b : Bool) (part : AnyModule) (s : Memory) (x : List ℕ) → found part (cond b (settle part x) (step part s x)) x ≡ no_findings
choice_quiet true part s x = settled_quiet part x
choice_quiet false part s x = stepped_quiet part s x

-- after a unit, a further step with the same levels changes nothing, and nothing is found at it
pub next_stays : (part : AnyModule) (s : Memory) (x : List ℕ) (t u : ℕ) → 0 < u → next_state part (next_state part s x t) x u ≡ next_state part s x t
next_stays part s x t u later =
    let no : (u == 0) ≡ false = grind (arith, nat_tests) in
    rw no (choice_stays (t == 0) part s x)

pub next_quiet : (part : AnyModule) (s : Memory) (x : List ℕ) (t u : ℕ) → 0 < u → found_at part (next_state part s x t) x u ≡ no_findings
next_quiet part s x t u later =
    let no : (u == 0) ≡ false = grind (arith, nat_tests) in
    rw no (choice_quiet (t == 0) part s x)

pub state_more : (part : AnyModule) (x : ℕ → List ℕ) (s : Memory) (a k : ℕ) → state_after part x s a (k + 1) ≡ next_state part (state_after part x s a k) (x (a + k)) (a + k)
unfolding state_after
state_more part x s a k = rw add-one refl

pub changes_more : (level : ℕ → ℕ) (a k : ℕ) → output_changes level a (k + 1) ≡ extended (output_changes level a k) (a + k) (level k) (level (k + 1))
unfolding output_changes
changes_more level a k = rw add-one refl

pub findings_more : (part : AnyModule) (x : ℕ → List ℕ) (s : Memory) (a k : ℕ) → findings_in part x s a (k + 1) ≡ findings_in part x s a k ++ findings_of (a + k) (found_at part (state_after part x s a k) (x (a + k)) (a + k))
unfolding findings_in
findings_more part x s a k = rw add-one refl

-- after the unit k, units with the same levels change nothing
pub state_quiet : (part : AnyModule) (x : ℕ → List ℕ) (s : Memory) (a k j : ℕ) → ((i : ℕ) → i < j → x (a + k + 1 + i) ≡ x (a + k)) → state_after part x s a (k + 1 + j) ≡ state_after part x s a (k + 1)
state_quiet part x s a k zero same = let e : k + 1 + 0 ≡ k + 1 = omega arith in rw e refl
state_quiet part x s a k (suc j) same =
    let e : k + 1 + suc j ≡ k + 1 + j + 1 = omega arith in
    let before = state_quiet part x s a k j (λ i below. same i (omega arith)) in
    let now : x (a + (k + 1 + j)) ≡ x (a + k) = (let q : a + (k + 1 + j) ≡ a + k + 1 + j = omega arith in rw q (same j (omega arith))) in
    let u = a + (k + 1 + j) in
    ap (state_after part x s a) e
    ∙ state_more part x s a (k + 1 + j)
    ∙ ap (λ (z : Memory). next_state part z (x u) u) before
    ∙ ap (λ (z : List ℕ). next_state part (state_after part x s a (k + 1)) z u) now
    ∙ ap (λ (z : Memory). next_state part z (x (a + k)) u) (state_more part x s a k)
    ∙ next_stays part (state_after part x s a k) (x (a + k)) (a + k) u (omega arith)
    ∙ sym (state_more part x s a k)

-- nothing is found at them
found_quiet : (part : AnyModule) (x : ℕ → List ℕ) (s : Memory) (a k j : ℕ) → ((i : ℕ) → i ≤ j → x (a + k + 1 + i) ≡ x (a + k)) → found_at part (state_after part x s a (k + 1 + j)) (x (a + (k + 1 + j))) (a + (k + 1 + j)) ≡ no_findings
found_quiet part x s a k j same =
    let u = a + (k + 1 + j) in
    let now : x u ≡ x (a + k) = (let q : u ≡ a + k + 1 + j = omega arith in rw q (same j (omega arith))) in
    ap (λ (z : Memory). found_at part z (x u) u) (state_quiet part x s a k j (λ i below. same i (omega arith)) ∙ state_more part x s a k)
    ∙ ap (λ (z : List ℕ). found_at part (next_state part (state_after part x s a k) (x (a + k)) (a + k)) z u) now
    ∙ next_quiet part (state_after part x s a k) (x (a + k)) (a + k) u (omega arith)

none_found : (t : ℕ) → findings_of t no_findings ≡ []
unfolding findings_of
none_found t = refl

pub findings_quiet : (part : AnyModule) (x : ℕ → List ℕ) (s : Memory) (a k j : ℕ) → ((i : ℕ) → i < j → x (a + k + 1 + i) ≡ x (a + k)) → findings_in part x s a (k + 1 + j) ≡ findings_in part x s a (k + 1)
findings_quiet part x s a k zero same = let e : k + 1 + 0 ≡ k + 1 = omega arith in rw e refl
findings_quiet part x s a k (suc j) same =
    let e : k + 1 + suc j ≡ k + 1 + j + 1 = omega arith in
    let u = a + (k + 1 + j) in
    let before = findings_in part x s a (k + 1 + j) in
    ap (findings_in part x s a) e
    ∙ findings_more part x s a (k + 1 + j)
    ∙ ap (λ (set : FindingSet). before ++ findings_of u set) (found_quiet part x s a k j (λ i below. same i (omega arith)))
    ∙ ap (λ (fs : List (ℕ × FindingCode)). before ++ fs) (none_found u)
    ∙ append-nil before
    ∙ findings_quiet part x s a k j (λ i below. same i (omega arith))

quiet_extended : (changes : List (ℕ × ℕ)) (t before now : ℕ) → 0 < t → before ≡ now → extended changes t before now ≡ changes
quiet_extended changes t before now later same =
    let no : (t == 0) ≡ false = grind (arith, nat_tests) in
    let yes : (before == now) ≡ true = grind (arith, nat_tests) in
    rw (no, yes) refl

-- and they add no changes
pub changes_quiet : (level : ℕ → ℕ) (a k j : ℕ) → ((i : ℕ) → i ≤ j → level (k + 1 + i) ≡ level (k + 1)) → output_changes level a (k + 1 + j) ≡ output_changes level a (k + 1)
changes_quiet level a k zero same = let e : k + 1 + 0 ≡ k + 1 = omega arith in rw e refl
changes_quiet level a k (suc j) same =
    let e : k + 1 + suc j ≡ k + 1 + j + 1 = omega arith in
    let before = changes_quiet level a k j (λ i below. same i (omega arith)) in
    let last : level (k + 1 + j + 1) ≡ level (k + 1) = rw (← e) (same (suc j) (omega arith)) in
    let here = same j (omega arith) in
    ap (output_changes level a) e
    ∙ changes_more level a (k + 1 + j)
    ∙ quiet_extended (output_changes level a (k + 1 + j)) (a + (k + 1 + j)) (level (k + 1 + j)) (level (k + 1 + j + 1)) (omega arith) (here ∙ sym last)
    ∙ before

-- the span up to a unit and a unit more is the span up to the next
pub span_more : (part : AnyModule) (x : ℕ → List ℕ) (s : Memory) (a t : ℕ) (old new : Piece) → a ≤ t → IsSpan part x s a t old → IsUnitMore part (x t) t old new → IsSpan part x s a (t + 1) new
span_more part x s a t old new le span unit =
    let k = t - a in
    let at : a + k ≡ t = omega arith in
    let more : t + 1 - a ≡ k + 1 = omega arith in
    let one : next_state part (state_after part x s a k) (x (a + k)) (a + k) ≡ next_state part (state_after part x s a k) (x t) t = ap (λ (v : ℕ). next_state part (state_after part x s a k) (x v) v) at in
    let now : new.memory ≡ state_after part x s a (k + 1) =
    unit.memory ∙ ap (λ (z : Memory). next_state part z (x t) t) span.memory ∙ sym (state_more part x s a k ∙ one) in
    let level : ℕ → ℕ → ℕ = λ p j. output_of (state_after part x s a j) p in
    record {
      memory = now ∙ ap (state_after part x s a) (sym more);
      ports = unit.ports ∙ span.ports;
      outputs = λ p below.
          unit.outputs p (omega (arith, span.ports))
          ∙ ap (λ (cs : List (ℕ × ℕ)). extended cs t (output_of old.memory p) (output_of new.memory p)) (span.outputs p below)
          ∙ ap (λ (m : Memory). extended (output_changes (level p) a k) t (output_of m p) (output_of new.memory p)) span.memory
          ∙ ap (λ (m : Memory). extended (output_changes (level p) a k) t (level p k) (output_of m p)) now
          ∙ ap (λ (v : ℕ). extended (output_changes (level p) a k) v (level p k) (level p (k + 1))) (sym at)
          ∙ sym (changes_more (level p) a k)
          ∙ ap (output_changes (level p) a) (sym more);
      findings =
          unit.findings
          ∙ ap (λ (fs : List (ℕ × FindingCode)). fs ++ findings_of t (found_at part old.memory (x t) t)) span.findings
          ∙ ap (λ (m : Memory). findings_in part x s a k ++ findings_of t (found_at part m (x t) t)) span.memory
          ∙ ap (λ (v : ℕ). findings_in part x s a k ++ findings_of v (found_at part (state_after part x s a k) (x v) v)) (sym at)
          ∙ sym (findings_more part x s a k)
          ∙ ap (findings_in part x s a) (sym more);
    }

-- and it is the span up to the next time at which the inputs differ
pub span_quiet : (part : AnyModule) (x : ℕ → List ℕ) (s : Memory) (a t next : ℕ) (piece : Piece) → a ≤ t → t < next → ((u : ℕ) → t ≤ u → u < next → x u ≡ x t) → IsSpan part x s a (t + 1) piece → IsSpan part x s a next piece
span_quiet part x s a t next piece le lt same span =
    let k = t - a in
    let j = next - t - 1 in
    let more : t + 1 - a ≡ k + 1 = omega arith in
    let all : k + 1 + j ≡ next - a = omega arith in
    let at : a + k ≡ t = omega arith in
    let quiet : (i : ℕ) → i < j → x (a + k + 1 + i) ≡ x (a + k) = λ i below. (rw at (same (t + 1 + i) (omega arith) (omega arith))) in
    let states : (i : ℕ) → i ≤ j → state_after part x s a (k + 1 + i) ≡ state_after part x s a (k + 1) = λ i below. state_quiet part x s a k i (λ h less. quiet h (omega arith)) in
    record {
      memory = span.memory ∙ ap (state_after part x s a) more ∙ sym (states j (omega arith)) ∙ ap (state_after part x s a) all;
      ports = span.ports;
      outputs = λ p below.
          span.outputs p below
          ∙ ap (λ n. port_changes part x s a n p) more
          ∙ sym (changes_quiet (λ n. output_of (state_after part x s a n) p) a k j (λ i few. ap (λ (z : Memory). output_of z p) (states i few)))
          ∙ ap (λ n. port_changes part x s a n p) all;
      findings =
          span.findings ∙ ap (findings_in part x s a) more ∙ sym (findings_quiet part x s a k j quiet) ∙ ap (findings_in part x s a) all;
    }

pub state_none : (part : AnyModule) (x : ℕ → List ℕ) (s : Memory) (a : ℕ) → state_after part x s a 0 ≡ s
unfolding state_after
state_none part x s a = refl

changes_none : (level : ℕ → ℕ) (a : ℕ) → [] ≡ output_changes level a 0
unfolding output_changes
changes_none level a = refl

pub findings_none : (part : AnyModule) (x : ℕ → List ℕ) (s : Memory) (a : ℕ) → [] ≡ findings_in part x s a 0
unfolding findings_in
findings_none part x s a = refl

-- a span of no unit
pub span_none : (part : AnyModule) (x : ℕ → List ℕ) (s : Memory) (a : ℕ) (piece : Piece) → piece.memory ≡ s → length piece.outputs ≡ output_count (kind_of part) → ((p : ℕ) → slice_index_or piece.outputs p [] ≡ []) → piece.findings ≡ [] → IsSpan part x s a a piece
span_none part x s a piece memory ports outputs findings =
    let none : 0 ≡ a - a = omega arith in
    record {
      memory = memory ∙ sym (state_none part x s a) ∙ ap (state_after part x s a) none;
      ports = ports;
      outputs = λ p below.
          outputs p ∙ changes_none (λ j. output_of (state_after part x s a j) p) a ∙ ap (λ n. port_changes part x s a n p) none;
      findings = findings ∙ findings_none part x s a ∙ ap (findings_in part x s a) none;
    }
