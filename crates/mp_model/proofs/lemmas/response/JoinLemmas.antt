-- Lemmas on spans end to end.
use Rattle.std.proofs.Common.{◌≡◌, ℕ, ◌+◌, ◌-◌, ◌<◌, ◌≤◌, Bool, true, false, cond, List, [], ◌∷◌, ◌++◌, slice_index_or, ◌==◌, zero, suc, refl, ap, sym, ◌∙◌, arith, add-zero, add-suc, add_assoc, append-nil, append_assoc, length}
use Rattle.mp_modules.specs.Memories.{output_of}
use Rattle.mp_modules.specs.declared.finding_code.FindingCode.{FindingCode}
use Rattle.mp_modules.specs.declared.memory.Memory.{Memory}
use Rattle.mp_modules.specs.declared.storage.any_module.AnyModule.{AnyModule}
use Rattle.mp_model.specs.response.Span.{next_state, found_at, state_after, findings_of, findings_in, extended, output_changes, port_changes}
use Rattle.mp_model.specs.response.Joins.{JoinsSpans, DependsInside, IsOneSpan}
use Rattle.mp_model.specs.declared.response.piece.Piece.{Piece}

-- the state after two runs of units
pub state_join : (part : AnyModule) (x : ℕ → List ℕ) (s : Memory) (a j k : ℕ) → state_after part x s a (j + k) ≡ state_after part x (state_after part x s a j) (a + j) k
unfolding state_after
state_join part x s a j zero = ap (state_after part x s a) (add-zero j)
state_join part x s a j (suc k) =
    rw (add-suc j k)
    (ap (λ (z : Memory). next_state part z (x (a + (j + k))) (a + (j + k))) (state_join part x s a j k)
    ∙ ap (λ (u : ℕ). next_state part (state_after part x (state_after part x s a j) (a + j) k) (x u) u) (sym (add_assoc a j k)))

pub findings_join : (part : AnyModule) (x : ℕ → List ℕ) (s : Memory) (a j k : ℕ) → findings_in part x s a (j + k) ≡ findings_in part x s a j ++ findings_in part x (state_after part x s a j) (a + j) k
unfolding findings_in
findings_join part x s a j zero = ap (findings_in part x s a) (add-zero j) ∙ sym (append-nil (findings_in part x s a j))
findings_join part x s a j (suc k) =
    let first = findings_in part x s a j in
    let then = state_after part x s a j in
    rw (add-suc j k)
    (ap (λ (fs : List (ℕ × FindingCode)). fs ++ findings_of (a + (j + k)) (found_at part (state_after part x s a (j + k)) (x (a + (j + k))) (a + (j + k)))) (findings_join part x s a j k)
    ∙ ap (λ (z : Memory). (first ++ findings_in part x then (a + j) k) ++ findings_of (a + (j + k)) (found_at part z (x (a + (j + k))) (a + (j + k)))) (state_join part x s a j k)
    ∙ ap (λ (u : ℕ). (first ++ findings_in part x then (a + j) k) ++ findings_of u (found_at part (state_after part x then (a + j) k) (x u) u)) (sym (add_assoc a j k))
    ∙ append_assoc first (findings_in part x then (a + j) k) (findings_of (a + j + k) (found_at part (state_after part x then (a + j) k) (x (a + j + k)) (a + j + k))))

cond_append : (first same : Bool) (xs ys zs : List (ℕ × ℕ)) → cond first ((xs ++ ys) ++ zs) (cond same (xs ++ ys) ((xs ++ ys) ++ zs)) ≡ xs ++ cond first (ys ++ zs) (cond same ys (ys ++ zs))
cond_append true same xs ys zs = append_assoc xs ys zs
cond_append false true xs ys zs = refl
cond_append false false xs ys zs = append_assoc xs ys zs

-- one more unit of changes behind others
extended_append : (xs ys : List (ℕ × ℕ)) (t before now : ℕ) → extended (xs ++ ys) t before now ≡ xs ++ extended ys t before now
extended_append xs ys t before now = cond_append (t == 0) (before == now) xs ys ((t, now) ∷ [])

-- the changes after two runs of units
pub changes_join : (level then : ℕ → ℕ) (a j k : ℕ) → ((i : ℕ) → i ≤ k → level (j + i) ≡ then i) → output_changes level a (j + k) ≡ output_changes level a j ++ output_changes then (a + j) k
unfolding output_changes
changes_join level then a j zero same = ap (output_changes level a) (add-zero j) ∙ sym (append-nil (output_changes level a j))
changes_join level then a j (suc k) same =
    let first = output_changes level a j in
    let here : level (j + k) ≡ then k = same k (omega arith) in
    let next : level (suc (j + k)) ≡ then (suc k) = ap level (sym (add-suc j k)) ∙ same (suc k) (omega arith) in
    rw (add-suc j k)
    (ap (λ (cs : List (ℕ × ℕ)). extended cs (a + (j + k)) (level (j + k)) (level (suc (j + k)))) (changes_join level then a j k (λ i le. same i (omega arith)))
    ∙ ap (λ (v : ℕ). extended (first ++ output_changes then (a + j) k) (a + (j + k)) v (level (suc (j + k)))) here
    ∙ ap (λ (v : ℕ). extended (first ++ output_changes then (a + j) k) (a + (j + k)) (then k) v) next
    ∙ ap (λ (u : ℕ). extended (first ++ output_changes then (a + j) k) u (then k) (then (suc k))) (sym (add_assoc a j k))
    ∙ extended_append first (output_changes then (a + j) k) (a + j + k) (then k) (then (suc k)))

pub joined_spans : JoinsSpans
joined_spans part x s a m b one other joined low high span next join =
    let j = m - a in
    let k = b - m in
    let all : j + k ≡ b - a = omega arith in
    let at : a + j ≡ m = omega arith in
    let then = state_after part x s a j in
    let goes_on : state_after part x one.memory m k ≡ state_after part x s a (j + k) =
    ap (λ (z : Memory). state_after part x z m k) span.memory ∙ ap (λ u. state_after part x then u k) (sym at) ∙ sym (state_join part x s a j k) in
    record {
      memory = join.memory ∙ next.memory ∙ goes_on ∙ ap (state_after part x s a) all;
      ports = join.ports ∙ span.ports;
      outputs = λ p below.
          let level : ℕ → ℕ = λ i. output_of (state_after part x s a i) p in
          let later : ℕ → ℕ = λ i. output_of (state_after part x then (a + j) i) p in
          join.outputs p (omega (arith, span.ports))
          ∙ ap (λ (cs : List (ℕ × ℕ)). cs ++ slice_index_or other.outputs p []) (span.outputs p below)
          ∙ ap (λ (cs : List (ℕ × ℕ)). output_changes level a j ++ cs) (next.outputs p below)
          ∙ ap (λ (z : Memory). output_changes level a j ++ port_changes part x z m k p) span.memory
          ∙ ap (λ (u : ℕ). output_changes level a j ++ port_changes part x then u k p) (sym at)
          ∙ sym (changes_join level later a j k (λ i le. ap (λ (z : Memory). output_of z p) (state_join part x s a j i)))
          ∙ ap (output_changes level a) all;
      findings =
          join.findings
          ∙ ap (λ (fs : List (ℕ × FindingCode)). fs ++ other.findings) span.findings
          ∙ ap (λ (fs : List (ℕ × FindingCode)). findings_in part x s a j ++ fs) next.findings
          ∙ ap (λ (z : Memory). findings_in part x s a j ++ findings_in part x z m k) span.memory
          ∙ ap (λ (u : ℕ). findings_in part x s a j ++ findings_in part x then u k) (sym at)
          ∙ sym (findings_join part x s a j k)
          ∙ ap (findings_in part x s a) all;
    }

-- the state depends on the input levels of its units alone
state_inside : (part : AnyModule) (x y : ℕ → List ℕ) (s : Memory) (a k : ℕ) → ((i : ℕ) → i < k → x (a + i) ≡ y (a + i)) → state_after part x s a k ≡ state_after part y s a k
unfolding state_after
state_inside part x y s a zero same = refl
state_inside part x y s a (suc k) same =
    ap (λ (z : Memory). next_state part z (x (a + k)) (a + k)) (state_inside part x y s a k (λ i lt. same i (omega arith)))
    ∙ ap (λ (levels : List ℕ). next_state part (state_after part y s a k) levels (a + k)) (same k (omega arith))

findings_inside : (part : AnyModule) (x y : ℕ → List ℕ) (s : Memory) (a k : ℕ) → ((i : ℕ) → i < k → x (a + i) ≡ y (a + i)) → findings_in part x s a k ≡ findings_in part y s a k
unfolding findings_in
findings_inside part x y s a zero same = refl
findings_inside part x y s a (suc k) same =
    ap (λ (fs : List (ℕ × FindingCode)). fs ++ findings_of (a + k) (found_at part (state_after part x s a k) (x (a + k)) (a + k))) (findings_inside part x y s a k (λ i lt. same i (omega arith)))
    ∙ ap (λ (z : Memory). findings_in part y s a k ++ findings_of (a + k) (found_at part z (x (a + k)) (a + k))) (state_inside part x y s a k (λ i lt. same i (omega arith)))
    ∙ ap (λ (levels : List ℕ). findings_in part y s a k ++ findings_of (a + k) (found_at part (state_after part y s a k) levels (a + k))) (same k (omega arith))

-- changes depend on the levels of their units alone
changes_inside : (level then : ℕ → ℕ) (a k : ℕ) → ((i : ℕ) → i ≤ k → level i ≡ then i) → output_changes level a k ≡ output_changes then a k
unfolding output_changes
changes_inside level then a zero same = refl
changes_inside level then a (suc k) same =
    ap (λ (cs : List (ℕ × ℕ)). extended cs (a + k) (level k) (level (suc k))) (changes_inside level then a k (λ i le. same i (omega arith)))
    ∙ ap (λ (v : ℕ). extended (output_changes then a k) (a + k) v (level (suc k))) (same k (omega arith))
    ∙ ap (λ (v : ℕ). extended (output_changes then a k) (a + k) (then k) v) (same (suc k) (omega arith))

pub inside_alone : DependsInside
inside_alone part x y s a b piece same span =
    let k = b - a in
    let units : (i : ℕ) → i < k → x (a + i) ≡ y (a + i) = λ i lt. same (a + i) (omega arith) (omega arith) in
    record {
      memory = span.memory ∙ state_inside part x y s a k units;
      ports = span.ports;
      outputs = λ p below.
          span.outputs p below
          ∙ changes_inside (λ i. output_of (state_after part x s a i) p) (λ i. output_of (state_after part y s a i) p) a k
          (λ i le. ap (λ (z : Memory). output_of z p) (state_inside part x y s a i (λ h lt. units h (omega arith))));
      findings = span.findings ∙ findings_inside part x y s a k units;
    }

-- as many lists of changes, the same at each place, are the same
same_ports : (xs ys : List (List (ℕ × ℕ))) → length xs ≡ length ys → ((p : ℕ) → p < length xs → slice_index_or xs p [] ≡ slice_index_or ys p []) → xs ≡ ys
same_ports [] [] count each = refl
same_ports [] (y ∷ ys) count each = absurd (omega arith)
same_ports (x ∷ xs) [] count each = absurd (omega arith)
same_ports (x ∷ xs) (y ∷ ys) count each =
    let first : x ≡ y = each 0 (omega arith) in
    let rest : xs ≡ ys = same_ports xs ys (omega arith) (λ p lt. each (suc p) (omega arith)) in
    ap (λ (z : List (ℕ × ℕ)). z ∷ xs) first ∙ ap (λ (zs : List (List (ℕ × ℕ))). y ∷ zs) rest

abbrev piece_of : Memory → List (List (ℕ × ℕ)) → List (ℕ × FindingCode) → Piece
piece_of memory outputs findings = record { memory = memory; outputs = outputs; findings = findings }

pub one_span : IsOneSpan
one_span part x s a b one other first second =
    let ports : length one.outputs ≡ length other.outputs = first.ports ∙ sym second.ports in
    let outputs : one.outputs ≡ other.outputs =
    same_ports one.outputs other.outputs ports (λ p lt. first.outputs p (omega (arith, first.ports)) ∙ sym (second.outputs p (omega (arith, first.ports)))) in
    ap (λ (m : Memory). piece_of m one.outputs one.findings) (first.memory ∙ sym second.memory)
    ∙ ap (λ (os : List (List (ℕ × ℕ))). piece_of other.memory os one.findings) outputs
    ∙ ap (λ (fs : List (ℕ × FindingCode)). piece_of other.memory other.outputs fs) (first.findings ∙ sym second.findings)
