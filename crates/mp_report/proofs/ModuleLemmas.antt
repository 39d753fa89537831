-- Lemmas on what is found at modules.
use Rattle.mp_report.proofs.Names.{◌≡◌, ◌-◌, ◌<◌, ◌≤◌, ℕ, List, [], Some, None, flat_map, suc, ap, ◌∙◌, arith, range_with_len, nat_tests, FindingCode, Memory, no_findings, Circuit, IsCircuit, module_at, built, inputs_by, level, state, module_place, start, found, any_part_of, IsSpan, findings_of, found_at, codes_at, found_over, ModuleRecord}
use Rattle.mp_model.proofs.BehaviourLemmas.{satisfies}
use Rattle.mp_model.proofs.BuiltLemmas.{width_of_module}
use Rattle.mp_model.specs.response.Delays.{state_before}
use Rattle.mp_model.specs.declared.response.piece.Piece.{Piece}
use Rattle.mp_model.proofs.lemmas.response.DelayLemmas.{finds_by_states}
use Rattle.mp_model.proofs.lemmas.response.JoinLemmas.{inside_alone}
use Rattle.mp_report.proofs.TimeLemmas.{told_none, told_same_from}

-- what is found over a span of all times
module_over : (n : Circuit) (m : ℕ) (r : ModuleRecord) → module_at n m ≡ Some r → 1 ≤ n.horizon
    → flat_map (λ t. findings_of t (found_at (built n r) (state_before (built n r) (state n m) t) (inputs_by n (level n) r t) t)) (range_with_len 0 (n.horizon - 0)) ≡ found_over n (module_place m)
unfolding found_over findings_of
module_over n m r at some =
    let told : ℕ → List (ℕ × FindingCode) = λ t. findings_of t (found_at (built n r) (state_before (built n r) (state n m) t) (inputs_by n (level n) r t) t) in
    let whole : n.horizon - 0 ≡ suc (n.horizon - 1) = omega (arith, some) in
    ap (λ k. flat_map told (range_with_len 0 k)) whole ∙ told_same_from told (codes_at n (module_place m)) 1 (n.horizon - 1) (λ t low high. grind (arith, nat_tests))

-- the findings of a module's answer over all times
pub answer_over : (n : Circuit) → IsCircuit n → (m : ℕ) (r : ModuleRecord) (x : ℕ → List ℕ) (piece : Piece) → module_at n m ≡ Some r → ((t : ℕ) → t < n.horizon → x t ≡ inputs_by n (level n) r t)
    → IsSpan (built n r) x (start (built n r)) 0 n.horizon piece → piece.findings ≡ found_over n (module_place m)
answer_over n ok m r x piece at hears span =
    finds_by_states n (level n) (state n) (satisfies n ok) m 0 n.horizon r piece at (inside_alone (built n r) x (inputs_by n (level n) r) (start (built n r)) 0 n.horizon piece (λ t low high. hears t high) span)
    ∙ module_over n m r at ok.horizon_low

-- nothing is found where none stands
pub no_module_over : (n : Circuit) (m : ℕ) → module_at n m ≡ None → [] ≡ found_over n (module_place m)
unfolding found_over
no_module_over n m at = grind (arith, nat_tests, told_none)

-- nothing is found where the module's table finds nothing, whatever its state
pub quiet_module_over : (n : Circuit) (m : ℕ) (r : ModuleRecord) → module_at n m ≡ Some r
    → ((params : List ℕ) (width : ℕ) (s : Memory) (x : List ℕ) → found (any_part_of r.kind params width) s x ≡ no_findings) → [] ≡ found_over n (module_place m)
unfolding found_over
quiet_module_over n m r at quiet = grind (arith, nat_tests, told_none)

pub ruleset found_at_module_steps = (width_of_module, no_module_over, quiet_module_over)
