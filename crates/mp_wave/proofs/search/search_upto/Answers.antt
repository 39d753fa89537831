use Rattle.std.proofs.Common.{◌≡◌, ◌-◌, ℕ, Bool, true, false, List, nat_le, slice_index_or, inl, inr, subst, sym, arith}
use Rattle.std.proofs.lemmas.Bool.{cases_lt, le-leb}
use Rattle.std.specs.List.Sorted.{IsNonDecreasingBy}
use Rattle.mp_wave.specs.WaveChanges.{changes_in}
use Rattle.mp_wave.proofs.SearchLemmas.{drop_sorted, behind, length_behind}
use Rattle.mp_wave.proofs.search.search_upto.Goals as goal

abbrev Is : ℕ → Bool → ℕ × ℕ → Type 0
Is time answer c = nat_le c.0 time ≡ answer

pub search_upto-requires : goal.search_upto-requires
search_upto-requires c =
    subst (λ (xs : List (ℕ × ℕ)). IsNonDecreasingBy (λ (p : ℕ × ℕ). p.0) xs) (sym c.from_place.ensures) (drop_sorted (λ (p : ℕ × ℕ). p.0) (changes_in c.args.changes) c.passed_but-first.result c.requires)

pub returns-clause-early : goal.returns-clause-early
returns-clause-early c = λ k d low less. elim (cases_lt k c.passed_but-first.result) as (λ _. nat_le (slice_index_or (changes_in c.args.changes) k d).0 c.args.time ≡ true) [
  | inl before ↦ le-leb _ c.args.time (c.passed_but-first.ensures.early k d low before)
  | inr past ↦ behind (Is c.args.time true) (changes_in c.args.changes) (changes_in c.from_place.result) c.passed_but-first.result k d c.from_place.ensures past
      (c.search_upto.ensures.early (k - c.passed_but-first.result) d (omega arith) (omega (arith, past, less)))
]

pub returns-clause-late : goal.returns-clause-late
returns-clause-late c = λ k d low less.
    let first = c.passed_but-first.result in
    let rest = length_behind (changes_in c.args.changes) (changes_in c.from_place.result) first c.from_place.ensures in
    behind (Is c.args.time false) (changes_in c.args.changes) (changes_in c.from_place.result) first k d c.from_place.ensures (omega (arith, low))
    (c.search_upto.ensures.late (k - first) d (omega (arith, low)) (omega (arith, low, less, rest)))

pub overflow_add-result : goal.overflow_add-result
overflow_add-result c =
    let first = c.passed_but-first.result in
    let rest = length_behind (changes_in c.args.changes) (changes_in c.from_place.result) first c.from_place.ensures in
    omega (arith, rest, c.passed_but-first.ensures.bound, c.search_upto.ensures.bound, c.len.ensures, c.len.type_inv)
