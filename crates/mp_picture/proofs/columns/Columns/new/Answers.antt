use Rattle.std.proofs.Common.{◌≡◌, ℕ, ◌+◌, ◌<◌, ◌≤◌, max, ap, ap₂, ◌∙◌, arith}
use Rattle.mp_picture.specs.RoundNumbers.{rounded_down, units_of}
use Rattle.mp_picture.proofs.RoundLemmas.{round_some, units_round, units_enough, units_fewest}
use Rattle.mp_picture.proofs.SameColumnLemmas.{same_columns}
use Rattle.mp_picture.proofs.columns.Columns.new.Goals as goal

some_units : (from to most units : ℕ) → units ≡ units_of from to most → 0 < units
some_units from to most units is = rw is (round_some (units_of from to most) (units_round from to most))

pub nonzero_rem-from : goal.nonzero_rem-from
nonzero_rem-from c = some_units c.min-from.result c.max-to.result c.args.most c.units_of-units.result c.units_of-units.ensures

pub invariant_of-result : goal.invariant_of-result
invariant_of-result c = record {
  some = omega (arith, c.max-to.ensures);
  wide = some_units c.min-from.result c.max-to.result c.args.most c.units_of-units.result c.units_of-units.ensures;
}

pub returns-clause-round : goal.returns-clause-round
returns-clause-round c = rw c.units_of-units.ensures (units_round c.min-from.result c.max-to.result c.args.most)

pub returns-clause-enough : goal.returns-clause-enough
returns-clause-enough c =
    let low : c.max-to.result ≤ 1073741824 = omega (arith, c.max-to.ensures, c.min.ensures, c.min-from.ensures) in
    rw c.units_of-units.ensures (units_enough c.min-from.result c.max-to.result c.args.most low c.requires.some)

pub returns-clause-fewest : goal.returns-clause-fewest
returns-clause-fewest c = λ k round enough.
    let from = rw (← c.min-from.ensures) at enough in
    rw c.units_of-units.ensures (units_fewest c.min-from.result c.max-to.result c.args.most k round from)

pub returns-clause-value : goal.returns-clause-value
returns-clause-value c =
    let from = c.min-from.ensures in
    let to = c.max-to.ensures ∙ ap₂ (λ x y. max x (y + 1)) c.min.ensures from in
    let units = c.units_of-units.ensures ∙ ap₂ (λ x y. units_of x y c.args.most) from to in
    let wide = some_units c.min-from.result c.max-to.result c.args.most c.units_of-units.result c.units_of-units.ensures in
    let same : c.units_of-units.result ≡ max 1 c.units_of-units.result = omega (arith, wide) in
    let k = same ∙ ap (max 1) units in
    same_columns _ _ _ _ _ _ _ _ _ _ (ap₂ (λ x y. rounded_down y x) from k) to k
