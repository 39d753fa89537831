use Rattle.std.proofs.Common.{◌≡◌, ◌+◌, ◌<◌, ◌-◌, ℕ, Bool, Option, Some, cond, length, get_or, sym, ap, ◌∙◌, arith}
use Rattle.std.proofs.Math.Seq.{drop-length}
use Rattle.std.specs.List.{position_from}
use Rattle.mp_modules.specs.declared.finding_code.FindingCode.{FindingCode}
use Rattle.mp_modules.specs.declared.finding_code.FindingCode.TheVariants.{MergeCollision}
use Rattle.mp_model.specs.declared.finding.Place.{Place}
use Rattle.mp_model.specs.Findings.{module_place}
use Rattle.mp_picture.specs.declared.svg.mark_rows.MarkRow.{MarkRow}
use Rattle.mp_picture.specs.svg.MarkNumbers.{is_mark}
use Rattle.mp_picture.proofs.lemmas.svg.MarkLemmas.{first_sooner, first_of_all}
use Rattle.mp_picture.proofs.svg.mark_rows.first_rows.Goals as goal

abbrev none : MarkRow
none = record { place = module_place 0; code = MergeCollision; last = 0 }

abbrev test : Place → FindingCode → MarkRow → Bool
test place code r = is_mark r.place r.code place code

pub loop-left-init : goal.loop-left-init
loop-left-init c = record {
  within = omega arith;
  firsts = λ place code.
      c.new-firsts.ensures place code ∙ sym (ap (position_from (test place code) (length c.args.rows.now)) (drop-length c.args.rows.now));
}

pub loop-left-preserved : goal.loop-left-preserved
loop-left-preserved c =
    let left = c.loop-left.left in
    let k = left - 1 in
    let is : left ≡ k + 1 = omega (arith, c.loop-left-test.true) in
    let low : k < length c.args.rows.now = omega (arith, is, c.loop-left.invariant.within) in
    record {
      within = omega (arith, low);
      firsts = λ place code.
          c.in_ok-set.ensures place code
          ∙ ap (λ (o : Option ℕ). cond (test place code (get_or c.args.rows.now k none)) (Some k) o) (c.loop-left.invariant.firsts place code)
          ∙ first_sooner (test place code) c.args.rows.now left k none is low;
    }

pub returns : goal.returns
returns c = λ place code.
    let over : c.loop-left.left ≡ 0 = omega (arith, c.loop-left-test.false) in
    c.loop-left.invariant.firsts place code ∙ first_of_all (test place code) c.args.rows.now c.loop-left.left over
