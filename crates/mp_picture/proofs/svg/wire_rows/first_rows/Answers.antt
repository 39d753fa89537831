use Rattle.std.proofs.Common.{◌≡◌, ◌+◌, ◌<◌, ◌-◌, ◌==◌, ℕ, Bool, Option, Some, cond, length, get_or, sym, ap, ◌∙◌, arith}
use Rattle.std.proofs.Math.Seq.{drop-length}
use Rattle.std.specs.BTreeMap.{get, is_at}
use Rattle.std.specs.Cmp.{unsigned_tied}
use Rattle.std.specs.List.{position_from}
use Rattle.std.specs.Map.{lookup}
use Rattle.std.specs.Ordering.{nat_cmp}
use Rattle.mp_records.specs.declared.ids.WireId.{WireId}
use Rattle.mp_picture.proofs.lemmas.svg.MarkLemmas.{first_sooner, first_of_all}
use Rattle.mp_picture.proofs.svg.wire_rows.first_rows.Goals as goal

abbrev none : WireId
none = record { 0 = 0 }

abbrev test : ℕ → WireId → Bool
test w v = v.0 == w

pub loop-left-init : goal.loop-left-init
loop-left-init c = record {
  within = omega arith;
  firsts = λ w. ap (lookup (is_at (nat_cmp w))) c.new-firsts.ensures.empty ∙ sym (ap (position_from (test w) (length c.args.wires.now)) (drop-length c.args.wires.now));
}

pub loop-left-preserved : goal.loop-left-preserved
loop-left-preserved c =
    let left = c.loop-left.left in
    let k = left - 1 in
    let is : left ≡ k + 1 = omega (arith, c.loop-left-test.true) in
    let low : k < length c.args.wires.now = omega (arith, is, c.loop-left.invariant.within) in
    let v = get_or c.args.wires.now k none in
    record {
      within = omega (arith, low);
      firsts = λ w.
          c.in_ok-insert.ensures.updates.0 w
          ∙ ap (λ (b : Bool). cond b (Some k) (get nat_cmp c.loop-left.firsts w)) (unsigned_tied v.0 w)
          ∙ ap (λ (o : Option ℕ). cond (test w v) (Some k) o) (c.loop-left.invariant.firsts w)
          ∙ first_sooner (test w) c.args.wires.now left k none is low;
    }

pub returns : goal.returns
returns c = λ w.
    let over : c.loop-left.left ≡ 0 = omega (arith, c.loop-left-test.false) in
    c.loop-left.invariant.firsts w ∙ first_of_all (test w) c.args.wires.now c.loop-left.left over
