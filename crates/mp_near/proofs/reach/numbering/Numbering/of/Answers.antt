use Rattle.std.proofs.Common.{◌≡◌, ℕ, ◌+◌, List, [], ◌∷◌, ◌++◌, length, ap, sym, subst, ◌∙◌, rules, arith}
use Rattle.mp_near.specs.reach.Numbers.{AreNumbered}
use Rattle.mp_near.proofs.lemmas.reach.NumberLemmas.{numbered_same, numbered_more}
use Rattle.mp_near.proofs.reach.numbering.Numbering.of.Goals as goal
use Rattle.mp_near.proofs.reach.numbering.Numbering.of.Goals.{then-marks-number+in_ok-push-2, else-marks-number}

pub overflow_cast-len : goal.overflow_cast-len
overflow_cast-len c = let few = c.loop-number.invariant.few in let size = c.len.ensures in let all = c.requires in let low = c.loop-number-test.true in omega (arith, few, size, all, low)

pub loop-number-preserved : goal.loop-number-preserved
loop-number-preserved c =
    let marks = c.args.marks.now in
    let i = c.loop-number.number in
    let numbers = c.loop-number.numbers.items in
    let places = c.loop-number.places.items in
    let size : c.len.result ≡ length numbers = search rules in
    let put : c.push.new.self.items ≡ places ++ length numbers ∷ [] = c.in_ok-push.ensures.items ∙ ap (λ k. places ++ k ∷ []) size in
    subst (λ (xs : List ℕ). AreNumbered marks (i + 1) c.if-marks-number.numbers.items xs) (sym put)
    (elim c.if-marks-number.branch [
      | then-marks-number+in_ok-push-2 w ↦ rw w.numbers-is (rw w.in_ok-push-2.ensures.items (numbered_more marks i numbers places w.if-marks-number.true c.loop-number.invariant))
      | else-marks-number w ↦ rw w.numbers-is (numbered_same marks i numbers places w.if-marks-number.false c.loop-number.invariant)
    ])
