use Rattle.mp_exports.proofs.lemmas.vcd.Names.{◌≤◌, ◌++◌, refl, rules, drop, length, ap, sym, ◌∙◌, arith, flat_map, passage_text, puts_as, puts_ok, left_whole, left_as, left_then, left_failed, drop_all}
use Rattle.mp_exports.proofs.lemmas.vcd.StandingLemmas.{text_divide, left_last}
use Rattle.mp_exports.proofs.vcd.sharing.put_batches.Goals as goal

pub loop-next-init : goal.loop-next-init
loop-next-init g c =
    let none = ap length c.requires.none in
    record {
      inside = omega arith;
      some = c.requires.some;
      same = c.requires.same;
      made = λ place d within p inside. absurd (omega (arith, inside, none));
      left = left_as (ap (λ ps. flat_map passage_text ps ++ flat_map passage_text c.args.passages.now) (sym c.requires.none)) (left_whole c.args.out.now _);
    }

pub returns-in_err-make_and_put : goal.returns-in_err-make_and_put
returns-in_err-make_and_put g c =
    left_failed (flat_map passage_text (drop c.loop-next.next c.args.passages.now)) c.loop-next.invariant.left c.from_residual.result c.from_residual.ensures.0
    (puts_as _ c.in_err-make_and_put.field-0.0 c.from_residual.ensures.1 refl c.in_err-make_and_put.ensures.written)

pub loop-next-preserved : goal.loop-next-preserved
loop-next-preserved g c =
    let passages = c.args.passages.now in
    let made = c.make_and_put.ensures in
    let end = c.min-end.result in
    let order : c.loop-next.next ≤ end = search rules in
    rw (c.swap.ensures.x_after, c.swap.ensures.y_after) (record {
      inside = search rules;
      some = omega (arith, made.rooms, c.loop-next.invariant.same, c.loop-next.invariant.some);
      same = sym (made.rooms ∙ c.loop-next.invariant.same);
      made = made.made;
      left = left_as (text_divide passage_text passages c.loop-next.next end order ∙ ap (λ ps. flat_map passage_text ps ++ flat_map passage_text (drop end passages)) (sym made.passages)) (left_then c.loop-next.invariant.left (puts_ok c.in_ok-make_and_put.ensures.written));
    })

pub returns : goal.returns
returns g c = left_last (ap (flat_map passage_text) (drop_all c.loop-next.next c.args.passages.now c.loop-next-test.false)) c.loop-next.invariant.left c.put.ensures
