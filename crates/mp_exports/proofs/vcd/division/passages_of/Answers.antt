use Rattle.mp_exports.proofs.lemmas.vcd.Names.{flat_map-append, append-nil, unit_text, sym, ◌≤◌, ◌++◌, rules, ap, ◌∙◌, arith, times_text}
use Rattle.mp_exports.proofs.lemmas.vcd.StandingLemmas.{times_divide}
use Rattle.mp_exports.proofs.vcd.division.passages_of.Goals as goal

pub loop-from-preserved : goal.loop-from-preserved
loop-from-preserved c =
    let n = c.args.of.netlist.now in
    let from = c.loop-from.from in
    let to = c.min-to.result in
    let order : from ≤ to = search rules in
    record {
      some = omega (arith, order, c.loop-from.invariant.some);
      text = rw (c.in_ok-push.ensures.items, flat_map-append, append-nil) (ap (λ l. l ++ times_text n from to) c.loop-from.invariant.text ∙ sym (times_divide (unit_text n) 1 from to c.loop-from.invariant.some order));
      within = search rules;
    }
