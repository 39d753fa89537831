use Rattle.mp_exports.proofs.lemmas.vcd.Names.{◌+◌, ◌-◌, drop, sym, ◌∙◌, arith, filter, standing_from, is_changed, told_from, with_levels}
use Rattle.mp_exports.proofs.lemmas.vcd.AgendaLemmas.{told_as}
use Rattle.mp_exports.proofs.lemmas.vcd.StandingLemmas.{told_step}
use Rattle.mp_exports.proofs.vcd.wave_changes.agenda_of.Goals as goal

pub loop-number-preserved : goal.loop-number-preserved
loop-number-preserved c =
    let n = c.args.of.netlist.now in
    let number = c.loop-number.number in
    let from = c.args.from in
    let told = rw c.loop-number.invariant.from at c.in_ok-add_wire.ensures.told in
    record {
      within = omega arith;
      from = c.in_ok-add_wire.ensures.from ∙ c.loop-number.invariant.from;
      times = c.in_ok-add_wire.ensures.times ∙ c.loop-number.invariant.times;
      told =
          told_as _ _ _
          (told_from from (λ t. with_levels n t (filter (is_changed n t) (standing_from (number - 1) (drop (number - 1) n.wires)))))
          (λ k within. sym (told_step n (from + k) (number - 1) number (omega arith) (omega (arith, c.loop-number-test.true))))
          (told (λ t. with_levels n t (filter (is_changed n t) (standing_from number (drop number n.wires)))) c.loop-number.invariant.told);
    }
