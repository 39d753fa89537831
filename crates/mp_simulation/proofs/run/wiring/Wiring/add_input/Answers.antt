use Rattle.std.proofs.Common.{refl, arith}
use Rattle.mp_simulation.proofs.lemmas.run.InputLemmas.{adds_input}
use Rattle.mp_simulation.proofs.lemmas.run.WiringLemmas.{row_pushed}
use Rattle.mp_simulation.proofs.run.wiring.Wiring.add_input.Goals as goal

pub returns : goal.returns
returns c port event =
    let mid = c.number_of.new.self in
    let number = c.in_ok-number.number in
    let has = c.in_ok-number.ensures.number in
    let kept = c.in_ok-number.ensures.rows in
    adds_input c.args.self.now mid _ c.args.input c.args.entry number port has kept c.requires.rows refl
    (row_pushed mid.rows.items number c.index_mut.result.now c.push.new.self c.args.entry (let a = kept.long c.requires.rows in let b = has.within in omega arith) c.index_mut.ensures.value c.in_ok-push.ensures)
    c.in_ok-note_wire.ensures event
