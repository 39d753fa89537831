use Rattle.mp_exports.proofs.vcd.preamble.put_preamble.Goals as goal

pub returns : goal.returns
returns g c = rw (c.word.ensures, c.word-2.ensures) at c.put_to.ensures
