use Rattle.mp_exports.proofs.lemmas.vcd.TimescaleLemmas.{of_any}
use Rattle.mp_exports.proofs.vcd.timescale.Timescale.of_word.Goals as goal

pub returns : goal.returns
returns c = rw (c.or-2.ensures, c.or.ensures) (of_any c.args.word.now _ _ _ c.timescale.ensures c.timescale-2.ensures c.timescale-3.ensures)
