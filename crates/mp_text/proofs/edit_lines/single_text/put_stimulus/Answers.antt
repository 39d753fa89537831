use Rattle.mp_text.proofs.lemmas.edit_lines.PieceLemmas.{stimulus_pieces}
use Rattle.mp_text.proofs.edit_lines.single_text.put_stimulus.Goals as goal

pub returns : goal.returns
returns g c = rw (stimulus_pieces c.args.wire.now c.args.pairs.now) (rw c.as_str.ensures at c.put_to.ensures)
