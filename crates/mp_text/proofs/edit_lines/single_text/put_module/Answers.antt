use Rattle.mp_text.proofs.lemmas.edit_lines.PieceLemmas.{module_pieces}
use Rattle.mp_text.proofs.edit_lines.single_text.put_module.Goals as goal

pub returns : goal.returns
returns g c =
    let written = rw (c.as_slice.ensures, c.as_slice-2.ensures, c.as_slice-3.ensures, c.as_str.ensures, c.word.ensures) at c.put_to.ensures in
    rw (module_pieces c.args.new.now) written
