use Rattle.mp_text.proofs.WriteLemmas.{module_pieces}
use Rattle.mp_text.proofs.written_lines.put_module.Goals as goal

pub returns : goal.returns
returns g c = rw (module_pieces c.args.netlist.now c.args.part.now) (rw (c.as_slice.ensures, c.as_slice-2.ensures, c.as_slice-3.ensures, c.as_str.ensures, c.word.ensures) at c.put_to.ensures)
