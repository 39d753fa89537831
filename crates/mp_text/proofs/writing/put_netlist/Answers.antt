use Rattle.mp_text.proofs.Names.{◌≡◌, rules}
use Rattle.mp_text.proofs.WriteLemmas.{written_pieces}
use Rattle.mp_text.proofs.writing.put_netlist.Goals as goal

pub returns-clause-written : goal.returns-clause-written
returns-clause-written g c =
    let horizon : c.horizon-horizon.result ≡ c.args.netlist.now.horizon = search rules in
    rw (written_pieces c.args.netlist.now)
    (rw (c.format_text.ensures, c.written_format.ensures, horizon, c.new-wires.ensures, c.new-modules.ensures, c.new-stimuli.ensures, c.new-bundles.ensures) at c.put_to.ensures)
