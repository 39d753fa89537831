use Rattle.mp_streams.proofs.OutLemmas.{puts_then, puts_sooner, writes_failed}
use Rattle.mp_picture.specs.Graphs.{own_edge}
use Rattle.mp_picture.proofs.edges.put_own_lines.Goals as goal

pub returns-in_err-put_node : goal.returns-in_err-put_node
returns-in_err-put_node g c =
    let node = rw c.wire_name-name.ensures at c.in_err-put_node.ensures in
    writes_failed _ c.from_residual.ensures.0 (puts_sooner (own_edge c.args.netlist.now c.args.wire.0 c.args.driver) node)

pub returns-in-Port : goal.returns-in-Port
returns-in-Port g c =
    let node = rw c.wire_name-name.ensures at c.in_ok-put_node.ensures in
    rw c.in-Port.is (puts_then node c.put_own_edge.ensures)
