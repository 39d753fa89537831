use Rattle.mp_text.proofs.Names.{◌∷◌, puts_next, puts_stopped, writes_failed}
use Rattle.mp_text.proofs.port_texts.PortsText.put_to.Goals as goal

pub returns-in_err-put_spaced : goal.returns-in_err-put_spaced
returns-in_err-put_spaced g c =
    let here = rw c.port-item.is at c.in_err-put_spaced.ensures in
    writes_failed _ c.from_residual.ensures.0
    (puts_stopped (λ port. 32 ∷ g.P.Port.port_text c.args.self.now.netlist.now port) _ c.loop-port.port-index c.port-item.result c.loop-port-test.true c.loop-port.invariant here)

pub loop-port-preserved : goal.loop-port-preserved
loop-port-preserved g c =
    let here = rw c.port-item.is at c.in_ok-put_spaced.ensures in
    puts_next (λ port. 32 ∷ g.P.Port.port_text c.args.self.now.netlist.now port) _ c.loop-port.port-index c.port-item.result c.loop-port-test.true c.loop-port.invariant here
