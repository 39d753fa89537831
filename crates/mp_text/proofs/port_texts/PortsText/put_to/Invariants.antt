use Rattle.mp_text.proofs.Names.{◌∷◌, Ok, take, flat_map, Writes}
use Rattle.mp_text.proofs.port_texts.PortsText.put_to.Given as goal

-- the ports so far are written
abbrev pub invariant-loop-port : goal.invariant-loop-port
invariant-loop-port g l =
    Writes {T = Unit {0}} (Ok tt) l.fn.out l.out (flat_map (λ port. 32 ∷ g.P.Port.port_text l.self.netlist.now port) (take l.port-index l.self.ports.now))
