use Rattle.mp_picture.proofs.edges.put_edge.Goals as goal

pub returns : goal.returns
returns g c =
    rw (c.tail.ensures.kind, c.tail.ensures.name, c.tail.ensures.port, c.module_name-name.ensures, c.input_port.ensures, c.wire_name-name.ensures, c.tail_delay-delay.ensures, c.input_delay-delay.ensures, c.bubble.ensures) at c.put_to.ensures
