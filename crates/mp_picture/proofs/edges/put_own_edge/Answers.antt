use Rattle.mp_picture.proofs.edges.put_own_edge.Goals as goal

pub returns : goal.returns
returns g c =
    rw (c.tail-from.ensures.kind, c.tail-from.ensures.name, c.tail-from.ensures.port, c.wire_name-name.ensures, c.output_delay-delay.ensures) at c.put_to.ensures
