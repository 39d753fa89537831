use Rattle.mp_picture.proofs.bundle_lines.put_line.Goals as goal

pub returns : goal.returns
returns g c = rw (c.tail-from.ensures.kind, c.tail-from.ensures.name, c.tail-from.ensures.port, c.driver_of.ensures) at c.put_to.ensures
