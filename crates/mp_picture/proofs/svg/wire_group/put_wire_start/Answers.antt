use Rattle.mp_picture.proofs.svg.wire_group.put_wire_start.Goals as goal

pub returns : goal.returns
returns g c = rw (c.as_str-text.ensures, c.top.ensures, c.bottom.ensures, c.base-y.ensures) at c.put_to.ensures
