use Rattle.mp_picture.proofs.svg.wire_group.put_bits.Goals as goal

pub returns : goal.returns
returns g c = rw (c.height-y.ensures, c.level_before.ensures, c.first_cell-first.ensures, c.begin.ensures) at c.put_to.ensures
