use Rattle.mp_picture.proofs.svg.head.put_tick.Goals as goal

pub returns : goal.returns
returns g c = rw (c.x-x.ensures, c.begin-text.ensures.value, c.tick_column-column.ensures.value, c.height.ensures) at c.put_to.ensures
