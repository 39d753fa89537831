use Rattle.mp_picture.proofs.svg.value_group.ValueGroupText.put_to.Goals as goal

pub returns : goal.returns
returns g c = rw (c.begin.ensures, c.top.ensures, c.base.ensures, c.from.ensures, c.new-text.ensures) at c.put_to.ensures
