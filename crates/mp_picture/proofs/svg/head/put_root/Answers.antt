use Rattle.mp_picture.proofs.svg.head.put_root.Goals as goal

pub returns : goal.returns
returns g c = rw (c.height-high.ensures, c.count.ensures.value) at c.put_to.ensures
