use Rattle.mp_picture.proofs.svg.found_groups.FindingMarkText.put_to.Goals as goal

pub returns : goal.returns
returns g c =
    rw (c.begin-x.ensures, c.end-end.ensures, c.below_top-high.ensures, c.below_top-middle.ensures, c.below_top-low.ensures) at c.put_to.ensures
