use Rattle.mp_picture.proofs.svg.found_groups.put_finding.Goals as goal

pub returns : goal.returns
returns g c = rw c.column_of-column.ensures.value at c.put_to.ensures
