use Rattle.mp_picture.proofs.marked_columns.MarkedColumns.has.Goals as goal

pub returns : goal.returns
returns c = rw c.place_key.ensures at c.contains.ensures
