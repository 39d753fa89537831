use Rattle.mp_picture.proofs.svg.found_groups.put_mark_row.Goals as goal

pub returns : goal.returns
returns g c =
    rw (c.word-word.ensures, c.base-y.ensures, c.place_number.ensures, c.place_kind.ensures, c.place_name-text.ensures, c.end-x.ensures) at c.put_to.ensures
