use Rattle.mp_model.proofs.response.cursors.Cursors.next_change.Goals as goal

pub returns-clause-later : goal.returns-clause-later
returns-clause-later c x t at lt =
    let first = c.next_change-end.ensures.later t at.first.ahead lt in
    let second = c.next_change-end-2.ensures.later t at.second.ahead first in
    let third = c.next_change-end-3.ensures.later t at.third.ahead second in
    c.next_change.ensures.later t at.fourth.ahead third
