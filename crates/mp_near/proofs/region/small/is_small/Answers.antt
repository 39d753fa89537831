use Rattle.mp_near.proofs.region.small.is_small.Goals as goal

pub returns : goal.returns
returns c is =
    let grown = c.is_no_smaller.ensures c.if-not-is_no_smaller.false in
    let was = c.is_picked.ensures c.if-not-is_picked.false in
    let now = c.is_picked-2.ensures is in
    record {
      picks = c.requires.picks;
      region = record { region = c.requires.picks.region; old_picking = c.requires.picks.before; new_picking = c.requires.picks.after; before = was.has; after = now.has };
      was = c.horizon-was_horizon.ensures.form;
      now = c.horizon-now_horizon.ensures.form;
      grown = grown;
      wires = was.wires;
      modules = was.modules;
    }
