use Rattle.mp_near.proofs.lemmas.region.LikeLemmas.{like_is}
use Rattle.mp_near.proofs.region.likeness.is_picked.Goals as goal

pub returns : goal.returns
returns c is =
    like_is c.args.change.now c.args.netlist.now c.args.picked.now c.args.small.now c.requires.change c.requires.either c.requires.picks
    (c.is_same_frame.ensures c.if-not-is_same_frame.false) (c.are_wires_picked.ensures c.if-not-are_wires_picked.false) (c.are_modules_picked.ensures is)
