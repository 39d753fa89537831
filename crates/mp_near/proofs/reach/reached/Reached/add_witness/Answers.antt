use Rattle.mp_near.proofs.lemmas.reach.MarkLemmas.{grown_none}
use Rattle.mp_near.proofs.reach.reached.Reached.add_witness.Goals as goal

pub returns-in-Some : goal.returns-in-Some
returns-in-Some c = record {
  reach = c.add.ensures.reach;
  core = c.args.self.now.modules.items;
  core_wires = c.args.self.now.wires.items;
  whole = c.requires.whole;
  grown = c.add.ensures.grown;
}

pub returns-in_default : goal.returns-in_default
returns-in_default c = record {
  reach = c.requires.whole.reach;
  core = c.args.self.now.modules.items;
  core_wires = c.args.self.now.wires.items;
  whole = c.requires.whole;
  grown = grown_none c.args.self.now.modules.items;
}
