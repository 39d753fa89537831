use Rattle.std.proofs.Common.{◌∙◌}
use Rattle.mp_picture.proofs.wired_netlist.WiredNetlist.readers_of.Goals as goal

pub returns : goal.returns
returns c = c.at.ensures ∙ c.args.self.are_readers c.args.wire.0 c.requires
