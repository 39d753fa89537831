use Rattle.std.proofs.Common.{◌≡◌, length, ◌∙◌, arith, rules}
use Rattle.std.specs.Vec.{vec_len}
use Rattle.mp_kernel.proofs.lemmas.events.OutputTableLemmas.{within, others_read}
use Rattle.mp_kernel.proofs.events.output_table.OutputTable.second.Goals as goal

pub index-requires : goal.index-requires
index-requires c =
    let size : vec_len c.self.inside.others ≡ length c.self.inside.others.items = search rules in
    let low = within c.self.inside.firsts.items c.self.inside.others.items c.args.self.now c.args.place c.self.invariant c.self.view_is c.requires in
    omega (arith, size, low.1)

pub returns : goal.returns
returns c = c.port.ensures ∙ (others_read c.self.inside.firsts.items c.self.inside.others.items c.args.self.now c.args.place c.index.result.now c.self.invariant c.self.view_is c.requires c.index.ensures).0
