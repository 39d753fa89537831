use Rattle.std.proofs.Common.{◌≡◌, length, ap, sym, ◌∙◌, rules}
use Rattle.mp_kernel.specs.declared.events.output_ports.OutputPorts.{OutputPorts}
use Rattle.mp_kernel.proofs.lemmas.events.OutputTableLemmas.{length_by}
use Rattle.mp_kernel.proofs.events.output_table.OutputTable.len.Goals as goal

pub returns : goal.returns
returns c =
    let size : c.len.result ≡ length c.self.inside.firsts.items = search rules in
    size ∙ sym (length_by c.self.inside.firsts.items c.self.inside.others.items c.self.invariant) ∙ ap (length {A = OutputPorts}) c.self.view_is
