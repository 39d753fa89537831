use Rattle.std.proofs.Common.{◌≡◌, None, ◌⊎◌, inl, inr, subst}
use Rattle.mp_netlist.specs.Drivers.{port_from}
use Rattle.mp_netlist.specs.Knowledge.{Knows}
use Rattle.mp_netlist.proofs.KnowledgeLemmas.{unmarked_undriven}
use Rattle.mp_netlist.proofs.wire_knowledge.WireKnowledge.add_wire.Goals as goal

pub returns-in-Driven : goal.returns-in-Driven
returns-in-Driven c m r none knows w unmarked =
    let was = subst (λ known. Knows known m r) c.in-Driven.is knows in
    let old : (w ≡ c.args.wire.0) ⊎ (port_from 0 r.outputs w ≡ None) = elim (c.add_mark.ensures w unmarked) [
      | inl same ↦ inl same
      | inr before ↦ inr (was w before)
    ] in
    unmarked_undriven w c.args.wire.0 r none old
