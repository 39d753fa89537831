use Rattle.std.proofs.Common.{ap, sym, subst, ◌∙◌}
use Rattle.mp_netlist.specs.declared.wire_knowledge.WireKnowledge.TheVariants.{At}
use Rattle.mp_netlist.specs.Knowledge.{AreKnown}
use Rattle.mp_netlist.specs.Least.{least_among}
use Rattle.mp_netlist.proofs.module_table.ModuleTable.copy.Goals as goal
use Rattle.mp_netlist.proofs.module_table.ModuleTable.copy.Goals.{in-Driven+in_ok-around-in-Driven, in-At+in_ok-around-in-At}

pub invariant_of-result : goal.invariant_of-result
invariant_of-result c =
    let table = c.self.inside.table in
    let are : AreKnown (At c.match-self.around) table = elim c.match-self.branch [
      | in-Driven+in_ok-around-in-Driven w ↦
          subst (λ rows. AreKnown (At rows) table) (sym w.around-is)
          (subst (AreKnown (At w.in_ok-around-in-Driven.around)) (sym c.self.view_is) w.in_ok-around-in-Driven.ensures)
      | in-At+in_ok-around-in-At w ↦
          subst (λ rows. AreKnown (At rows) table) (sym (w.around-is ∙ w.in_ok-around-in-At.ensures))
          (subst (λ known. AreKnown known table) w.in-At.is c.self.invariant.0)
    ] in
    (subst (AreKnown (At c.match-self.around)) (sym c.in_ok-copy.ensures) are, c.self.invariant.1 ∙ ap least_among (sym c.in_ok-copy.ensures))
