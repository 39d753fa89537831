use Rattle.std.proofs.Common.{◌≤◌, ◌&&◌, Bool, ap, sym, subst, ◌∙◌, arith}
use Rattle.std.specs.List.{list_all}
use Rattle.std.proofs.lemmas.Result.{IfOk-weaker}
use Rattle.mp_netlist.specs.Drivers.{driver}
use Rattle.mp_steady.specs.declared.wire_set.WireSet.{WireSet}
use Rattle.mp_steady.specs.Periods.{is_again_by, repeats, told_until}
use Rattle.mp_steady.specs.WireSets.{numbers}
use Rattle.mp_steady.proofs.repeats.Trial.repeats.Goals as goal

pub are_states_again-requires-clause-few : goal.are_states_again-requires-clause-few
are_states_again-requires-clause-few c =
    let set = c.args.self.now.set in
    let few : c.args.units ≤ told_until set.of.netlist.now (numbers set.wires.now) = omega (arith, c.requires) in
    subst (λ (s : WireSet). c.args.units ≤ told_until s.of.netlist.now (numbers s.wires.now)) (sym c.are_levels_again.ensures.set) few

pub returns-then-not-are_levels_again-clause-value : goal.returns-then-not-are_levels_again-clause-value
unfolding repeats
returns-then-not-are_levels_again-clause-value c =
    let set = c.args.self.now.set in
    let n = set.of.netlist.now in
    let wires = numbers set.wires.now in
    sym (ap (λ b. b && list_all (λ w. is_again_by n wires c.args.units (driver n w)) wires) (sym c.are_levels_again.ensures.value ∙ c.if-not-are_levels_again.true))

pub returns-clause-value : goal.returns-clause-value
unfolding repeats
returns-clause-value c =
    let set = c.args.self.now.set in
    let n = set.of.netlist.now in
    let wires = numbers set.wires.now in
    let test : WireSet → Bool = (λ s. list_all (λ w. is_again_by s.of.netlist.now (numbers s.wires.now) c.args.units (driver s.of.netlist.now w)) (numbers s.wires.now)) in
    IfOk-weaker c.are_states_again.result _ _
    (λ again is.
    is ∙ ap test c.are_levels_again.ensures.set
    ∙ sym (ap (λ b. b && test set) (sym c.are_levels_again.ensures.value ∙ c.if-not-are_levels_again.false)))
    c.are_states_again.ensures
