use Rattle.std.proofs.Common.{ℕ, ◌≡◌, List, Option, length, refl, sym, subst, ap, ◌∙◌, arith}
use Rattle.mp_model.proofs.SlotLemmas.{slot_within}
use Rattle.mp_kernel.specs.declared.datapath.level_change.LevelChange.{LevelChange}
use Rattle.mp_simulation.specs.declared.units.netlist_simulation.NetlistSimulation.{NetlistSimulation}
use Rattle.mp_simulation.specs.run.Seating.{IsSeated}
use Rattle.mp_simulation.proofs.lemmas.run.BeginningLemmas.{evaluated}
use Rattle.mp_simulation.proofs.lemmas.run.SimulatedLemmas.{simulated}
use Rattle.mp_simulation.proofs.run.layout.Layout.begin.Goals as goal

pub seat_all-requires-clause-inputs : goal.seat_all-requires-clause-inputs
seat_all-requires-clause-inputs c =
    let can = c.requires.can in
    ap (length {A = List (Option ℕ)}) c.as_slice-inputs.ensures.value ∙ can.laid.wired.long ∙ sym can.part.modules

pub seat_all-requires-clause-within : goal.seat_all-requires-clause-within
seat_all-requires-clause-within c m r at k d within =
    let can = c.requires.can in
    let there = can.part.same m r at in
    let low = (can.laid.within m r (slot_within can.all.modules m r there) there).outputs k d within in
    let high = c.longest-units.ensures.outputs in
    omega arith

pub seat_all-requires-clause-some : goal.seat_all-requires-clause-some
seat_all-requires-clause-some c = c.longest-units.ensures.some c.requires.can.laid.some_output

pub first_data_wires-requires : goal.first_data_wires-requires
first_data_wires-requires c = c.requires.can.laid.wired.wired.wired.origins.long

pub returns-clause-begun : goal.returns-clause-begun
returns-clause-begun c all form part laid driven =
    let n = c.args.netlist.now in
    let plan = c.args.self.now in
    let seating = c.in_ok-modules.field-0 in
    let made = c.in_ok-wires.ensures in
    let s : NetlistSimulation = record { bits = c.in_ok-bits.bits; wires = c.in_ok-wires.wires; modules = seating.modules } in
    let units : length s.wires.wheel ≡ c.longest-units.result = ap (length {A = List LevelChange}) made.wheel ∙ c.in_ok-modules.ensures.units in
    let seats = subst (λ (xs : List (List (Option ℕ))). IsSeated n (length n.modules) xs seating) c.as_slice-inputs.ensures.value c.in_ok-modules.ensures.seated in
    record {
      begun = record { laid = laid; bits = c.in_ok-bits.ensures all form part driven };
      wires = record { levels = made.levels; next = made.next; waves = made.waves; wheel = refl };
      seated = subst (λ (wheel : List (List LevelChange)). IsSeated n (length n.modules) plan.wired.inputs.items (record { modules = s.modules; wheel = wheel })) (sym made.wheel) seats;
      outputs = let high = c.longest-units.ensures.outputs in omega arith;
      inputs = let high = c.longest-units.ensures.inputs in omega arith;
    }

pub returns-clause-simulated : goal.returns-clause-simulated
returns-clause-simulated c =
    let can = c.requires.can in
    let s : NetlistSimulation = record { bits = c.in_ok-bits.bits; wires = c.in_ok-wires.wires; modules = c.in_ok-modules.field-0.modules } in
    simulated c.args.netlist.now can.all c.requires.form can.form can.part c.args.self.now s (returns-clause-begun c can.all can.form can.part can.laid can.driven)

pub returns-clause-narrow : goal.returns-clause-narrow
returns-clause-narrow c =
    let can = c.requires.can in
    evaluated c.args.netlist.now can.all c.requires.form can.form can.part c.args.self.now c.in_ok-bits.bits (record { laid = can.laid; bits = c.in_ok-bits.ensures can.all can.form can.part can.driven })
