use Rattle.std.proofs.Common.{rules, ◌≡◌, ◌<◌, ℕ, [], Option, Some, None, IfSome, length, refl, ap, sym, subst, ◌∙◌}
use Rattle.std.proofs.lemmas.Bool.{eq-eqb, eqb-true, true≢false}
use Rattle.std.proofs.lemmas.List.{get_or_default}
use Rattle.mp_modules.specs.declared.storage.any_module.AnyModule.{AnyModule}
use Rattle.mp_netlist.specs.Circuit.{Circuit, IsCircuit, IsModule}
use Rattle.mp_modules.specs.storage.DataParts.{data_part}
use Rattle.mp_simulation.specs.units.DataSeats.{bit_ports_of, level_port_of}
use Rattle.mp_active.specs.steps.Seating.{IsBitSeated, HasTakenSeat}
use Rattle.mp_redo.specs.rerun.Numbered.{ports_at}
use Rattle.mp_redo.specs.rerun.Seats.{seat_at}
use Rattle.mp_redo.proofs.rerun.rerun.Rerun.seat.Goals as goal

if_some : (P : ℕ → Type 0) (o : Option ℕ) → ((k : ℕ) → o ≡ Some k → P k) → IfSome o P
if_some P None each = tt
if_some P (Some k) each = each k refl

pub returns-then-module_width-eq1 : goal.returns-then-module_width-eq1
returns-then-module_width-eq1 c =
    let s = c.args.self.now in
    let one = eq-eqb _ 1 (sym c.module_width.ensures ∙ c.if-module_width-eq1.true) in
    record {
      kept = refl;
      narrow = λ is. subst (λ (x : AnyModule). IsBitSeated c.args.id.0 x c.args.memory.now s.simulation c.seat_bits.new.simulation) c.requires.part c.seat_bits.ensures;
      no_seat = λ is. refl;
      wide = λ no. absurd (true≢false (sym one ∙ no));
    }

pub data_module-state-requires-clause-form : goal.data_module-state-requires-clause-form
data_module-state-requires-clause-form c = subst IsCircuit (sym c.whole-whole.ensures) c.requires.change.form

pub data_module-state-requires-clause-module : goal.data_module-state-requires-clause-module
data_module-state-requires-clause-module c =
    subst (λ (n : Circuit). IsModule n c.args.found.now) (sym c.whole-whole.ensures) (c.requires.change.form.modules_ok c.args.id.0 c.args.found.now c.requires.stands)

pub seat_data-requires-clause-seat : goal.seat_data-requires-clause-seat
seat_data-requires-clause-seat c =
    let s = c.args.self.now in
    let seat = c.index-seat.result.now in
    let same : seat_at s.activity.seats.items c.args.id.0 ≡ seat = get_or_default s.activity.seats.items c.args.id.0 None seat c.requires.places.seats ∙ sym c.index-seat.ensures in
    if_some (λ k. k < length s.simulation.modules.modules.items) seat (λ k is. c.requires.places.within k (same ∙ is))

pub returns : goal.returns
returns c =
    let s = c.args.self.now in
    let m = c.args.id.0 in
    let seat = c.index-seat.result.now in
    let ports = c.index.result.now in
    let same : seat ≡ seat_at s.activity.seats.items m = c.index-seat.ensures ∙ get_or_default s.activity.seats.items m seat None c.requires.places.seats in
    let of_ports : ports ≡ ports_at s.inputs.items m = c.index.ensures ∙ get_or_default s.inputs.items m ports [] c.requires.places.inputs in
    let in_state = c.data_module-state.ensures in
    record {
      kept = refl;
      narrow = λ is. absurd (c.if-module_width-eq1.false (c.module_width.ensures ∙ eqb-true _ 1 is));
      no_seat = λ is. absurd (c.if-module_width-eq1.false (c.module_width.ensures ∙ eqb-true _ 1 is));
      wide = λ no. record {
        part = c.data_module-state.result;
        is = record {
          does = in_state.part ∙ ap data_part c.requires.part;
          outputs = in_state.outputs;
          inputs = in_state.inputs ∙ of_ports;
          level = in_state.level ∙ ap (λ (n : Circuit). level_port_of n c.args.found.now) c.whole-whole.ensures;
          bits = in_state.bits ∙ ap (λ (n : Circuit). bit_ports_of n c.args.found.now) c.whole-whole.ensures;
        };
        place = c.in_ok-place.place;
        taken = subst (λ (o : Option ℕ). HasTakenSeat m o c.data_module-state.result c.in_ok-place.place s.simulation c.seat_data.new.simulation) same c.in_ok-place.ensures;
        seats = search rules;
      };
    }
