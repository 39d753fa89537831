use Rattle.std.proofs.Common.{ℕ, Bool, List, map, refl, ap, sym, ◌∙◌}
use Rattle.std.specs.Prelude.{slice_set}
use Rattle.mp_kernel.specs.events.Firing.{scheduled}
use Rattle.mp_simulation.specs.bits.Simulators.{slot_at}
use Rattle.mp_active.specs.steps.Taking.{is_gone, staying, in_slot}
use Rattle.mp_active.proofs.lemmas.steps.TakenLemmas.{within_when, toggles_back, toggles_long}
use Rattle.mp_active.proofs.steps.taking.take_toggles.Goals as goal

pub returns-clause-wheel : goal.returns-clause-wheel
returns-clause-wheel c =
    let s = c.args.simulation.now in
    let units = c.args.units in
    let gone : ℕ → Bool = is_gone c.args.sources.now in
    let is =
    c.in_ok-put_back_toggles.ensures.wheel
    ∙ ap (λ (xs : List ℕ). scheduled c.swap_slot.new.self (map (in_slot units) (staying gone xs))) (c.as_slice.ensures ∙ c.swap_slot.ensures.other)
    ∙ ap (λ (wheel : List (List ℕ)). scheduled wheel (map (in_slot units) (staying gone (slot_at s.bits.simulator units))))
    (c.swap_slot.ensures.wheel ∙ ap (λ (slot : List ℕ). slice_set s.bits.simulator.wheel units slot) c.requires.empty) in
    let low = within_when s.bits.simulator.wheel units c.toggles_ahead.result.now c.toggles_ahead.ensures (sym c.is_empty.ensures ∙ c.if-is_empty.false) in
    let long = toggles_long gone units s c.put_back_toggles.new.wheel is in
    let back = toggles_back gone units s c.put_back_toggles.new.wheel low is in
    record { bits = refl; long = long; events = back; wires = refl; modules = refl }
