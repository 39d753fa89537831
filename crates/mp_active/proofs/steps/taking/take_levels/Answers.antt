use Rattle.std.proofs.Common.{ℕ, Bool, List, map, refl, ap, sym, ◌∙◌}
use Rattle.std.specs.Prelude.{slice_set}
use Rattle.mp_kernel.specs.declared.datapath.level_change.LevelChange.{LevelChange}
use Rattle.mp_kernel.specs.datapath.LevelWheels.{scheduled as levels_scheduled}
use Rattle.mp_simulation.specs.units.DataWheels.{data_slot}
use Rattle.mp_active.specs.steps.Taking.{is_gone, staying_changes, in_level_slot}
use Rattle.mp_active.proofs.lemmas.steps.TakenLemmas.{within_when, levels_back, levels_long}
use Rattle.mp_active.proofs.steps.taking.take_levels.Goals as goal

pub returns-clause-wheel : goal.returns-clause-wheel
returns-clause-wheel c =
    let s = c.args.simulation.now in
    let units = c.args.units in
    let gone : ℕ → Bool = is_gone c.args.sources.now in
    let is =
    c.in_ok-put_back_levels.ensures.wheel
    ∙ ap (λ (xs : List LevelChange). levels_scheduled c.swap_slot.new.self (map (in_level_slot units) (staying_changes gone xs))) (c.as_slice.ensures ∙ c.swap_slot.ensures.other)
    ∙ ap (λ (wheel : List (List LevelChange)). levels_scheduled wheel (map (in_level_slot units) (staying_changes gone (data_slot s.wires.wheel units))))
    (c.swap_slot.ensures.wheel ∙ ap (λ (slot : List LevelChange). slice_set s.wires.wheel units slot) c.requires.empty) in
    let low = within_when s.wires.wheel units c.levels_ahead.result.now c.levels_ahead.ensures (sym c.is_empty.ensures ∙ c.if-is_empty.false) in
    let long = levels_long gone units s c.put_back_levels.new.wheel is in
    let back = levels_back gone units s c.put_back_levels.new.wheel low is in
    record { bits = refl; wires = refl; long = long; changes = back; modules = refl }
