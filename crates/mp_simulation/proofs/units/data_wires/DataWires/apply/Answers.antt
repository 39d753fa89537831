use Rattle.std.proofs.Common.{ℕ, ◌<◌, ◌≤◌, ◌∙◌, List, All, length, sym, ap, subst}
use Rattle.mp_kernel.specs.declared.datapath.level_change.LevelChange.{LevelChange}
use Rattle.mp_simulation.specs.units.DataLevels.{changes_of}
use Rattle.mp_simulation.proofs.lemmas.units.LevelLemmas.{toggled_length}
use Rattle.mp_simulation.proofs.units.data_wires.DataWires.apply.Goals as goal

pub toggle_levels-requires-2 : goal.toggle_levels-requires-2
toggle_levels-requires-2 c =
    let first = c.args.self.now.levels.items in
    subst (λ k. All (λ x. x < k) c.args.late.now) (sym (ap (length {A = ℕ}) c.toggle_levels.ensures ∙ toggled_length first c.args.wires.now)) c.requires.late

pub set_levels-requires : goal.set_levels-requires
set_levels-requires c =
    let first = c.args.self.now.levels.items in
    let long = ap (length {A = ℕ}) c.toggle_levels-2.ensures ∙ toggled_length c.toggle_levels.new.levels.items c.args.late.now
    ∙ ap (length {A = ℕ}) c.toggle_levels.ensures ∙ toggled_length first c.args.wires.now in
    subst (λ k. All (λ (d : LevelChange). d.number < k) c.as_slice.result.now) (sym long)
    (subst (λ (ds : List LevelChange). All (λ (d : LevelChange). d.number < length c.args.self.now.levels.items) ds) (sym c.as_slice.ensures) c.requires.present)

pub push_levels-requires-clause-once : goal.push_levels-requires-clause-once
push_levels-requires-clause-once c w = subst (λ (ds : List LevelChange). changes_of w ds ≤ 1) (sym c.as_slice-2.ensures) (c.requires.once w)
