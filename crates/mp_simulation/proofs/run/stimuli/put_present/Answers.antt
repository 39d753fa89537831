use Rattle.std.proofs.Common.{◌+◌, ◌++◌, List, ℕ, false, drop, slice_index_or, ap, eq-eqb, ◌∙◌}
use Rattle.std.proofs.lemmas.List.{drop_more}
use Rattle.mp_kernel.specs.declared.datapath.level_change.LevelChange.{LevelChange}
use Rattle.mp_simulation.specs.declared.run.stimuli.StimulusChange.{StimulusChange}
use Rattle.mp_simulation.specs.run.Stimuli.{bits_at, levels_at}
use Rattle.mp_simulation.proofs.lemmas.run.PresentLemmas.{bits_step, levels_step, left_step}
use Rattle.mp_simulation.proofs.run.stimuli.put_present.Goals as goal

pub loop-place-preserved : goal.loop-place-preserved
loop-place-preserved c =
    let list = c.args.list.now in
    let place = c.loop-place.place in
    let before = c.loop-place.invariant in
    let now = c.in_ok-put_change.ensures in
    let none : StimulusChange = record { time = 0; wire = 0; has_data = false; level = 0 } in
    let s = slice_index_or list place none in
    let left = drop_more list place none c.loop-place-test.true in
    let test = eq-eqb s.time c.args.time c.if-list-place.true in
    record {
      bits = ap (λ (xs : List ℕ). xs ++ bits_at c.args.time (drop (place + 1) list)) now.bits ∙ bits_step c.args.time place list s c.loop-place.bits.items left test ∙ before.bits;
      levels = ap (λ (xs : List LevelChange). xs ++ levels_at c.args.time (drop (place + 1) list)) now.levels
          ∙ levels_step c.args.time place list s c.loop-place.levels.items left test ∙ before.levels;
      left = left_step c.args.time place list s left test ∙ before.left;
    }
