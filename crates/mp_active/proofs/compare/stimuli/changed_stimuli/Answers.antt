use Rattle.std.proofs.Common.{◌<◌, ◌≤◌, [], ◌∷◌, ◌++◌, false, cond, drop, length, ap, ◌∙◌, arith, subst}
use Rattle.std.specs.List.{filter}
use Rattle.std.proofs.lemmas.List.{get_or_read}
use Rattle.mp_simulation.specs.declared.run.stimuli.StimulusChange.{StimulusChange}
use Rattle.mp_active.specs.compare.ChangedStimuli.{until_in, AreSetAnew}
use Rattle.mp_active.proofs.lemmas.compare.StimulusLemmas.{is_kept, set_anew, kept_more, kept_all}
use Rattle.mp_active.proofs.compare.stimuli.changed_stimuli.Goals as goal

pub loop-place-preserved : goal.loop-place-preserved
loop-place-preserved c =
    let xs = c.in_ok-all.all.list.items in
    let i = c.loop-place.place in
    let x = c.index.result.now in
    let sources = c.args.sources.now in
    let end = c.loop-place.invariant.end in
    let below = c.loop-place-test.true in
    let low : i < length xs = omega arith in
    let none : StimulusChange = record { time = 0; wire = 0; has_data = false; level = 0 } in
    let read = get_or_read xs i x low c.index.ensures none in
    record {
      kept = kept_more sources xs i none (filter (is_kept sources) (drop c.in_ok-all.all.place xs)) c.loop-place.list.items c.add_changed.new.list.items low c.loop-place.invariant.kept
          (c.in_ok-add_changed.ensures ∙ ap (λ (y : StimulusChange). c.loop-place.list.items ++ cond (is_kept sources y) (y ∷ []) []) read);
      end = end;
    }

pub returns : goal.returns
returns c =
    let xs = c.in_ok-all.all.list.items in
    let sources = c.args.sources.now in
    let end = c.loop-place.invariant.end in
    let over = c.loop-place-test.false in
    let past : length xs ≤ c.loop-place.place = omega arith in
    subst (AreSetAnew c.args.netlist.now (until_in sources) 0) (kept_all sources xs c.loop-place.place (filter (is_kept sources) (drop c.in_ok-all.all.place xs)) c.loop-place.list.items past c.loop-place.invariant.kept)
    (set_anew c.args.netlist.now sources 0 (drop c.in_ok-all.all.place xs) c.in_ok-all.ensures)
