use Rattle.std.proofs.Common.{◌≡◌, ℕ, ◌+◌, ◌-◌, ◌<◌, List, refl, ap, subst, ◌∙◌, arith}
use Rattle.mp_modules.specs.Memories.{input_levels}
use Rattle.mp_modules.specs.storage.AnyModules.{settle, step}
use Rattle.mp_modules.specs.declared.storage.any_module.AnyModule.{AnyModule}
use Rattle.mp_model.specs.Levels.{built, inputs_by}
use Rattle.mp_model.specs.Waves.{level}
use Rattle.mp_model.proofs.BuiltLemmas.{width_of_module}
use Rattle.mp_questions.specs.timing.Hearing.{IsWatch}
use Rattle.mp_questions.specs.declared.timing.client_watch.ClientWatch.{ClientWatch}
use Rattle.mp_questions.proofs.lemmas.timing.WatchLemmas.{HaveMoved, watch_first, watch_turn, watch_later}
use Rattle.mp_questions.proofs.timing.client_watch.follow.Goals as goal

pub built-part-requires-clause-width : goal.built-part-requires-clause-width
built-part-requires-clause-width c = width_of_module c.args.at.now.netlist.now c.horizon-horizon.ensures.form c.args.found.now c.requires.form

pub loop-now-init : goal.loop-now-init
loop-now-init c =
    let at = c.args.at.now in
    let n = at.netlist.now in
    let m = c.args.id.0 in
    let r = c.args.found.now in
    let ok = c.horizon-horizon.ensures.form in
    let below = at.within in
    let next = c.next-now.ensures in
    let now = c.next-now.result in
    let x : ℕ → List ℕ = (λ (t : ℕ). inputs_by n (level n) r t) in
    let levels : c.levels.result ≡ input_levels (x 0) = c.levels.ensures x n.horizon c.of-ears.ensures (omega (arith, below)) in
    let memory : c.settle-memory.result ≡ settle (built n r) (input_levels (x 0)) =
    c.settle-memory.ensures ∙ ap (λ (p : AnyModule). settle p c.levels.result) c.built-part.ensures ∙ ap (settle (built n r)) levels in
    let watch : ClientWatch = record { memory = c.settle-memory.result; marks = c.none-marks.result } in
    let first : IsWatch n m r 0 watch = watch_first n ok m r c.requires.stands watch memory c.none-marks.ensures in
    let last = next.within in
    let some : 0 < now = next.later (omega arith) in
    let all : 0 + (now - 1) ≡ now - 1 = omega arith in
    record {
      end = refl;
      some = some;
      within = last;
      watch = subst (λ (t : ℕ). IsWatch n m r t watch) all
          (watch_later n ok m r c.requires.stands (now - 1) 0 watch (λ u low high. next.quiet x n.horizon u c.of-ears.ensures (omega (arith, below)) low (omega (arith, high, some))) first);
    }

pub loop-now-preserved : goal.loop-now-preserved
loop-now-preserved c =
    let at = c.args.at.now in
    let n = at.netlist.now in
    let m = c.args.id.0 in
    let r = c.args.found.now in
    let ok = c.horizon-horizon.ensures.form in
    let below = at.within in
    let kept = c.loop-now.invariant in
    let now = c.loop-now.now in
    let some = kept.some in
    let test = c.loop-now-test.true in
    let next = c.next-now-in-loop-now.ensures in
    let then = c.next-now-in-loop-now.result in
    let x : ℕ → List ℕ = (λ (t : ℕ). inputs_by n (level n) r t) in
    let levels : c.levels-in-loop-now.result ≡ input_levels (x now) = c.levels-in-loop-now.ensures x n.horizon c.of-ears.ensures (omega (arith, test, below)) in
    let old : ClientWatch = record { memory = c.loop-now.memory; marks = c.loop-now.marks } in
    let new : ClientWatch = record { memory = c.step.new.memory; marks = c.moved-marks.result } in
    let stepped : c.step.new.memory ≡ step (built n r) c.loop-now.memory (input_levels (x now)) =
    c.step.ensures ∙ ap (λ (p : AnyModule). step p c.loop-now.memory c.levels-in-loop-now.result) c.built-part.ensures ∙ ap (step (built n r) c.loop-now.memory) levels in
    let moves = c.moved-marks.ensures in
    let moved : HaveMoved now old.memory new.memory old.marks new.marks = record {
      first_output = moves.first_output;
      second_output = moves.second_output;
      third_output = moves.third_output;
      first_waiting = moves.first_waiting;
      second_waiting = moves.second_waiting;
    } in
    let back : now - 1 + 1 ≡ now = omega (arith, some) in
    let turned : IsWatch n m r now new = watch_turn n ok m r c.requires.stands (now - 1) now old new back kept.watch stepped moved in
    let last = next.within in
    let later : now < then = next.later (omega (arith, test)) in
    let all : now + (then - now - 1) ≡ then - 1 = omega (arith, later) in
    record {
      end = refl;
      some = omega (arith, later);
      within = last;
      watch = subst (λ (t : ℕ). IsWatch n m r t new) all
          (watch_later n ok m r c.requires.stands (then - now - 1) now new (λ u low high. next.quiet x n.horizon u c.of-ears.ensures (omega (arith, below)) low (omega (arith, high, later))) turned);
    }
