use Rattle.std.proofs.Common.{ℕ, Bool}
use Rattle.mp_active.specs.steps.Taking.{is_gone}
use Rattle.mp_active.proofs.lemmas.steps.TakenLemmas.{more_taken, more_listed}
use Rattle.mp_active.proofs.steps.taking.take_changes.Goals as goal

pub loop-k-preserved : goal.loop-k-preserved
loop-k-preserved c =
    let s = c.args.simulation.now in
    let gone : ℕ → Bool = is_gone c.args.sources.now in
    let k = c.loop-k.k in
    let so = c.loop-k.invariant.0 in
    let toggles = c.in_ok-take_toggles.ensures in
    let levels = c.in_ok-take_levels.ensures in (
      more_taken gone k s c.loop-k.simulation c.take_toggles.new.simulation c.take_levels.new.simulation so toggles.wheel levels.wheel,
      more_listed gone k s c.loop-k.simulation c.take_toggles.new.simulation c.take_levels.new.simulation so toggles.wheel levels.wheel c.args.time c.args.taken.now.items c.loop-k.taken.items
          c.take_toggles.new.taken.items c.take_levels.new.taken.items c.loop-k.invariant.1 toggles.taken levels.taken,
      toggles.slot,
      levels.slot,
    )
