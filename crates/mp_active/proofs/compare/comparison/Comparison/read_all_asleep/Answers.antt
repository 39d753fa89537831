use Rattle.std.proofs.Common.{ℕ, ◌-◌, List, None, subst}
use Rattle.std.specs.Prelude.{Option}
use Rattle.std.proofs.lemmas.List.{take_all}
use Rattle.mp_active.proofs.lemmas.compare.AsleepLemmas.{AreAsleep, asleep_none, asleep_more, asleep_few, asleep_reads}
use Rattle.mp_active.proofs.compare.comparison.Comparison.read_all_asleep.Goals as goal

pub loop-input-init : goal.loop-input-init
loop-input-init c = asleep_none c.args.run.now (c.args.time - 1) c.args.self.now c.requires.cursors

pub read_one_asleep-requires-clause-cursors : goal.read_one_asleep-requires-clause-cursors
read_one_asleep-requires-clause-cursors c = c.loop-input.invariant.cursors

pub read_one_asleep-requires-clause-few : goal.read_one_asleep-requires-clause-few
read_one_asleep-requires-clause-few c =
    asleep_few c.args.run.now (c.args.time - 1) c.args.inputs.now c.loop-input.input-index None c.args.self.now c.loop-input.self c.loop-input-test.true c.loop-input.invariant c.requires.few

pub read_one_asleep-requires-clause-read : goal.read_one_asleep-requires-clause-read
read_one_asleep-requires-clause-read c =
    asleep_reads c.args.run.now (c.args.time - 1) c.args.inputs.now c.loop-input.input-index None c.args.self.now c.loop-input.self c.loop-input-test.true c.loop-input.invariant c.requires.read

pub loop-input-preserved : goal.loop-input-preserved
loop-input-preserved c =
    asleep_more c.args.run.now (c.args.time - 1) c.args.inputs.now c.loop-input.input-index None c.args.self.now c.loop-input.self c.read_one_asleep.new.self c.loop-input-test.true c.loop-input.invariant (record {
      kept = c.in_ok-read_one_asleep.ensures.kept;
      cursors = c.in_ok-read_one_asleep.ensures.cursors;
      complete = c.in_ok-read_one_asleep.ensures.complete;
      counts = c.in_ok-read_one_asleep.ensures.asleep;
    })

pub returns-clause-asleep : goal.returns-clause-asleep
returns-clause-asleep c =
    (subst (λ (ps : List (Option ℕ)). AreAsleep c.args.run.now (c.args.time - 1) ps c.args.self.now c.loop-input.self) (take_all c.loop-input.input-index c.args.inputs.now c.loop-input-test.false)
    c.loop-input.invariant).counts
