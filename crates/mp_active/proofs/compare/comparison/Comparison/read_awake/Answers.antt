use Rattle.std.proofs.Common.{ℕ, List, take, None, subst}
use Rattle.std.specs.Prelude.{Option}
use Rattle.std.proofs.lemmas.List.{take_all}
use Rattle.mp_active.proofs.lemmas.compare.AsleepLemmas.{AreAwake, awake_none, awake_more, awake_reads, awake_shape}
use Rattle.mp_active.proofs.compare.comparison.Comparison.read_awake.Goals as goal

pub loop-input-init : goal.loop-input-init
loop-input-init c = awake_none c.args.self.now

pub read_one_awake-requires-clause-shape : goal.read_one_awake-requires-clause-shape
read_one_awake-requires-clause-shape c = awake_shape (take c.loop-input.input-index c.args.inputs.now) c.args.self.now c.loop-input.self c.loop-input.invariant c.requires.shape

pub read_one_awake-requires-clause-counted : goal.read_one_awake-requires-clause-counted
read_one_awake-requires-clause-counted c = awake_reads c.args.inputs.now c.loop-input.input-index None c.args.self.now c.loop-input.self c.loop-input-test.true c.loop-input.invariant c.requires.counted

pub loop-input-preserved : goal.loop-input-preserved
loop-input-preserved c =
    awake_more c.args.inputs.now c.loop-input.input-index None c.args.self.now c.loop-input.self c.read_one_awake.new.self c.loop-input-test.true c.loop-input.invariant
    (record { kept = c.read_one_awake.ensures.kept; places = c.read_one_awake.ensures.places; counts = c.read_one_awake.ensures.asleep })

pub returns-clause-asleep : goal.returns-clause-asleep
returns-clause-asleep c =
    (subst (λ (ps : List (Option ℕ)). AreAwake ps c.args.self.now c.loop-input.self) (take_all c.loop-input.input-index c.args.inputs.now c.loop-input-test.false) c.loop-input.invariant).counts
