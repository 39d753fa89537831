use Rattle.std.proofs.Common.{All, subst, arith}
use Rattle.std.proofs.lemmas.List.{take_all}
use Rattle.std.proofs.lemmas.List.Elements.{All-more}
use Rattle.mp_records.specs.declared.ports.Input.{Input}
use Rattle.mp_redo.specs.parts.Drivers.{IsReadFrom}
use Rattle.mp_redo.proofs.parts.partition.are_driven_at.Goals as goal

pub loop-input-preserved : goal.loop-input-preserved
loop-input-preserved c =
    All-more (λ (input : Input). IsReadFrom c.args.drivers.now c.args.homes.now c.args.home input) c.args.inputs.now c.loop-input.input-index (record { wire = record { 0 = 0 }; delay = 0 })
    c.loop-input-test.true c.loop-input.invariant (c.is_driven_elsewhere.ensures.within c.if-is_driven_elsewhere.false)

pub returns : goal.returns
returns c = λ _. subst (All (λ (input : Input). IsReadFrom c.args.drivers.now c.args.homes.now c.args.home input)) (take_all c.loop-input.input-index c.args.inputs.now (omega arith)) c.loop-input.invariant
