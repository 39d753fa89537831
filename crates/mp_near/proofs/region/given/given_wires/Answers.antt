use Rattle.std.proofs.Common.{◌≡◌, length, subst, arith}
use Rattle.mp_near.proofs.lemmas.region.GivenLemmas.{AreNoted, noted_more, are_given}
use Rattle.mp_near.proofs.region.given.given_wires.Goals as goal

pub loop-wire-preserved : goal.loop-wire-preserved
loop-wire-preserved c =
    rw c.in_ok-push.ensures.items
    (noted_more c.args.new.now c.args.modules.now c.args.wires.now c.loop-wire.wire-index c.loop-wire.given.items c.is_given.result 0 c.loop-wire-test.true c.is_given.ensures c.loop-wire.invariant)

pub returns : goal.returns
returns c =
    let all : c.loop-wire.wire-index ≡ length c.args.wires.now = omega arith in
    are_given c.args.new.now c.args.modules.now c.args.wires.now c.loop-wire.given.items
    (subst (λ count. AreNoted c.args.new.now c.args.modules.now c.args.wires.now count c.loop-wire.given.items) all c.loop-wire.invariant)
