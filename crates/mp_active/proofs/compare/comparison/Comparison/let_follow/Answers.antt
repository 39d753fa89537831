use Rattle.std.proofs.Common.{◌+◌, ◌-◌, length, ap, arith}
use Rattle.mp_active.specs.declared.compare.comparison.Comparison.{Comparison}
use Rattle.mp_active.specs.compare.Waking.{from_then}
use Rattle.mp_active.proofs.lemmas.compare.WakingLemmas.{one_turned, follow_own}
use Rattle.mp_active.proofs.compare.comparison.Comparison.let_follow.Goals as goal

pub set_until-requires : goal.set_until-requires
set_until-requires c = record { within = c.requires.within.within c.in-Some.wire.0 c.in-Some.is }

pub list-requires-clause-within : goal.list-requires-clause-within
list-requires-clause-within c =
    let low = c.requires.within.within c.in-Some.wire.0 c.in-Some.is in
    let few = c.requires.cursors.shape.few in
    let same = ap (λ (s : Comparison). length s.numbers.wires.items) c.set_until.ensures.kept in
    omega arith

pub returns-clause-complete : goal.returns-clause-complete
returns-clause-complete c =
    let run = c.args.run.now in
    let was = c.args.self.now in
    let mid = c.set_until.new.self in
    let is = c.list.new.self in
    let wire = c.in-Some.wire.0 in
    let kept = c.set_until.ensures.kept in
    let t = c.args.time - 1 in
    (one_turned run t wire (from_then (c.args.time + c.args.output.delay)) was mid is kept c.set_until.ensures.sources c.in_ok-list.ensures.cursors
    (record { kept = c.in_ok-list.ensures.kept; others = c.in_ok-list.ensures.others })
    (follow_own run t wire was mid is (let some = c.requires.some in let low = c.requires.time in omega arith) kept (c.requires.own wire c.in-Some.is) c.in_ok-list.ensures.listed)).complete
