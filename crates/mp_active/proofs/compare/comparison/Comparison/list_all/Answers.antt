use Rattle.std.proofs.Common.{length, sym, ap, subst, arith}
use Rattle.mp_active.specs.declared.compare.comparison.Comparison.{Comparison}
use Rattle.mp_active.specs.compare.Listing.{AreLinked}
use Rattle.mp_active.proofs.lemmas.compare.BeginningLemmas.{nothing_listed, listed_more, listed_all}
use Rattle.mp_active.proofs.compare.comparison.Comparison.list_all.Goals as goal

pub loop-wire-init : goal.loop-wire-init
loop-wire-init c = nothing_listed c.args.run.now c.args.self.now c.requires.cursors

pub list_wire-requires-clause-within : goal.list_wire-requires-clause-within
list_wire-requires-clause-within c =
    let less = c.loop-wire-test.true in
    let all = c.requires.wires in
    let same = ap (λ (s : Comparison). length s.sources.items) c.loop-wire.invariant.kept in
    omega arith

pub list_wire-requires-clause-cursors : goal.list_wire-requires-clause-cursors
list_wire-requires-clause-cursors c = c.loop-wire.invariant.cursors

pub list_wire-requires-clause-linked : goal.list_wire-requires-clause-linked
list_wire-requires-clause-linked c = subst AreLinked (sym (ap (λ (s : Comparison). s.numbers) c.loop-wire.invariant.kept)) c.requires.linked

pub loop-wire-preserved : goal.loop-wire-preserved
loop-wire-preserved c =
    listed_more c.args.run.now c.loop-wire.wire c.args.self.now c.loop-wire.self c.list_wire.new.self (let less = c.loop-wire-test.true in let all = c.requires.wires in omega arith) c.loop-wire.invariant
    c.in_ok-list_wire.ensures.kept c.in_ok-list_wire.ensures.cursors c.in_ok-list_wire.ensures.listed c.in_ok-list_wire.ensures.others

pub returns-clause-kept : goal.returns-clause-kept
returns-clause-kept c = c.loop-wire.invariant.kept

pub returns-clause-cursors : goal.returns-clause-cursors
returns-clause-cursors c = c.loop-wire.invariant.cursors

pub returns-clause-complete : goal.returns-clause-complete
returns-clause-complete c =
    listed_all c.args.run.now c.loop-wire.wire c.args.self.now c.loop-wire.self (let over = c.loop-wire-test.false in let all = c.requires.wires in omega arith) c.requires.cursors c.loop-wire.invariant
