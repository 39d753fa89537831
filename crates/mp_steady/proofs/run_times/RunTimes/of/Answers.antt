use Rattle.std.proofs.Common.{List, take, subst, sym, arith}
use Rattle.std.proofs.lemmas.List.{take_all}
use Rattle.mp_records.specs.declared.ids.WireId.{WireId}
use Rattle.mp_steady.specs.RunTimes.{AreTimes}
use Rattle.mp_steady.specs.WireSets.{numbers}
use Rattle.mp_steady.proofs.ListLemmas.{numbers_more}
use Rattle.mp_steady.proofs.run_times.RunTimes.of.Goals as goal

pub loop-wire-preserved : goal.loop-wire-preserved
loop-wire-preserved c =
    let set = c.args.set in
    let i = c.loop-wire.wire-index in
    let none : WireId = record { 0 = 0 } in
    subst (λ ws. AreTimes set.of.netlist.now ws c.add.new.self) (sym (numbers_more set.wires.now i none c.loop-wire-test.true))
    (c.add.ensures (numbers (take i set.wires.now)) c.loop-wire.invariant)

pub returns : goal.returns
returns c =
    let set = c.args.set in
    subst (λ (ws : List WireId). AreTimes set.of.netlist.now (numbers ws) c.loop-wire.times) (take_all c.loop-wire.wire-index set.wires.now (omega (arith, c.loop-wire-test.false))) c.loop-wire.invariant
