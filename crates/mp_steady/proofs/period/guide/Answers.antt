use Rattle.std.proofs.Common.{◌<◌, ◌≤◌, get_or, ◌+◌, take, ◌∙◌, arith}
use Rattle.std.specs.List.{Contains}
use Rattle.std.proofs.lemmas.List.Elements.{Contains-get_or}
use Rattle.mp_wave.specs.WaveChanges.{changes_in}
use Rattle.mp_records.specs.declared.ids.WireId.{WireId}
use Rattle.mp_model.specs.Waves.{level}
use Rattle.mp_questions.specs.timing.Events.{since}
use Rattle.mp_steady.specs.declared.period.Candidate.{Candidate}
use Rattle.mp_steady.specs.Periods.{last_change, last_unit}
use Rattle.mp_steady.specs.WireSets.{numbers}
use Rattle.mp_steady.proofs.ListLemmas.{greatest_more}
use Rattle.mp_steady.proofs.PeriodLemmas.{chosen, late_is, none_more}
use Rattle.mp_steady.proofs.period.guide.Goals as goal

abbrev no_wire : WireId
no_wire = record { 0 = 0 }

pub loop-wire-preserved-then-time_of-from : goal.loop-wire-preserved-then-time_of-from
loop-wire-preserved-then-time_of-from c =
    let n = c.args.set.of.netlist.now in
    let wires = c.args.set.wires.now in
    let i = c.loop-wire.wire-index in
    let w = get_or wires i no_wire in
    let late = c.time_of.ensures ∙ late_is n w.0 c.wave_of.result.now (changes_in c.changes-changes.result) c.changes-changes.ensures.value c.wave_of.ensures in
    let more = greatest_more (λ v. since (level n v) (last_unit n)) wires i no_wire c.loop-wire-test.true in
    record {
      none = none_more c.loop-wire.found (last_change n (numbers (take i wires)) ≤ c.heard_from-from.result) (last_change n (numbers (take (i + 1) wires)) ≤ c.heard_from-from.result) (λ low. omega (arith, more, low, late)) c.loop-wire.invariant.none;
      some = c.loop-wire.invariant.some;
      late = c.loop-wire.invariant.late;
    }

pub loop-wire-preserved : goal.loop-wire-preserved
loop-wire-preserved c =
    let n = c.args.set.of.netlist.now in
    let wires = c.args.set.wires.now in
    let i = c.loop-wire.wire-index in
    let w = get_or wires i no_wire in
    let late = c.time_of.ensures ∙ late_is n w.0 c.wave_of.result.now (changes_in c.changes-changes.result) c.changes-changes.ensures.value c.wave_of.ensures in
    let other : Candidate = record { wire = w; count = c.len-count.result } in
    record {
      none = tt;
      some = chosen (λ (x : Candidate). Contains wires x.wire) c.loop-wire.found other c.with_fewer.result c.with_fewer.ensures (Contains-get_or wires i no_wire c.loop-wire-test.true) c.loop-wire.invariant.some;
      late = chosen (λ (x : Candidate). c.heard_from-from.result < since (level n x.wire.0) (last_unit n)) c.loop-wire.found other c.with_fewer.result c.with_fewer.ensures (omega (arith, late)) c.loop-wire.invariant.late;
    }
