use Rattle.std.proofs.Common.{◌≡◌, ◌+◌, ◌<◌, Option, IsSome, length, ap, ◌∙◌, arith}
use Rattle.std.proofs.lemmas.List.{length_push}
use Rattle.std.specs.Vec.Iter.{into_iter_items, into_iter_len}
use Rattle.mp_wave.specs.Waveform.{Waveform}
use Rattle.mp_simulation.proofs.lemmas.run.NarrowLemmas.{bit_level}
use Rattle.mp_simulation.proofs.lemmas.run.FoundLemmas.{one_item}
use Rattle.mp_simulation.proofs.lemmas.run.RunLemmas.{one_wave, waves_more, all_waves}
use Rattle.mp_simulation.proofs.run.waves_run.bit_waves.Goals as goal

pub loop-w-preserved : goal.loop-w-preserved
loop-w-preserved c =
    let n = c.args.netlist.now in
    let w = c.loop-w.w in
    let before = c.loop-w.invariant in
    let long = before.long in
    let low : c.loop-w.w < length c.args.netlist.now.wires = omega arith in
    let some_left : 0 < into_iter_len c.loop-w.rest = omega arith in
    let some : IsSome c.next.result = c.next.ensures.variant.1 some_left in
    let one = one_item c.next.result some in
    let less = c.next.ensures.len in
    let first = one_wave n c.args.simulation w (into_iter_items c.loop-w.rest) (into_iter_items c.next.new.self) c.next.result c.requires.over (bit_level n c.requires.form c.requires.narrow w) low before.left c.next.ensures.items some in
    record {
      left = first.1;
      long = omega arith;
      count = ap (length {A = Option Waveform}) c.in_ok-push.ensures.items ∙ length_push c.loop-w.found.items c.wave_of.result ∙ ap (λ k. k + 1) before.count;
      each = waves_more n w c.loop-w.found.items c.push.new.self.items c.wave_of.result before.count c.in_ok-push.ensures.items (c.wave_of.ensures ∙ first.0) before.each;
    }

pub returns : goal.returns
returns c =
    let n = c.args.netlist.now in
    let count = c.loop-w.invariant.count in
    let all : c.loop-w.w ≡ length c.args.netlist.now.wires = omega arith in
    all_waves n c.loop-w.found.items (count ∙ all) (λ k low. c.loop-w.invariant.each k (omega arith))
