use Rattle.std.proofs.Common.{◌≡◌, ◌<◌, ◌+◌, Some, None, length, arith, refl, sym, ap, subst, ◌∙◌}
use Rattle.std.specs.Prelude.{slice_index_or, slice_set}
use Rattle.std.proofs.Math.ListN.{length-set}
use Rattle.std.proofs.lemmas.List.{get_or_default, get_or_read}
use Rattle.mp_kernel.specs.declared.events.output_port.OutputPort.{OutputPort}
use Rattle.mp_kernel.specs.events.Firing.{copy_at, no_port}
use Rattle.mp_active.proofs.lemmas.compare.NumberingLemmas.{IsNoting, noting_starts, noting_goes_on, noted_right}
use Rattle.mp_active.proofs.compare.numbers.note_delays.Goals as goal
use Rattle.mp_active.proofs.lemmas.compare.ChainLemmas.{none_of}

pub loop-number-init : goal.loop-number-init
loop-number-init c = record {
  places = refl;
  within = c.requires.within;
  noting = λ source are own. noting_starts source c.args.next.now c.args.wire c.args.delays.now.items c.requires.first own;
}

pub loop-number-preserved : goal.loop-number-preserved
loop-number-preserved c =
    let next = c.args.next.now in
    let number = c.loop-number.number in
    let copy = c.in-Some.copy in
    let delays = c.loop-number.delays.items in
    let places = c.loop-number.invariant.places in
    let within = c.loop-number.invariant.within in
    let port = get_or_default next number (record { wire = None; delay = 0 }) no_port within in
    let at : (copy_at next number).wire ≡ Some copy = ap (λ (p : OutputPort). p.wire) (sym port) ∙ c.in-Some.is in
    let low : copy < length next = c.requires.sources.1.within number copy at in
    let was : c.index.result.now ≡ slice_index_or delays number 0 = get_or_read delays number c.index.result.now (let a = places in let b = c.requires.places in omega arith) c.index.ensures 0 in
    let more : c.from.result ≡ (copy_at next number).delay = c.from.ensures ∙ ap (λ (p : OutputPort). p.delay) port in
    let sum : c.index.result.now + c.from.result ≡ slice_index_or delays number 0 + (copy_at next number).delay = omega arith in
    record {
      places = length-set delays copy (c.index.result.now + c.from.result) ∙ places;
      within = low;
      noting = λ source are own.
          subst (λ d. IsNoting source next c.args.wire copy c.args.delays.now.items (slice_set delays copy d)) (sym sum)
          (noting_goes_on source next c.args.wire number copy c.args.delays.now.items delays are at (let b = c.requires.places in omega arith) (c.loop-number.invariant.noting source are own));
    }

pub returns-clause-right : goal.returns-clause-right
returns-clause-right c source are own =
    let next = c.args.next.now in
    let number = c.loop-number.number in
    let port = get_or_default next number (record { wire = None; delay = 0 }) no_port c.loop-number.invariant.within in
    let over = none_of (copy_at next number).wire (λ x e. c.in_default.not-Some x (ap (λ (p : OutputPort). p.wire) port ∙ e)) in
    noted_right source next c.args.wire number c.args.delays.now.items c.loop-number.delays.items are over (c.loop-number.invariant.noting source are own)
