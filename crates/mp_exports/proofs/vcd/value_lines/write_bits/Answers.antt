use Rattle.mp_exports.proofs.lemmas.vcd.Names.{◌≡◌, ◌+◌, ◌-◌, ◌<◌, ◌≤◌, ◌/◌, ◌++◌, drop, length, slice_set, rules, sym, ap, ◌∙◌, arith, take-set-le, length-set, placed_between, bit, bits}
use Rattle.mp_exports.proofs.lemmas.vcd.CodeLemmas.{bits_step, bits_long}
use Rattle.mp_exports.proofs.vcd.value_lines.write_bits.Goals as goal

pub loop-place-preserved : goal.loop-place-preserved
loop-place-preserved c =
    let at = c.args.at in
    let place = c.loop-place.place in
    let room = c.loop-place.room in
    let rest = c.loop-place.rest in
    let more : at < place = search rules in
    let within : place ≤ length room = omega (arith, c.loop-place.invariant.long, c.loop-place.invariant.high, c.requires) in
    let next : place - at - 1 ≡ place - 1 - at = omega arith in
    record {
      low = omega arith;
      high = omega (arith, c.loop-place.invariant.high);
      long = length-set room _ _ ∙ c.loop-place.invariant.long;
      before = take-set-le at room (place - 1) _ (omega arith) ∙ c.loop-place.invariant.before;
      same = rw c.bit.ensures (bits_step (bits c.args.width c.args.level ++ drop (at + c.args.width) c.args.room.now) room place (place - at) rest (omega arith) (omega arith) within c.loop-place.invariant.same
          ∙ ap (λ k. bits k (rest / 2) ++ drop (place - 1) (slice_set room (place - 1) (bit rest))) next);
    }

pub returns-clause-placed : goal.returns-clause-placed
unfolding bits
returns-clause-placed c =
    let at = c.args.at in
    let none : c.loop-place.place ≡ at = omega (arith, c.loop-place.invariant.low) in
    let empty : c.loop-place.place - at ≡ 0 = omega (arith, none) in
    let behind = sym (rw (empty, none) at c.loop-place.invariant.same) in
    placed_between c.args.room.now c.loop-place.room (bits c.args.width c.args.level) at (at + c.args.width) c.loop-place.invariant.before behind
    (ap (λ k. at + k) (bits_long c.args.width c.args.level)) c.requires c.loop-place.invariant.long
