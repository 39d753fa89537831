use Rattle.std.proofs.Common.{arith}
use Rattle.mp_modules.proofs.lemmas.automata.CodeLemmas.{state_low}
use Rattle.mp_modules.proofs.automata.transition_table.all_transitions.Goals as goal

pub returns : goal.returns
returns c = record {
  places = let i = c.loop-place.invariant.0 in let e = c.loop-place.auto.place-end in let t = c.loop-place-test.false in omega arith;
  each = λ a k e. let t = c.loop-place-test.false in let low = state_low a k e in c.loop-place.invariant.1 a k e (omega arith);
}
