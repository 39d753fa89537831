use Rattle.std.proofs.Common.{◌≡◌, ℕ, length}
use Rattle.mp_active.specs.compare.Numbering.{HasWires}
use Rattle.mp_active.proofs.lemmas.compare.NumberingLemmas.{AreNotedTo}
use Rattle.mp_active.proofs.compare.numbers.delays_of.Given as goal

-- the numbers of the wires so far are noted
abbrev pub invariant-loop-wire : goal.invariant-loop-wire
invariant-loop-wire l = record {
  places : length l.delays.items ≡ length l.next;
  noted : (source : ℕ → ℕ × ℕ) → HasWires l.wires source l.next → AreNotedTo source l.next l.wire l.delays.items;
}
