use Rattle.std.proofs.Common.{◌≡◌, ◌-◌, ◌<◌, ℕ, length}
use Rattle.std.specs.Prelude.{slice_index_or}
use Rattle.mp_active.specs.compare.Numbering.{AreSources}
use Rattle.mp_active.proofs.lemmas.compare.NumberingLemmas.{IsNoting}
use Rattle.mp_active.proofs.compare.numbers.note_delays.Given as goal

-- the numbers of the wire are noted up to one
abbrev pub invariant-loop-number : goal.invariant-loop-number
invariant-loop-number l = record {
  places : length l.delays.items ≡ length l.fn.delays.items;
  within : l.number < length l.next;
  noting : (source : ℕ → ℕ × ℕ) → AreSources source l.next → source l.wire ≡ (l.wire, 0) → IsNoting source l.next l.wire l.number l.fn.delays.items l.delays.items;
}

abbrev pub decreases-loop-number : goal.decreases-loop-number
decreases-loop-number l = 65535 - slice_index_or l.delays.items l.number 0
