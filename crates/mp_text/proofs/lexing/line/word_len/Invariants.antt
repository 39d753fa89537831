use Rattle.mp_text.proofs.lemmas.lexing.Names.{◌≡◌, ◌-◌, ◌≤◌, true, length, take, list_all, is_word_byte}
use Rattle.mp_text.proofs.lexing.line.word_len.Given as goal

-- the bytes so far are those of a word
abbrev pub invariant-loop-at : goal.invariant-loop-at
invariant-loop-at l = record {
  within : l.at ≤ length l.bytes;
  word : list_all is_word_byte (take l.at l.bytes) ≡ true;
}

abbrev pub decreases-loop-at : goal.decreases-loop-at
decreases-loop-at l = length l.bytes - l.at
