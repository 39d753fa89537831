use Rattle.mp_text.proofs.lemmas.lexing.Names.{◌≡◌, ◌+◌, ◌≤◌, not, length, take, suffix_len, is_slash}
use Rattle.mp_text.proofs.lexing.number.behind_slash.Given as goal

-- the bytes from here on hold no slash
abbrev pub invariant-loop-from : goal.invariant-loop-from
invariant-loop-from l = record {
  within : l.from ≤ length l.word;
  counted : l.from + suffix_len (λ byte. not (is_slash byte)) l.word ≡ length l.word + suffix_len (λ byte. not (is_slash byte)) (take l.from l.word);
}

abbrev pub decreases-loop-from : goal.decreases-loop-from
decreases-loop-from l = l.from
