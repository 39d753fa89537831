use Rattle.mp_text.proofs.lemmas.lexing.Names.{◌≡◌, length, texts, with_front, AreAscii}
use Rattle.mp_text.specs.lexing.Lines.{line_words}
use Rattle.mp_text.proofs.lexing.line.read_line_words.Given as goal

-- the words so far, and those of the rest, are those of the line
abbrev pub invariant-loop-rest : goal.invariant-loop-rest
invariant-loop-rest l = record {
  same : with_front (texts l.words.items) (line_words l.rest) ≡ line_words l.line;
  ascii : AreAscii l.words.items;
}

abbrev pub decreases-loop-rest : goal.decreases-loop-rest
decreases-loop-rest l = length l.rest
