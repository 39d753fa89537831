use Rattle.mp_text.proofs.lemmas.lexing.Names.{◌≡◌, drop, with_front, texts, each_word}
use Rattle.mp_text.proofs.lexing.word_list.each_word.Given as goal

-- what was read so far, and what the words that are left say
abbrev pub invariant-loop-word : goal.invariant-loop-word
invariant-loop-word g l = with_front l.items.items (each_word g.W.Worded.read (texts (drop l.word-index l.words))) ≡ each_word g.W.Worded.read (texts l.words)
