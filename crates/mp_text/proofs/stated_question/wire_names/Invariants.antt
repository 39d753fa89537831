use Rattle.mp_text.proofs.Names.{◌≡◌, take, texts}
use Rattle.mp_text.proofs.stated_question.wire_names.Given as goal

-- the names so far
abbrev pub invariant-loop-word : goal.invariant-loop-word
invariant-loop-word l = l.names.items ≡ texts (take l.word-index l.words)
