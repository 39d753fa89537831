use Rattle.mp_text.proofs.lemmas.lexing.Names.{◌≡◌, take, list_all, is_allowed}
use Rattle.mp_text.proofs.lexing.line.is_plain.Given as goal

-- the bytes so far are told
abbrev pub invariant-loop-byte : goal.invariant-loop-byte
invariant-loop-byte l = l.plain ≡ list_all is_allowed (take l.byte-index l.line)
