-- The words for what a check tells beside findings.
use Rattle.std.specs.Prelude.{ℕ, List, codes}
use Rattle.mp_request.specs.declared.explain.check_word.CheckWord.{CheckWord}
use Rattle.mp_request.specs.declared.explain.check_word.CheckWord.TheVariants.{Late, Deadlock, Becomes, Undriven, Unread, Busy}

abbrev pub word_of : CheckWord → List ℕ
word_of Late = codes "late"
word_of Deadlock = codes "deadlock"
word_of Becomes = codes "becomes"
word_of Undriven = codes "undriven"
word_of Unread = codes "unread"
word_of Busy = codes "busy"
