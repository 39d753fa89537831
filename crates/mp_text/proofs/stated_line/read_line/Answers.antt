use Rattle.mp_text.proofs.Names.{drop, sym, ap, subst, ◌∙◌, option_copied, OutOfMemory, Gives, texts, texts_behind, stated_line}
use Rattle.mp_text.proofs.LineStartLemmas.{by_words, as_stated}
use Rattle.mp_text.proofs.stated_line.read_line.Goals as goal

pub returns-clause-read : goal.returns-clause-read
returns-clause-read c =
    let first = c.in-Some-from_word.first in
    let behind = texts_behind c.as_slice.result.now 1 ∙ ap (λ words. drop 1 (texts words)) c.as_slice.ensures.value ∙ ap (drop 1) c.in_ok-words.ensures.words in
    let whole =
    by_words c.args.line.now (sym c.is_plain.ensures.value ∙ c.if-not-is_plain.false)
    ∙ as_stated _ c.in-Some.word.now (sym c.first_word.ensures ∙ ap option_copied c.in-Some.is) first (sym c.from_word.ensures ∙ c.in-Some-from_word.is) in
    subst (Gives OutOfMemory (λ line. line) c.stated_line.result) (ap (stated_line first) behind ∙ sym whole) c.stated_line.ensures
