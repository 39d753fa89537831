use Rattle.mp_text.proofs.lemmas.lexing.Names.{refl, ◌∙◌, rules, tests, YieldsList-from_slice_split, nth_from_yields_List, YieldsList-from_filter, words_of, is_gap, is_word, statement_part}
use Rattle.mp_text.proofs.lexing.word.word_at.Goals as goal

pub returns : goal.returns
unfolding words_of
returns c =
    nth_from_yields_List c.nth.result _ c.args.place c.nth.ensures.ran
    (YieldsList-from_filter _ is_word
    (YieldsList-from_slice_split _ is_gap (statement_part c.args.line.now) (rw c.filter.ensures.source (c.split.ensures.rest ∙ c.before_comment.ensures)) (rw c.filter.ensures.source c.split.ensures.done) refl (λ x b q k. search (rules, tests)))
    c.filter.ensures.closure (λ x b q k. search (rules, tests)))
