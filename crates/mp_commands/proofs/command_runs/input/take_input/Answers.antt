use Rattle.mp_commands.proofs.lemmas.command_runs.Names.{◌≡◌, ◌+◌, ◌-◌, ◌<◌, ◌≤◌, ◌++◌, ℕ, List, IfSome, length, sym, ap, subst, ◌∙◌, rules, max_short_text, text_limit, taken_of}
use Rattle.mp_commands.proofs.lemmas.command_runs.InputLemmas.{first_taken, more_taken, takes_first, takes_more, within_limit}
use Rattle.mp_commands.proofs.command_runs.input.take_input.Goals as goal

-- ---- the first bytes alone

pub returns-in_err-input-clause-taken : goal.returns-in_err-input-clause-taken
returns-in_err-input-clause-taken g c = let some = c.in_err-input.ensures.err in takes_first _ _ some.0 some.2 some.1

pub returns-then-min-le-MAX_SHORT_TEXT-clause-front : goal.returns-then-min-le-MAX_SHORT_TEXT-clause-front
returns-then-min-le-MAX_SHORT_TEXT-clause-front g c =
    let first = c.in_ok-input.ensures in
    first_taken _ _ c.in_ok-input.input.items first.taken first.limit first.end first.front (search rules)

pub returns-then-min-le-MAX_SHORT_TEXT-clause-taken : goal.returns-then-min-le-MAX_SHORT_TEXT-clause-taken
returns-then-min-le-MAX_SHORT_TEXT-clause-taken g c = let first = c.in_ok-input.ensures in takes_first _ _ c.in_ok-input.input.items first.taken first.limit

-- ---- and more

pub returns-in_err-take_more-clause-taken : goal.returns-in_err-take_more-clause-taken
returns-in_err-take_more-clause-taken g c =
    let first = c.in_ok-input.ensures in
    let some = c.in_err-take_more.ensures.err in
    let limit = c.text_limit-limit.ensures.value ∙ ap text_limit c.as_slice.ensures.value in
    takes_more _ _ _ c.in_ok-input.input.items some.0 first.taken some.2 first.limit (subst (λ k. length some.0 ≤ k - max_short_text) limit some.1) first.front

pub returns-clause-within : goal.returns-clause-within
returns-clause-within g c =
    let first = c.in_ok-input.ensures in
    let more = c.in_ok-take_more.ensures.more in
    let limit = c.text_limit-limit.ensures.value ∙ ap text_limit c.as_slice.ensures.value in
    subst (λ (text : List ℕ). length text ≤ text_limit text + 1) (sym more.text)
    (within_limit c.in_ok-input.input.items more.bytes (search rules) first.limit (subst (λ k. length more.bytes ≤ k - max_short_text) limit more.within))

pub returns-clause-front : goal.returns-clause-front
returns-clause-front g c =
    let first = c.in_ok-input.ensures in
    let more = c.in_ok-take_more.ensures.more in
    let limit = c.text_limit-limit.ensures.value ∙ ap text_limit c.as_slice.ensures.value in
    subst (λ (text : List ℕ). IfSome (g.S.Source.left c.args.source.now) (λ bytes. text ≡ taken_of bytes)) (sym more.text)
    (more_taken _ _ _ c.in_ok-input.input.items more.bytes first.taken more.taken first.limit (search rules) (subst (λ k. length more.bytes ≤ k - max_short_text) limit more.within) (λ less. more.end (subst (λ k. length more.bytes < k - max_short_text) (sym limit) less)) first.front)

pub returns-clause-taken : goal.returns-clause-taken
returns-clause-taken g c =
    let first = c.in_ok-input.ensures in
    let more = c.in_ok-take_more.ensures.more in
    let limit = c.text_limit-limit.ensures.value ∙ ap text_limit c.as_slice.ensures.value in
    takes_more _ _ _ c.in_ok-input.input.items more.bytes first.taken more.taken first.limit (subst (λ k. length more.bytes ≤ k - max_short_text) limit more.within) first.front
