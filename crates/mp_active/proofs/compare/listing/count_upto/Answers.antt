use Rattle.std.proofs.Common.{ℕ, ◌-◌, length, ap, ◌∙◌, arith}
use Rattle.mp_active.proofs.lemmas.compare.ListingLemmas.{counted, between_short}
use Rattle.mp_active.proofs.compare.listing.count_upto.Goals as goal

pub overflow_sub-result : goal.overflow_sub-result
overflow_sub-result c =
    let short = between_short c.args.time 4294967295 c.args.wave.now.changes in
    let all = c.len.ensures ∙ ap (length {A = ℕ × ℕ}) c.changes.ensures.value in
    let some = c.len-2.ensures ∙ ap (length {A = ℕ × ℕ}) c.changes_between.ensures.value in
    omega arith

pub returns : goal.returns
returns c =
    let all = c.len.ensures ∙ ap (length {A = ℕ × ℕ}) c.changes.ensures.value in
    let some = c.len-2.ensures ∙ ap (length {A = ℕ × ℕ}) c.changes_between.ensures.value in
    counted c.args.time 4294967295 c.args.wave.now.initial (c.len.result - c.len-2.result) c.args.wave.now.changes c.changes.ensures.form c.requires (omega arith)
