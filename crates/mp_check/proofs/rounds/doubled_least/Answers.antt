use Rattle.std.proofs.Common.{ℕ, List, length, min, ap, refl, ◌∙◌}
use Rattle.mp_check.specs.Doubling.{number_in}
use Rattle.mp_check.proofs.WayLemmas.{least_twice, least_and_one}
use Rattle.mp_check.proofs.rounds.doubled_least.Goals as goal

pub returns-then-and_one : goal.returns-then-and_one
returns-then-and_one c count are low =
    let n = c.args.next.now in
    let half = c.args.half.now in
    let middle = c.number_in-middle.result in
    let middle_is = c.number_in-middle.ensures ∙ ap (λ (l : List ℕ). number_in (length n) l c.args.number) c.as_slice.ensures.value in
    let first_is = c.number_in-first.ensures ∙ ap (λ (l : List ℕ). number_in (length n) l c.args.number) c.as_slice-2.ensures.value in
    let second_is = c.number_in-second.ensures ∙ ap (λ (l : List ℕ). number_in (length n) l middle) c.as_slice-3.ensures.value in
    let end_is = c.number_in-end.ensures ∙ ap (λ (l : List ℕ). number_in (length n) l middle) c.as_slice-then-and_one.ensures.value in
    rw c.if-and_one.true
    (c.min-then-and_one.ensures ∙ ap (λ a. min a c.number_in-end.result) c.min.ensures
    ∙ least_and_one n c.requires.next half count c.args.number are low middle c.number_in-end.result middle_is end_is c.number_in-first.result c.number_in-second.result first_is second_is)

pub returns : goal.returns
returns c count are low =
    let n = c.args.next.now in
    let half = c.args.half.now in
    let middle = c.number_in-middle.result in
    let middle_is = c.number_in-middle.ensures ∙ ap (λ (l : List ℕ). number_in (length n) l c.args.number) c.as_slice.ensures.value in
    let first_is = c.number_in-first.ensures ∙ ap (λ (l : List ℕ). number_in (length n) l c.args.number) c.as_slice-2.ensures.value in
    let second_is = c.number_in-second.ensures ∙ ap (λ (l : List ℕ). number_in (length n) l middle) c.as_slice-3.ensures.value in
    rw c.if-and_one.false
    (c.min-2.ensures
    ∙ least_twice n c.requires.next half count c.args.number are low middle (number_in (length n) half.beyond.items middle) middle_is refl c.number_in-first.result c.number_in-second.result first_is second_is)
