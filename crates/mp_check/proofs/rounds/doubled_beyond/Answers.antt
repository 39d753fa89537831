use Rattle.std.proofs.Common.{ℕ, List, length, ap, ◌∙◌}
use Rattle.mp_check.specs.Doubling.{number_in}
use Rattle.mp_check.proofs.WayLemmas.{beyond_twice, beyond_and_one}
use Rattle.mp_check.proofs.rounds.doubled_beyond.Goals as goal

pub returns-then-and_one : goal.returns-then-and_one
returns-then-and_one c count are low =
    let n = c.args.next.now in
    let half = c.args.half.now in
    let middle_is = c.number_in-middle.ensures ∙ ap (λ (l : List ℕ). number_in (length n) l c.args.number) c.as_slice.ensures.value in
    let end_is = c.number_in-end.ensures ∙ ap (λ (l : List ℕ). number_in (length n) l c.number_in-middle.result) c.as_slice-2.ensures.value in
    rw c.if-and_one.true (c.number_in.ensures ∙ beyond_and_one n c.requires.next half count c.args.number are low c.number_in-middle.result c.number_in-end.result middle_is end_is)

pub returns : goal.returns
returns c count are low =
    let n = c.args.next.now in
    let half = c.args.half.now in
    let middle_is = c.number_in-middle.ensures ∙ ap (λ (l : List ℕ). number_in (length n) l c.args.number) c.as_slice.ensures.value in
    let end_is = c.number_in-end.ensures ∙ ap (λ (l : List ℕ). number_in (length n) l c.number_in-middle.result) c.as_slice-2.ensures.value in
    rw c.if-and_one.false (beyond_twice n c.requires.next half count c.args.number are low c.number_in-middle.result c.number_in-end.result middle_is end_is)
