use Rattle.std.proofs.Common.{◌≡◌, List, Bool, false, true, [], sym, ap, ◌∙◌, subst, arith, inl, inr}
use Rattle.std.proofs.lemmas.Bool.{cases_lt}
use Rattle.std.proofs.lemmas.List.{get_or_past, get_or_read}
use Rattle.mp_partition.specs.runs.Marks.{is_marked}
use Rattle.mp_partition.specs.regions.Divisions.{heard_by}
use Rattle.mp_partition.proofs.regions.crossing.is_heard_anywhere.Goals as goal

pub loop-heard-preserved : goal.loop-heard-preserved
loop-heard-preserved c k low =
    let heards = c.args.heards.now in
    let w = c.args.wire.0 in
    elim (cases_lt k c.loop-heard.heard-index) as (λ _. is_marked (heard_by heards k) w ≡ false) [
      | inl before ↦ c.loop-heard.invariant k before
      | inr now ↦
          let same : c.loop-heard.heard-index ≡ k = omega (arith, low, now) in
          let here = c.as_slice.ensures ∙ get_or_read heards c.loop-heard.heard-index c.heard-item.result c.loop-heard-test.true c.heard-item.is [] in
          subst (λ j. is_marked (heard_by heards j) w ≡ false) same (ap (λ (marks : List Bool). is_marked marks w) (sym here) ∙ sym c.if-is_heard.ensures)
    ]

pub returns : goal.returns
returns c k marked =
    let heards = c.args.heards.now in
    let w = c.args.wire.0 in
    elim (cases_lt k c.loop-heard.heard-index) as (λ _. false ≡ true) [
      | inl low ↦ sym (c.loop-heard.invariant k low) ∙ marked
      | inr past ↦
          let gone : heard_by heards k ≡ [] = get_or_past heards k [] (let end = c.loop-heard-test.false in omega (arith, past, end)) in
          sym (ap (λ (marks : List Bool). is_marked marks w) gone) ∙ marked
    ]
