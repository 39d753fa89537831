use Rattle.std.proofs.Common.{◌≡◌, ap, ◌∙◌, inl, inr}
use Rattle.mp_active.specs.declared.compare.wire_source.WireSource.{WireSource}
use Rattle.mp_active.specs.compare.Comparing.{source_at}
use Rattle.mp_active.proofs.lemmas.compare.BeginningLemmas.{followed_listed}
use Rattle.mp_active.proofs.compare.comparison.Comparison.list_wire.Goals as goal

pub returns-in_ok-list-clause-listed : goal.returns-in_ok-list-clause-listed
returns-in_ok-list-clause-listed c either x low of needed =
    let was = c.args.self.now in
    let wire = c.args.wire in
    let zero : (source_at was wire).until ≡ 0 = elim either as (λ _. (source_at was wire).until ≡ 0) [
      | inl new_is ↦ absurd (c.if-source.false (ap (λ (s : WireSource). s.until) c.source_of-source.ensures ∙ new_is))
      | inr zero ↦ zero
    ] in
    followed_listed c.args.run.now wire was c.list.new.self zero (λ on. c.in_ok-list.ensures.listed) x of needed
