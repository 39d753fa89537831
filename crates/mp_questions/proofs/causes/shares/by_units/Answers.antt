use Rattle.std.proofs.Common.{subst, rules}
use Rattle.std.specs.List.Sorted.{IsPermutation}
use Rattle.std.proofs.lemmas.Fn.{filter_same}
use Rattle.std.proofs.lemmas.List.Sorted.{answers_always}
use Rattle.mp_questions.specs.causes.Shares.{has_steps}
use Rattle.mp_questions.proofs.lemmas.causes.OrderLemmas.{key_of, sorted_is}
use Rattle.mp_questions.proofs.causes.shares.by_units.Goals as goal

pub returns : goal.returns
returns c =
    let kept = filter_same _ has_steps _ (λ x b f called. search rules) c.args.shares.items _ c.retain.ensures.filtered in
    let order = c.sort_unstable_by_key.ensures.sorted key_of (answers_always _ _ _ (λ f a r g called. search rules)) in
    sorted_is c.args.shares.items c.sort_unstable_by_key.new.self.items c.requires (subst (λ xs. IsPermutation xs c.sort_unstable_by_key.new.self.items) kept c.sort_unstable_by_key.ensures.permutation) order
