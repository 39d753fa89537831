use Rattle.std.proofs.Common.{◌≡◌, length, rules}
use Rattle.mp_phase.specs.Phase.{AreDone}
use Rattle.mp_redo.specs.parts.Redone.{AreRedone}
use Rattle.mp_redo.proofs.lemmas.parts.OkLemmas.{on_ok}
use Rattle.mp_redo.proofs.lemmas.parts.JoinLemmas.{is_part, all_redone}
use Rattle.mp_redo.proofs.parts.together.redo_together.Goals as goal

pub returns : goal.returns
returns g c =
    let results = c.in_ok-redone.redone.items in
    let count : length results ≡ c.args.change.partition.now.division.parts = search rules in
    on_ok c.all_of.result (λ parts. AreDone is_part results parts.items) (λ parts. AreRedone c.args.change parts.items)
    (λ parts are. all_redone c.args.change results parts.items count (λ k d low. (c.in_ok-redone.ensures.each k d low).1.met) are) c.all_of.ensures
