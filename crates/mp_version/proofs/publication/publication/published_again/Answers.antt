use Rattle.std.proofs.Common.{rules, ◌≡◌, ◌∷◌, [], drop, fold, true, ap, ◌∙◌}
use Rattle.std.specs.Prelude.{is_ok}
use Rattle.mp_version.proofs.lemmas.publication.ShowingLemmas.{fold_same, ok_part}
use Rattle.mp_version.proofs.publication.publication.published_again.Goals as goal

pub published-writer-requires : goal.published-writer-requires
published-writer-requires g c =
    let w = c.append.new.self in
    let pending : drop w.behind w.log.items ≡ c.args.again ∷ [] = search rules in
    let same : c.args.again ≡ w.desk.shown.value = search rules in
    fold_same w.desk.shown.value c.args.again _ pending same

pub returns : goal.returns
returns g c =
    let w = c.append.new.self in
    let well : is_ok c.published-writer.result.1 ≡ true = search rules in
    let shown = ok_part c.published-writer.result.1 _ _ c.published-writer.ensures well in
    let pending : drop w.behind w.log.items ≡ c.args.again ∷ [] = search rules in
    (shown.0 ∙ ap (fold (λ _ v. v) w.desk.shown.value) pending, shown.1)
