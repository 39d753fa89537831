use Rattle.std.proofs.Common.{◌≡◌, List, ap, subst, length, ◌≤◌}
use mathlib.Core.List.{IsPrefix}
use Rattle.mp_version.specs.declared.publication.chronicle.HistoryEntry.{HistoryEntry}
use Rattle.mp_version.specs.publication.Chronicles.{authors}
use Rattle.mp_version.proofs.lemmas.publication.ChainLemmas.{authors_agree}
use Rattle.mp_version.proofs.publication.authors.Authors.begins_with.Goals as goal

pub returns : goal.returns
returns c le =
    let both = c.learn.new.self.log in let mine = c.self.inside.seen.log in let others = c.earlier.inside.seen.log in
    let this : IsPrefix mine both = subst (λ (l : List HistoryEntry). IsPrefix l both) (ap (λ s. s.log) c.again-both.ensures) c.learn.ensures.2 in
    let my_authors : authors mine ≡ c.args.self.now.authors = ap (λ a. a.authors) c.self.view_is in
    let others_authors : authors others ≡ c.args.earlier.now.authors = ap (λ a. a.authors) c.earlier.view_is in
    let le' : length (authors others) ≤ length (authors mine) = rw (my_authors, others_authors) le in
    rw (← my_authors, ← others_authors) (authors_agree mine others both c.self.invariant c.earlier.invariant this c.learn.ensures.3 le')
