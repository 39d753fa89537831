use Rattle.std.proofs.Common.{◌≡◌, List, ap, subst, length, ◌≤◌}
use mathlib.Core.List.{IsPrefix}
use Rattle.mp_version.specs.declared.publication.chronicle.HistoryEntry.{HistoryEntry}
use Rattle.mp_version.specs.publication.Chronicles.{latest}
use Rattle.mp_version.proofs.lemmas.publication.ChainLemmas.{longer_extends}
use Rattle.mp_version.proofs.publication.log_prefix.LogPrefix.agrees.Goals as goal

pub returns : goal.returns
returns c le =
    let both = c.learn.new.self.log in let mine = c.self.inside.seen.log in let others = c.other.inside.seen.log in
    let this : IsPrefix mine both = subst (λ (l : List HistoryEntry). IsPrefix l both) (ap (λ s. s.log) c.again-both.ensures) c.learn.ensures.2 in
    let my_story : latest mine ≡ c.args.self.now.story = ap (λ f. f.story) c.self.view_is in
    let other_story : latest others ≡ c.args.other.now.story = ap (λ f. f.story) c.other.view_is in
    let le' : length (latest others).edits ≤ length (latest mine).edits = rw (my_story, other_story) le in
    rw (← my_story, ← other_story) (longer_extends mine others both c.learn.ensures.4.1.chain c.self.invariant c.other.invariant this c.learn.ensures.3 le')
