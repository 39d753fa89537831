use Rattle.std.proofs.Common.{◌≤◌, length, subst, arith}
use Rattle.std.specs.Arc.{arc_value}
use Rattle.mp_desk.specs.Holders.{Seeing, GoesOn}
use Rattle.mp_version.specs.publication.Chronicles.{Shown, Follows}
use Rattle.mp_version.proofs.PrefixLemmas.{extends_length}
use Rattle.mp_desk.proofs.viewer.Viewer.part.Goals as goal

pub returns-clause-looked : goal.returns-clause-looked
returns-clause-looked g c =
    let now : Shown = c.args.publication.now in
    let f : Follows now _ = c.show.ensures.follows _ c.self.invariant.0 in
    let longer = extends_length now.story (arc_value c.self.inside.last) f.extends in
    let known = c.self.invariant.4 in
    let le : length c.self.inside.signed.authors ≤ length c.args.writer.now.authors = omega (arith, longer, known, c.requires.story) in
    subst (λ (z : Seeing). GoesOn now.story c.args.writer.now.authors z.last z.signed) c.self.view_is (record { extends = f.extends; begins = c.begins_with.ensures le })
