use Rattle.std.proofs.Common.{rules, ◌≡◌, ◌≤◌, List, ◌∷◌, length, ap, sym, ◌∙◌, subst, inl, arith}
use mathlib.Core.List.{IsPrefix}
use Rattle.mp_version.specs.Stories.{Story}
use Rattle.std.specs.Arc.{arc_value}
use Rattle.mp_version.specs.Extending.{Extends}
use Rattle.mp_version.specs.publication.Chronicles.{Shown, Follows, Signed}
use Rattle.mp_desk.specs.Holders.{Seeing}
use Rattle.mp_version.specs.publication.Knowing.{Known, Has, stories_of}
use Rattle.mp_version.proofs.lemmas.publication.KeepingLemmas.{covers_has}
use Rattle.mp_version.proofs.PrefixLemmas.{extends_length}
use Rattle.mp_version.proofs.lemmas.publication.ShowingLemmas.{shown_is}
use Rattle.mp_desk.proofs.viewer.Viewer.read.Goals as goal

pub agrees-requires : goal.agrees-requires
agrees-requires g c =
    let p : Shown = c.in_ok-published.published in
    let f : Follows p _ = covers_has p _ _ c.in_ok-published.ensures.0 c.self.invariant.0 in
    c.self.invariant.1 ∙ (sym f.same_book ∙ sym (ap (λ (z : Shown). z.book) c.prefix.ensures))

pub begins_with-requires : goal.begins_with-requires
begins_with-requires g c =
    let p : Shown = c.in_ok-published.published in
    let f : Follows p _ = covers_has p _ _ c.in_ok-published.ensures.0 c.self.invariant.0 in
    c.self.invariant.3 ∙ sym f.same_book ∙ sym c.into_parts-version.ensures.book ∙ sym (ap (λ (s : Signed). s.book) c.into_parts-list.ensures.authors)

pub invariant_of-self-2 : goal.invariant_of-self-2
invariant_of-self-2 g c =
    let p : Shown = c.in_ok-published.published in
    let f : Follows p _ = covers_has p _ _ c.in_ok-published.ensures.0 c.self.invariant.0 in
    let same : c.in_ok-copy.copy.value ≡ arc_value c.into_parts-version.result.0 = search rules in
    let is : p ≡ record { book = g.L.DeskName.history; story = arc_value c.in_ok-copy.copy } = shown_is p _ _ f.same_book (sym c.into_parts-version.ensures.version ∙ sym same) in
    let each = c.into_parts-version.ensures.each in (
      subst (λ (k : Known). Has k (record { book = g.L.DeskName.history; story = arc_value c.in_ok-copy.copy })) (sym c.in_ok-published.ensures.1) (inl is),
      c.self.invariant.1,
      c.self.invariant.2,
      ap (λ (s : Signed). s.book) c.into_parts-list.ensures.authors ∙ c.into_parts-version.ensures.book ∙ f.same_book,
      ap (λ (s : Signed). length s.authors) c.into_parts-list.ensures.authors ∙ each ∙ ap (λ (z : Shown). length z.story.edits) is,
    )

pub returns-clause-later : goal.returns-clause-later
returns-clause-later g c =
    let p : Shown = c.in_ok-published.published in
    let f : Follows p _ = covers_has p _ _ c.in_ok-published.ensures.0 c.self.invariant.0 in
    let v : arc_value c.into_parts-version.result.0 ≡ p.story = c.into_parts-version.ensures.version in
    rw v (subst (λ (z : Seeing). Extends p.story z.last) c.self.view_is f.extends)

pub returns-clause-told : goal.returns-clause-told
returns-clause-told g c =
    let p : Shown = c.in_ok-published.published in
    let v : arc_value c.into_parts-version.result.0 ≡ p.story = c.into_parts-version.ensures.version in
    let n : c.number-number.result ≡ length p.story.edits = search rules in
    let le : length c.self.inside.heard.story.edits ≤ length c.prefix.result.now.story.edits = omega (arith, c.if-number-self.false, n, c.self.invariant.2, ap (λ (z : Shown). length z.story.edits) c.prefix.ensures) in
    let heard : Extends p.story c.self.inside.heard.story = subst (λ (z : Shown). Extends z.story c.self.inside.heard.story) c.prefix.ensures (c.agrees.ensures le) in
    rw v (subst (λ (z : Seeing). Extends p.story z.learnt) c.self.view_is heard)

pub returns-clause-now : goal.returns-clause-now
returns-clause-now g c =
    let p : Shown = c.in_ok-published.published in
    let v : arc_value c.into_parts-version.result.0 ≡ p.story = c.into_parts-version.ensures.version in
    rw v (ap stories_of c.in_ok-published.ensures.1 ∙ ap (λ (xs : List Story). p.story ∷ xs) (ap (λ (z : Seeing). z.reads) c.self.view_is))

pub returns-clause-authors : goal.returns-clause-authors
returns-clause-authors g c =
    let p : Shown = c.in_ok-published.published in
    let f : Follows p _ = covers_has p _ _ c.in_ok-published.ensures.0 c.self.invariant.0 in
    let longer = extends_length p.story (arc_value c.self.inside.last) f.extends in
    let each = c.into_parts-version.ensures.each in
    let seen = ap (λ (s : Signed). length s.authors) c.into_parts-list.ensures.authors in
    let before = c.self.invariant.4 in
    let known = c.into_parts-list.result.1 in
    let listed = ap (λ (s : Signed). s.authors) c.into_parts-list.ensures.authors ∙ sym c.into_parts-list.ensures.list in
    let le : length c.self.inside.signed.authors ≤ length known.authors = omega (arith, longer, each, seen, before) in (
      listed,
      subst (IsPrefix c.args.self.now.signed) listed
          (subst (λ (z : Seeing). IsPrefix z.signed known.authors) c.self.view_is (c.begins_with.ensures le)),
    )

pub returns-clause-each : goal.returns-clause-each
returns-clause-each g c =
    let same : c.in_ok-copy.copy.value ≡ arc_value c.into_parts-version.result.0 = search rules in
    let each = c.into_parts-version.ensures.each in
    let version = c.into_parts-version.ensures.version in
    ap (λ (s : Signed). length s.authors) c.into_parts-list.ensures.authors ∙ each ∙ ap (λ (s : Story). length s.edits) (sym version ∙ sym same)
