use Rattle.std.proofs.Common.{◌≡◌, ◌≤◌, length, ap, sym, ◌∙◌, subst, inl, arith}
use mathlib.Core.List.{IsPrefix}
use Rattle.mp_version.specs.Extending.{Extends}
use Rattle.mp_version.specs.publication.Chronicles.{Shown, Follows, Signed}
use Rattle.mp_desk.specs.Holders.{Working}
use Rattle.mp_version.specs.publication.Knowing.{Known, Has}
use Rattle.mp_version.proofs.lemmas.publication.KeepingLemmas.{covers_has}
use Rattle.mp_version.proofs.PrefixLemmas.{extends_length}
use Rattle.mp_desk.proofs.designer.Designer.read.Goals as goal

pub begins_with-requires : goal.begins_with-requires
begins_with-requires g c =
    let p : Shown = c.in_ok-published.published in
    let f : Follows p _ = covers_has p _ _ c.in_ok-published.ensures.0 c.self.invariant.0 in
    c.self.invariant.2 ∙ sym (ap (λ (s : Signed). s.book) c.into_parts-list.ensures.authors ∙ c.into_parts-version.ensures.book ∙ f.same_book ∙ c.self.invariant.1)

pub invariant_of-self-2 : goal.invariant_of-self-2
invariant_of-self-2 g c =
    let p : Shown = c.in_ok-published.published in
    let f : Follows p _ = covers_has p _ _ c.in_ok-published.ensures.0 c.self.invariant.0 in
    let is : c.again-prefix.result ≡ p = c.again-prefix.ensures ∙ c.prefix.ensures in
    let each = c.into_parts-version.ensures.each in (
      subst (λ (k : Known). Has k c.again-prefix.result) (sym c.in_ok-published.ensures.1) (inl (sym is)),
      ap (λ (z : Shown). z.book) is ∙ f.same_book ∙ c.self.invariant.1,
      ap (λ (s : Signed). s.book) c.into_parts-list.ensures.authors ∙ c.into_parts-version.ensures.book ∙ f.same_book ∙ c.self.invariant.1,
      ap (λ (s : Signed). length s.authors) c.into_parts-list.ensures.authors ∙ each ∙ ap (λ (z : Shown). length z.story.edits) (sym is),
      c.self.invariant.4,
      c.self.invariant.5,
    )

pub returns-clause-later : goal.returns-clause-later
returns-clause-later g c =
    let p : Shown = c.in_ok-published.published in
    let f : Follows p _ = covers_has p _ _ c.in_ok-published.ensures.0 c.self.invariant.0 in
    rw c.into_parts-version.ensures.version (subst (λ (z : Working). Extends p.story z.seen) c.self.view_is f.extends)

pub returns-clause-authors : goal.returns-clause-authors
returns-clause-authors g c =
    let p : Shown = c.in_ok-published.published in
    let f : Follows p _ = covers_has p _ _ c.in_ok-published.ensures.0 c.self.invariant.0 in
    let longer = extends_length p.story c.self.inside.seen.story f.extends in
    let each = c.into_parts-version.ensures.each in
    let known = c.into_parts-list.result.1 in
    let listed = ap (λ (s : Signed). s.authors) c.into_parts-list.ensures.authors ∙ sym c.into_parts-list.ensures.list in
    let seen = ap (λ (s : Signed). length s.authors) c.into_parts-list.ensures.authors in
    let before = c.self.invariant.3 in
    let le : length c.self.inside.signed.authors ≤ length known.authors = omega (arith, longer, each, seen, before) in (
      listed,
      subst (IsPrefix c.args.self.now.signed) listed (subst (λ (z : Working). IsPrefix z.signed known.authors) c.self.view_is (c.begins_with.ensures le)),
    )
