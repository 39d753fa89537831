use Rattle.std.proofs.Common.{◌≡◌, ◌+◌, ◌∷◌, ◌++◌, [], false, is_err, length, length-append, sym, ap, ◌∙◌, subst, arith, rules}
use Rattle.std.specs.Arc.{arc_value}
use mathlib.Core.List.{IsPrefix}
use Rattle.mp_version.specs.Stories.{Story, one_more}
use Rattle.mp_version.specs.Steps.{story_after}
use Rattle.mp_version.specs.publication.Chronicles.{Shown}
use Rattle.mp_version.specs.Extending.{Succeeds}
use Rattle.mp_desk.specs.Keepers.{Standing}
use Rattle.mp_version.proofs.PrefixLemmas.{extends_one_more, succeeds_one_more}
use Rattle.mp_version.proofs.lemmas.publication.ChainLemmas.{prefix_before}
use Rattle.mp_desk.proofs.KeeperLemmas.{on_ok}
use Rattle.mp_desk.proofs.desk_state.DeskState.accept.Goals as goal

pub write_version-receipt-requires-clause-follows : goal.write_version-receipt-requires-clause-follows
write_version-receipt-requires-clause-follows g c =
    let step = g.S.EditSession.step c.args.prepared in
    let before : step.before ≡ c.self.inside.writer.story = c.requires.fits ∙ sym (ap (λ (s : Standing). s.story) c.self.view_is) ∙ sym c.self.invariant.2 in
    let is : arc_value c.in-Some.draft.version ≡ story_after step = c.in-Some.ensures.versions.0 ∙ c.next_version-next.ensures in
    subst (Succeeds (arc_value c.in-Some.draft.version)) before (subst (λ (s : Story). Succeeds s step.before) (sym is) (succeeds_one_more step.before step.edit))

pub publish-requires-clause-follows : goal.publish-requires-clause-follows
publish-requires-clause-follows g c =
    let step = g.S.EditSession.step c.args.prepared in
    let before : c.self.inside.publication.story ≡ step.before = ap (λ (p : Shown). p.story) c.self.invariant.0 ∙ ap (λ (s : Standing). s.story) c.self.view_is ∙ sym c.requires.fits in
    let is : arc_value c.in-Some.draft.version ≡ story_after step = c.in-Some.ensures.versions.0 ∙ c.next_version-next.ensures in
    let after : c.write_version-receipt.result.1.story ≡ story_after step = ap (λ (p : Shown). p.story) c.write_version-receipt.ensures.published ∙ is in
    record {
      same_book = ap (λ (p : Shown). p.book) c.write_version-receipt.ensures.published ∙ sym (ap (λ (p : Shown). p.book) c.self.invariant.0);
      extends = rw (before, after) (extends_one_more step.before step.edit);
    }

pub publish-requires-clause-kept : goal.publish-requires-clause-kept
publish-requires-clause-kept g c =
    let step = g.S.EditSession.step c.args.prepared in
    let story : Story = g.S.EditSession.story c.self.inside.session in
    let before : story ≡ step.before = ap (λ (s : Standing). s.story) c.self.view_is ∙ sym c.requires.fits in
    let is : arc_value c.in-Some.draft.version ≡ story_after step = c.in-Some.ensures.versions.0 ∙ c.next_version-next.ensures in
    let after : c.write_version-receipt.result.1.story ≡ story_after step = ap (λ (p : Shown). p.story) c.write_version-receipt.ensures.published ∙ is in
    let same : one_more story c.edit.result.now ≡ c.write_version-receipt.result.1.story = ap (λ (s : Story). one_more s c.edit.result.now) before ∙ ap (λ e. one_more step.before e) c.edit.ensures ∙ sym after in
    let well : is_err c.keep.result ≡ false = search rules in
    subst (g.K.EditKeeper.keeps c.keep.new.self) same (on_ok c.keep.result well (c.keep.ensures.kept story c.self.invariant.7))

pub returns-clause-signed : goal.returns-clause-signed
returns-clause-signed g c =
    let story : Story = g.S.EditSession.story c.self.inside.session in
    let step = g.S.EditSession.step c.args.prepared in
    let authors = c.self.inside.writer.authors in
    let version : Story = arc_value c.write_version-receipt.result.0.version in
    let each : length authors ≡ length story.edits = c.self.invariant.3 in
    let added : c.write_version-receipt.new.writer.authors ≡ authors ++ c.args.me.now.number ∷ [] =
    ap (λ w. w.authors) c.write_version-receipt.ensures.writer ∙ ap (λ d. authors ++ d.number ∷ []) c.me.view_is in
    let is : version ≡ story_after step = c.write_version-receipt.ensures.version ∙ c.in-Some.ensures.versions.0 ∙ c.next_version-next.ensures in
    let same : story ≡ c.args.self.now.story = ap (λ (s : Standing). s.story) c.self.view_is in
    let before : length step.before.edits ≡ length story.edits = ap (λ (s : Story). length s.edits) (c.requires.fits ∙ sym same) in
    let size : length version.edits ≡ length step.before.edits + 1 = ap (λ (s : Story). length s.edits) is ∙ length-append step.before.edits (step.edit ∷ []) in
    let seen : length c.args.me.now.seen.edits ≡ length story.edits = ap (λ (s : Story). length s.edits) (c.requires.seen ∙ sym same) in
    let mine : length c.args.me.now.signed ≡ length c.args.me.now.seen.edits = subst (λ d. length d.signed ≡ length d.seen.edits) c.me.view_is c.me.invariant.3 in (
      authors,
      prefix_before c.args.me.now.signed authors c.args.me.now.number (subst (IsPrefix c.args.me.now.signed) added c.catch_up.ensures.begins) (omega (arith, mine, seen, each)),
      omega (arith, each, before, size),
      c.count.ensures.same.2 ∙ c.catch_up.ensures.signed ∙ added,
    )
