use Rattle.std.proofs.Common.{◌≡◌, sym, ap, ◌∙◌, subst, inl, length, arith}
use Rattle.mp_version.specs.Extending.{Extends}
use Rattle.mp_version.specs.publication.Chronicles.{Shown}
use Rattle.mp_version.specs.publication.Knowing.{Known, Has}
use Rattle.mp_version.proofs.lemmas.publication.ShowingLemmas.{same_book, is_shown, follows_read}
use Rattle.mp_version.proofs.publication.showing.show.Goals as goal

pub agrees-requires : goal.agrees-requires
agrees-requires g c =
    let now : Shown = c.args.publication.now in let y : Shown = c.in-Some-look.prefix in let s : Shown = c.requires.0 in
    let mine : y.book ≡ s.book = same_book y c.args.pass.now c.loop.pass s c.loop.invariant.0 c.in-Some-look.ensures.0 c.requires.1 in
    let read = c.prefix-now.ensures ∙ c.published.ensures in
    ap (λ z. z.book) read ∙ sym (mine ∙ c.requires.2)

pub returns-then-found-number-clause-follows : goal.returns-then-found-number-clause-follows
returns-then-found-number-clause-follows g c =
    let now : Shown = c.args.publication.now in let y : Shown = c.in-Some-look.prefix in let s : Shown = c.requires.0 in
    let book : y.book ≡ now.book = same_book y c.args.pass.now c.loop.pass s c.loop.invariant.0 c.in-Some-look.ensures.0 c.requires.1 ∙ c.requires.2 in
    let read = c.prefix-now.ensures ∙ c.published.ensures in
    let long : length y.story.edits ≡ length now.story.edits = sym c.in-Some-look.ensures.2 ∙ (c.if-found-number.true ∙ c.number-number.ensures) in
    let up : Extends y.story now.story = subst (λ (z : Shown). Extends y.story z.story) read (c.agrees.ensures (omega (arith, ap (λ (z : Shown). length z.story.edits) read, long))) in
    follows_read now y c.args.pass.now c.loop.pass c.loop.invariant.0 c.in-Some-look.ensures.0 (is_shown now y book up long)

pub returns-then-found-number-clause-entered : goal.returns-then-found-number-clause-entered
returns-then-found-number-clause-entered g c =
    let now : Shown = c.args.publication.now in let y : Shown = c.in-Some-look.prefix in let s : Shown = c.requires.0 in
    let book : y.book ≡ now.book = same_book y c.args.pass.now c.loop.pass s c.loop.invariant.0 c.in-Some-look.ensures.0 c.requires.1 ∙ c.requires.2 in
    let read = c.prefix-now.ensures ∙ c.published.ensures in
    let long : length y.story.edits ≡ length now.story.edits = sym c.in-Some-look.ensures.2 ∙ (c.if-found-number.true ∙ c.number-number.ensures) in
    let up : Extends y.story now.story = subst (λ (z : Shown). Extends y.story z.story) read (c.agrees.ensures (omega (arith, ap (λ (z : Shown). length z.story.edits) read, long))) in
    subst (λ (k : Known). Has k now) (sym c.in-Some-look.ensures.1) (inl (is_shown now y book up long))
