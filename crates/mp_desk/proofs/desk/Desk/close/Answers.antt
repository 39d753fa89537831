use Rattle.std.proofs.Common.{◌≡◌, ◌∙◌, rules, arith, All, ap, sym, subst, length, vec_len}
use Rattle.mp_version.specs.Stories.{Story}
use Rattle.mp_version.specs.Extending.{Extends}
use Rattle.mp_desk.specs.Holders.{ExtendsEach, Seeing, GoesOn}
use Rattle.mp_desk.proofs.desk.Desk.close.Goals as goal

pub returns-clause-seen : goal.returns-clause-seen
returns-clause-seen g c =
    let shown : c.session.inside.publication.story ≡ g.S.EditSession.story c.new.result.session = ap (λ p. p.story) c.session.invariant.0 ∙ ap (λ k. g.S.EditSession.story k.session) (sym c.new.ensures) in
    subst (λ (z : Story). ExtendsEach z c.args.designers.items) shown c.part_designers.ensures.extends

pub returns-clause-read : goal.returns-clause-read
returns-clause-read g c =
    let shown : c.session.inside.publication.story ≡ g.S.EditSession.story c.new.result.session = ap (λ p. p.story) c.session.invariant.0 ∙ ap (λ k. g.S.EditSession.story k.session) (sym c.new.ensures) in
    subst (λ (z : Story). All (λ (v : Seeing). Extends z v.last) c.args.viewers.now) shown (λ k v within. (c.part_viewers.ensures.looked k v within).extends)

pub returns-clause-signed : goal.returns-clause-signed
returns-clause-signed g c =
    let shown : c.session.inside.publication.story ≡ g.S.EditSession.story c.new.result.session = ap (λ p. p.story) c.session.invariant.0 ∙ ap (λ k. g.S.EditSession.story k.session) (sym c.new.ensures) in (
      c.session.inside.writer.authors,
      c.session.invariant.3 ∙ ap (λ k. length (g.S.EditSession.story k.session).edits) (sym c.new.ensures),
      c.part_designers.ensures.signed,
      subst (λ (z : Story). All (λ (v : Seeing). GoesOn z c.session.inside.writer.authors v.last v.signed) c.args.viewers.now) shown c.part_viewers.ensures.looked,
    )

pub returns-clause-counted : goal.returns-clause-counted
returns-clause-counted g c =
    let kept = c.session.invariant in let mine = c.self.invariant in
    let shares = c.part_designers.ensures.share in
    let all_here : vec_len c.args.designers ≡ c.self.inside.designers = search rules in
    let parts : c.part_designers.new.all.parts ≡ g.L.Ledger.parts = omega (arith, shares.0, kept.5, mine.1, all_here) in
    let whole : c.part_designers.new.all.amount ≡ c.session.inside.book.total = c.audit.ensures.whole parts in
    let opening : c.self.inside.opening ≡ c.args.self.opening = ap (λ d. d.opening) c.self.view_is in
    let same : length (g.S.EditSession.story c.new.result.session).edits ≡ length (g.S.EditSession.story c.session.inside.session).edits = ap (λ k. length (g.S.EditSession.story k.session).edits) c.new.ensures in
    omega (arith, whole, shares.1, mine.0, kept.4, kept.6, opening, same)
