use Rattle.std.proofs.Common.{◌≡◌, ◌∷◌, ◌++◌, [], ap, ◌∙◌, subst}
use mathlib.Core.List.{IsPrefix}
use Rattle.mp_desk.specs.Holders.{Working}
use Rattle.mp_version.proofs.PrefixLemmas.{prefix_trans}
use Rattle.mp_desk.proofs.KeeperLemmas.{stopped}
use Rattle.mp_desk.proofs.desk_state.DeskState.submit.Goals as goal

pub returns-in-Err-clause-refused : goal.returns-in-Err-clause-refused
returns-in-Err-clause-refused g c =
    let story = g.S.EditSession.story c.self.inside.session in
    let same : c.accept.new.me.seen ≡ story = ap (λ (d : Working). d.seen) c.in-Err.ensures.same.1 ∙ c.catch_up.ensures.seen ∙ ap (λ p. p.story) c.self.invariant.0 in
    stopped g.K.EditKeeper.is_lost c.args.me.now.seen c.accept.new.me.seen story c.args.edit _ c.in-Err.error same c.in_ok-prepared.ensures.accepted c.in-Err.ensures.refused

pub returns-in-Ok-clause-signed : goal.returns-in-Ok-clause-signed
returns-in-Ok-clause-signed g c =
    let signs = c.in-Ok.ensures.signed in
    let before = signs.0 in (
      before,
      prefix_trans c.args.me.now.signed c.self.inside.writer.authors before c.catch_up.ensures.begins (subst (λ authors. IsPrefix authors before) c.catch_up.ensures.signed signs.1),
      signs.2,
      signs.3 ∙ ap (λ n. before ++ n ∷ []) c.catch_up.ensures.same.1,
    )
