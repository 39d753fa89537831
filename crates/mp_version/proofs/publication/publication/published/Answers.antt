use Rattle.std.proofs.Common.{sym, subst}
use Rattle.mp_version.specs.publication.Chronicles.{Shown, Follows}
use Rattle.mp_version.proofs.lemmas.publication.KeepingLemmas.{brings}
use Rattle.mp_version.proofs.publication.publication.published.Goals as goal

pub publish_as-requires : goal.publish_as-requires
publish_as-requires g c next is = let now = c.args.writer.desk.shown.value in
    brings _ _ now next (subst (λ (s : Shown). Follows s now) (sym is) c.requires)
