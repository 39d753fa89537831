use Rattle.std.proofs.Common.{All, IsTrue, sym, subst}
use Rattle.std.proofs.lemmas.List.Elements.{filter_passes}
use Rattle.mp_model.specs.declared.finding.Finding.{Finding}
use Rattle.mp_picture.specs.Found.{is_within}
use Rattle.mp_picture.proofs.found.found_within.Goals as goal

pub returns-clause-within : goal.returns-clause-within
returns-clause-within c =
    let cs = c.args.columns in
    subst (All (λ (f : Finding). IsTrue (is_within cs f))) (sym c.in_ok-found.ensures) (filter_passes (is_within cs) c.args.findings.now)
