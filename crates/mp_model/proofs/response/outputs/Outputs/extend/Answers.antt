use Rattle.std.proofs.Common.{refl, ap, sym, ◌∙◌, length}
use Rattle.mp_model.proofs.lemmas.response.OutputLemmas.{length-ports}
use Rattle.mp_model.proofs.response.outputs.Outputs.extend.Goals as goal

pub returns-clause-ports : goal.returns-clause-ports
returns-clause-ports c =
    let old = c.self.inside in
    let new = c.loop-port.self-inside in
    let kept = c.loop-port.invariant in
    length-ports new.count old.count new.places kept.count c.self.invariant.0 kept.places
    ∙ sym (length-ports old.count old.count old.places refl c.self.invariant.0 c.self.invariant.1)
    ∙ ap length c.self.view_is
