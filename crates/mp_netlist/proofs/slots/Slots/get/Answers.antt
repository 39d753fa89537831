use Rattle.std.proofs.Common.{◌≡◌, true, cond, None, get_or, ap, sym, ◌∙◌, rules}
use Rattle.mp_netlist.specs.Slots.{thing_in}
use Rattle.mp_netlist.proofs.TableLemmas.{thing_in_get}
use Rattle.mp_netlist.proofs.slots.Slots.get.Goals as goal

pub returns-then-self : goal.returns-then-self
returns-then-self g c =
    let slots = c.self.inside in
    let shared : slots.is_shared ≡ true = search rules in
    let view = sym (ap (λ b. cond b slots.pieces slots.whole.items) shared) ∙ c.self.view_is in
    c.thing_of.ensures ∙ ap thing_in c.get.ensures ∙ thing_in_get slots.pieces c.args.number ∙ ap (λ things. get_or things c.args.number None) view
