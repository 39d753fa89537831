use Rattle.mp_commands.proofs.lemmas.command_runs.Names.{◌≡◌, false, sym, ap, subst, ◌∙◌, Ran, with_all, with_places}
use Rattle.mp_commands.specs.views.Views.{view_places, view_text}
use Rattle.mp_commands.proofs.command_runs.viewed.answer_of.Goals as goal

pub returns : goal.returns
returns g c =
    let n = c.args.netlist.now in
    let whole = ap (λ missing. with_all missing n) (sym c.missing.ensures ∙ c.in_default.is) in
    subst (λ opening. Ran false c.answer_at.result (with_places (view_places c.args.view.now) opening) (λ m text. text ≡ view_text c.args.view.now m) c.args.out.now c.answer_at.new.out)
    (sym whole) c.answer_at.ensures
