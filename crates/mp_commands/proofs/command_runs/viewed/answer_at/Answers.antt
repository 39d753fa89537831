use Rattle.mp_commands.proofs.lemmas.command_runs.Names.{◌≡◌, false, refl, sym, ap, ◌∙◌, OutOfMemory, with_each}
use Rattle.mp_commands.proofs.lemmas.command_runs.RunLemmas.{refused, wrote, wrote_part}
use Rattle.mp_commands.specs.views.Views.{view_text}
use Rattle.mp_commands.proofs.command_runs.viewed.answer_at.Goals as goal

pub returns-in_err-waves : goal.returns-in_err-waves
returns-in_err-waves g c = refused _ _ _ _ c.from_residual.result OutOfMemory c.from_residual.ensures.1 tt

pub returns-in_err-put : goal.returns-in_err-put
returns-in_err-put g c =
    let n = c.args.netlist.now in
    let whole = ap (λ missing. with_each missing n) (sym c.missing_place.ensures ∙ c.in_default.is) in
    wrote_part false _ (λ m text. text ≡ view_text c.args.view.now m) n whole (view_text c.args.view.now n) refl _ _ c.from_residual-in_err-put.result c.in_err-put.field-0.0 c.from_residual-in_err-put.ensures.1 c.in_err-put.ensures

pub returns : goal.returns
returns g c =
    let n = c.args.netlist.now in
    let whole = ap (λ missing. with_each missing n) (sym c.missing_place.ensures ∙ c.in_default.is) in
    wrote false _ (λ m text. text ≡ view_text c.args.view.now m) n whole (view_text c.args.view.now n) refl _ _ c.in_ok-put.ensures
