use Rattle.std.proofs.Common.{[], ◌∷◌, ◌++◌, codes}
use Rattle.mp_streams.proofs.OutLemmas.{puts_then, puts_sooner, writes_failed}
use Rattle.mp_picture.specs.svg.FoundGroups.{leads}
use Rattle.mp_picture.proofs.svg.leads.put_lead_group.Goals as goal

pub returns-in_err-put_text : goal.returns-in_err-put_text
returns-in_err-put_text g c =
    writes_failed _ c.from_residual.ensures.0
    (puts_sooner (leads c.args.netlist.now c.args.frame c.args.wires.now c.args.rows.now c.args.found.now ++ (codes "</g>" ++ 10 ∷ [])) c.in_err-put_text.ensures)

pub returns-in_err-put_leads : goal.returns-in_err-put_leads
returns-in_err-put_leads g c =
    writes_failed _ c.from_residual-in_err-put_leads.ensures.0
    (puts_then c.in_ok-put_text.ensures (puts_sooner (codes "</g>" ++ 10 ∷ []) c.in_err-put_leads.ensures))

pub returns : goal.returns
returns g c = puts_then c.in_ok-put_text.ensures (puts_then c.in_ok-put_leads.ensures c.put_text-2.ensures)
