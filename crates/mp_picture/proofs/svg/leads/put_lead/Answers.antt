use Rattle.std.proofs.Common.{◌+◌, ◌++◌}
use Rattle.mp_streams.proofs.OutLemmas.{puts_then, puts_sooner, writes_failed}
use Rattle.mp_picture.specs.Columns.{column_of}
use Rattle.mp_picture.specs.svg.Lanes.{top}
use Rattle.mp_picture.specs.svg.FoundGroups.{place_leads, lead_x}
use Rattle.mp_picture.specs.svg.WireGroups.{path_end}
use Rattle.mp_picture.proofs.svg.leads.put_lead.Goals as goal

pub returns-in_err-put_text : goal.returns-in_err-put_text
returns-in_err-put_text g c =
    let a = c.args in
    let x = lead_x a.frame (column_of a.frame.columns a.finding.time) in
    let rest = place_leads a.netlist.now a.frame a.wires.now x (top a.lane + 8) a.finding.place ++ path_end in
    writes_failed _ c.from_residual.ensures.0 (puts_sooner rest c.in_err-put_text.ensures)

pub returns-in_err-put_place_leads : goal.returns-in_err-put_place_leads
returns-in_err-put_place_leads g c =
    let place = rw (c.lead_x.ensures.value, c.column_of-column.ensures.value, c.top.ensures) at c.in_err-put_place_leads.ensures in
    writes_failed _ c.from_residual-in_err-put_place_leads.ensures.0 (puts_then c.in_ok-put_text.ensures (puts_sooner path_end place))

pub returns : goal.returns
returns g c =
    let place = rw (c.lead_x.ensures.value, c.column_of-column.ensures.value, c.top.ensures) at c.in_ok-put_place_leads.ensures in
    puts_then c.in_ok-put_text.ensures (puts_then place c.put_text-2.ensures)
