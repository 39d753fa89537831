use Rattle.std.proofs.Common.{List, ℕ, [], ◌∷◌, ◌++◌, length, codes, refl}
use Rattle.mp_streams.proofs.OutLemmas.{puts_as, puts_then, puts_sooner}
use Rattle.mp_streams.specs.declared.write_error.WriteError.TheVariants.{WriteFailed}
use Rattle.mp_records.specs.declared.ids.WireId.{WireId}
use Rattle.mp_netlist.specs.Circuit.{Circuit}
use Rattle.mp_model.specs.declared.finding.Finding.{Finding}
use Rattle.mp_picture.proofs.PutLemmas.{puts_ok}
use Rattle.mp_picture.specs.declared.svg.frame.Frame.{Frame}
use Rattle.mp_picture.specs.declared.svg.mark_rows.MarkRow.{MarkRow}
use Rattle.mp_picture.specs.declared.svg.arrow.Arrow.{Arrow}
use Rattle.mp_picture.specs.svg.Arrows.{arrow_group}
use Rattle.mp_picture.specs.svg.FoundGroups.{mark_groups, finding_groups, lead_group}
use Rattle.mp_picture.specs.svg.Svg.{sheet, wire_rows}
use Rattle.mp_picture.proofs.svg.svg.put_sheet.Goals as goal

abbrev end : List ℕ
end = codes "</svg>" ++ 10 ∷ []

module _ (n : Circuit) (frame : Frame) (wires : List WireId) (rows : List MarkRow) (found : List Finding) (arrows : List Arrow) where
  abbrev from_arrows : List ℕ
  from_arrows = arrow_group frame wires arrows ++ end

  abbrev from_findings : List ℕ
  from_findings = finding_groups n frame (length wires) rows found ++ from_arrows

  abbrev from_rows : List ℕ
  from_rows = mark_groups n frame (length wires) rows ++ from_findings

  abbrev from_wires : List ℕ
  from_wires = wire_rows n frame wires ++ from_rows

  abbrev from_leads : List ℕ
  from_leads = lead_group n frame wires rows found ++ from_wires

pub returns-in_err-put_head : goal.returns-in_err-put_head
unfolding sheet
returns-in_err-put_head g c =
    let s = c.args.parts in
    let rest = from_leads c.args.picture.now.netlist.now s.frame s.wires.now s.rows.now s.found.now s.arrows.now in
    let head = rw (c.sheet_width.ensures, c.len-first.ensures, c.as_slice-marked.ensures) at c.in_err-put_head.ensures in
    puts_as _ WriteFailed c.from_residual.ensures.1 refl (puts_sooner rest head)

pub returns-in_err-put_lead_group : goal.returns-in_err-put_lead_group
unfolding sheet
returns-in_err-put_lead_group g c =
    let s = c.args.parts in
    let rest = from_wires c.args.picture.now.netlist.now s.frame s.wires.now s.rows.now s.found.now s.arrows.now in
    let head = rw (c.sheet_width.ensures, c.len-first.ensures, c.as_slice-marked.ensures) at c.in_ok-put_head.ensures in
    puts_then head (puts_as _ WriteFailed c.from_residual-in_err-put_lead_group.ensures.1 refl (puts_sooner rest c.in_err-put_lead_group.ensures))

pub returns-in_err-put_wires : goal.returns-in_err-put_wires
unfolding sheet
returns-in_err-put_wires g c =
    let s = c.args.parts in
    let rest = from_rows c.args.picture.now.netlist.now s.frame s.wires.now s.rows.now s.found.now s.arrows.now in
    let head = rw (c.sheet_width.ensures, c.len-first.ensures, c.as_slice-marked.ensures) at c.in_ok-put_head.ensures in
    puts_then head
    (puts_then c.in_ok-put_lead_group.ensures
    (puts_as _ c.in_err-put_wires.field-0.0 c.from_residual-in_err-put_wires.ensures.1 refl (puts_sooner rest (rw (← c.requires.wires) at c.in_err-put_wires.ensures))))

pub returns-in_err-put_mark_rows : goal.returns-in_err-put_mark_rows
unfolding sheet
returns-in_err-put_mark_rows g c =
    let s = c.args.parts in
    let rest = from_findings c.args.picture.now.netlist.now s.frame s.wires.now s.rows.now s.found.now s.arrows.now in
    let head = rw (c.sheet_width.ensures, c.len-first.ensures, c.as_slice-marked.ensures) at c.in_ok-put_head.ensures in
    puts_then head
    (puts_then c.in_ok-put_lead_group.ensures
    (puts_then (rw (← c.requires.wires) at c.in_ok-put_wires.ensures)
    (puts_as _ WriteFailed c.from_residual-in_err-put_mark_rows.ensures.1 refl (puts_sooner rest (rw (c.as_slice-marked.ensures, c.len-first.ensures) at c.in_err-put_mark_rows.ensures)))))

pub returns-in_err-put_findings : goal.returns-in_err-put_findings
unfolding sheet
returns-in_err-put_findings g c =
    let s = c.args.parts in
    let rest = from_arrows c.args.picture.now.netlist.now s.frame s.wires.now s.rows.now s.found.now s.arrows.now in
    let head = rw (c.sheet_width.ensures, c.len-first.ensures, c.as_slice-marked.ensures) at c.in_ok-put_head.ensures in
    puts_then head
    (puts_then c.in_ok-put_lead_group.ensures
    (puts_then (rw (← c.requires.wires) at c.in_ok-put_wires.ensures)
    (puts_then (rw (c.as_slice-marked.ensures, c.len-first.ensures) at c.in_ok-put_mark_rows.ensures)
    (puts_as _ WriteFailed c.from_residual-in_err-put_findings.ensures.1 refl (puts_sooner rest (rw c.len-first.ensures at c.in_err-put_findings.ensures))))))

pub returns-in_err-put_arrow_group : goal.returns-in_err-put_arrow_group
unfolding sheet
returns-in_err-put_arrow_group g c =
    let head = rw (c.sheet_width.ensures, c.len-first.ensures, c.as_slice-marked.ensures) at c.in_ok-put_head.ensures in
    puts_then head
    (puts_then c.in_ok-put_lead_group.ensures
    (puts_then (rw (← c.requires.wires) at c.in_ok-put_wires.ensures)
    (puts_then (rw (c.as_slice-marked.ensures, c.len-first.ensures) at c.in_ok-put_mark_rows.ensures)
    (puts_then (rw c.len-first.ensures at c.in_ok-put_findings.ensures)
    (puts_as _ WriteFailed c.from_residual-in_err-put_arrow_group.ensures.1 refl (puts_sooner end c.in_err-put_arrow_group.ensures))))))

pub returns-in_err-put_text : goal.returns-in_err-put_text
unfolding sheet
returns-in_err-put_text g c =
    let head = rw (c.sheet_width.ensures, c.len-first.ensures, c.as_slice-marked.ensures) at c.in_ok-put_head.ensures in
    puts_then head
    (puts_then c.in_ok-put_lead_group.ensures
    (puts_then (rw (← c.requires.wires) at c.in_ok-put_wires.ensures)
    (puts_then (rw (c.as_slice-marked.ensures, c.len-first.ensures) at c.in_ok-put_mark_rows.ensures)
    (puts_then (rw c.len-first.ensures at c.in_ok-put_findings.ensures)
    (puts_then c.in_ok-put_arrow_group.ensures (puts_as _ WriteFailed c.from_residual-in_err-put_text.ensures.1 refl c.in_err-put_text.ensures))))))

pub returns : goal.returns
unfolding sheet
returns g c =
    let head = rw (c.sheet_width.ensures, c.len-first.ensures, c.as_slice-marked.ensures) at c.in_ok-put_head.ensures in
    puts_then head
    (puts_then c.in_ok-put_lead_group.ensures
    (puts_then (rw (← c.requires.wires) at c.in_ok-put_wires.ensures)
    (puts_then (rw (c.as_slice-marked.ensures, c.len-first.ensures) at c.in_ok-put_mark_rows.ensures)
    (puts_then (rw c.len-first.ensures at c.in_ok-put_findings.ensures) (puts_then c.in_ok-put_arrow_group.ensures (puts_ok c.in_ok-put_text.ensures))))))
