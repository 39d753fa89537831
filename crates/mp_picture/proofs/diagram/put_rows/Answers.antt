use Rattle.std.proofs.Common.{ℕ, List, ◌++◌, refl}
use Rattle.std.specs.List.{flat_map}
use Rattle.mp_records.specs.declared.ids.WireId.{WireId}
use Rattle.mp_netlist.specs.Circuit.{Circuit}
use Rattle.mp_model.specs.declared.finding.Place.{Place}
use Rattle.mp_model.specs.declared.finding.Finding.{Finding}
use Rattle.mp_report.specs.Lines.{finding_lines}
use Rattle.mp_streams.proofs.OutLemmas.{puts_as, puts_then, puts_sooner}
use Rattle.mp_streams.specs.declared.write_error.WriteError.TheVariants.{WriteFailed}
use Rattle.mp_picture.specs.declared.layout.DiagramLayout.{DiagramLayout}
use Rattle.mp_picture.specs.Diagrams.{wire_line}
use Rattle.mp_picture.specs.Found.{place_row}
use Rattle.mp_picture.proofs.PutLemmas.{puts_ok}
use Rattle.mp_picture.proofs.diagram.put_rows.Goals as goal

module _ (n : Circuit) (layout : DiagramLayout) (places : List Place) (found : List Finding) where
  abbrev from_places : List ℕ
  from_places = flat_map (λ (place : Place). place_row n layout place found) places ++ finding_lines n found

  abbrev from_wires : List WireId → List ℕ
  from_wires wires = flat_map (wire_line n layout) wires ++ from_places

pub returns-in_err-put_ruler : goal.returns-in_err-put_ruler
returns-in_err-put_ruler g c =
    let rest = from_wires c.args.picture.now.netlist.now c.args.layout c.args.places.now c.args.found.now c.args.picture.now.wires.now in
    puts_as _ c.in_err-put_ruler.field-0.0 c.from_residual.ensures.1 refl (puts_sooner rest c.in_err-put_ruler.ensures)

pub returns-in_err-put_wires : goal.returns-in_err-put_wires
returns-in_err-put_wires g c =
    let rest = from_places c.args.picture.now.netlist.now c.args.layout c.args.places.now c.args.found.now in
    puts_then c.in_ok-put_ruler.ensures
    (puts_as _ c.in_err-put_wires.field-0.0 c.from_residual-in_err-put_wires.ensures.1 refl (puts_sooner rest c.in_err-put_wires.ensures))

pub returns-in_err-put_places : goal.returns-in_err-put_places
returns-in_err-put_places g c =
    let rest = finding_lines c.args.picture.now.netlist.now c.args.found.now in
    puts_then c.in_ok-put_ruler.ensures
    (puts_then c.in_ok-put_wires.ensures
    (puts_as _ c.in_err-put_places.field-0.0 c.from_residual-in_err-put_places.ensures.1 refl (puts_sooner rest c.in_err-put_places.ensures)))

pub returns-in_err-put_report : goal.returns-in_err-put_report
returns-in_err-put_report g c =
    puts_then c.in_ok-put_ruler.ensures
    (puts_then c.in_ok-put_wires.ensures
    (puts_then c.in_ok-put_places.ensures (puts_as _ WriteFailed c.from_residual-in_err-put_report.ensures.1 refl c.in_err-put_report.ensures)))

pub returns : goal.returns
returns g c = puts_then c.in_ok-put_ruler.ensures (puts_then c.in_ok-put_wires.ensures (puts_then c.in_ok-put_places.ensures (puts_ok c.in_ok-put_report.ensures)))
