use Rattle.std.proofs.Common.{◌≡◌, ℕ, List, refl, ap, ◌∙◌}
use Rattle.mp_records.specs.declared.ids.WireId.{WireId}
use Rattle.mp_netlist.specs.Circuit.{Circuit}
use Rattle.mp_model.specs.declared.finding.Place.{Place}
use Rattle.mp_model.specs.declared.finding.Finding.{Finding}
use Rattle.mp_streams.proofs.OutLemmas.{puts_unmade}
use Rattle.mp_streams.specs.declared.write_error.WriteError.TheVariants.{OutOfMemory}
use Rattle.mp_picture.specs.declared.columns.Columns.{Columns}
use Rattle.mp_picture.specs.declared.mark.Charset.{Charset}
use Rattle.mp_picture.specs.declared.numerals.Numerals.{Numerals}
use Rattle.mp_picture.specs.Diagrams.{diagram_given, margin, rows}
use Rattle.mp_picture.specs.Found.{place_rows}
use Rattle.mp_picture.proofs.diagram.put_given_found.Goals as goal

diagram_is : (n : Circuit) (columns : Columns) (charset : Charset) (numerals : Numerals) (wires : List WireId) (found : List Finding) (places : List Place) (m : ℕ)
    → places ≡ place_rows found → m ≡ margin n wires places
    → diagram_given n columns charset numerals wires found ≡ rows n (record { columns = columns; charset = charset; numerals = numerals; margin = m }) wires places found
unfolding diagram_given
diagram_is n columns charset numerals wires found places m is_places is_margin = rw (is_margin, is_places) refl

pub returns-in_err-places : goal.returns-in_err-places
returns-in_err-places g c = puts_unmade _ OutOfMemory _ _ c.from_residual.ensures.1 refl

pub returns : goal.returns
returns g c =
    let n = c.args.picture.now.netlist.now in
    let ws = c.args.picture.now.wires.now in
    let ps = c.in_ok-places.places.items in
    let is = diagram_is n c.args.picture.now.columns c.args.charset c.args.picture.now.numerals ws c.args.found.now ps c.margin_of.result c.in_ok-places.ensures
    (c.margin_of.ensures ∙ ap (margin n ws) c.as_slice.ensures.value) in
    rw is (rw c.as_slice-2.ensures.value at c.put_rows-put.ensures)
