use Rattle.std.proofs.Common.{◌≡◌, ℕ, List, Err, refl, sym, ap, ◌∙◌}
use Rattle.mp_records.specs.declared.ids.WireId.{WireId}
use Rattle.mp_netlist.specs.Circuit.{Circuit}
use Rattle.mp_model.specs.declared.finding.Place.{Place}
use Rattle.mp_model.specs.declared.finding.Finding.{Finding}
use Rattle.mp_model.specs.Findings.{findings}
use Rattle.mp_streams.proofs.OutLemmas.{puts_unmade}
use Rattle.mp_streams.specs.declared.write_error.WriteError.TheVariants.{OutOfMemory}
use Rattle.mp_picture.specs.declared.columns.Columns.{Columns}
use Rattle.mp_picture.specs.declared.numerals.Numerals.{Numerals}
use Rattle.mp_picture.specs.Diagrams.{margin}
use Rattle.mp_picture.specs.Found.{place_rows, within}
use Rattle.mp_picture.specs.declared.svg.arrow.Arrow.{Arrow}
use Rattle.mp_picture.specs.declared.svg.mark_rows.MarkRow.{MarkRow}
use Rattle.mp_picture.specs.svg.MarkRows.{mark_rows}
use Rattle.mp_picture.specs.svg.Svg.{left, sheet, svg}
use Rattle.mp_picture.proofs.svg.svg.put_svg.Goals as goal

module _ (n : Circuit) (columns : Columns) (numerals : Numerals) (wires : List WireId) (title : List ℕ) (arrows : List Arrow) where
  -- the SVG by what was found, and where
  made : List Finding → List Place → List MarkRow → ℕ → List ℕ
  made found places rows m = sheet n (record { left = left m; columns = columns; numerals = numerals }) title wires rows found arrows

  whole : svg n columns numerals wires title arrows
      ≡ made (within columns (findings n)) (place_rows (within columns (findings n))) (mark_rows columns (place_rows (within columns (findings n))) (within columns (findings n)))
      (margin n wires (place_rows (within columns (findings n))))
  unfolding svg made
  whole = refl

  parts : (found : List Finding) (places : List Place) (rows : List MarkRow) (m : ℕ)
      → made found places rows m ≡ sheet n (record { left = left m; columns = columns; numerals = numerals }) title wires rows found arrows
  unfolding made
  parts found places rows m = refl

  svg_is : (found : List Finding) (places : List Place) (rows : List MarkRow) (m : ℕ)
      → found ≡ within columns (findings n) → places ≡ place_rows found → rows ≡ mark_rows columns places found → m ≡ margin n wires places
      → svg n columns numerals wires title arrows ≡ sheet n (record { left = left m; columns = columns; numerals = numerals }) title wires rows found arrows
  svg_is found places rows m is_found is_places is_rows is_margin =
      whole
      ∙ sym
      (ap (λ (k : ℕ). made found places rows k) is_margin
      ∙ ap (λ (r : List MarkRow). made found places r (margin n wires places)) is_rows
      ∙ ap (λ (p : List Place). made found p (mark_rows columns p found) (margin n wires p)) is_places
      ∙ ap (λ (f : List Finding). made f (place_rows f) (mark_rows columns (place_rows f) f) (margin n wires (place_rows f))) is_found)
      ∙ parts found places rows m

pub returns-in_err-found_list : goal.returns-in_err-found_list
returns-in_err-found_list g c = puts_unmade _ OutOfMemory _ _ c.from_residual.ensures.1 refl

pub returns-in_err-place_list : goal.returns-in_err-place_list
returns-in_err-place_list g c = puts_unmade _ OutOfMemory _ _ c.from_residual-in_err-place_list.ensures.1 refl

pub returns-in_err-row_list : goal.returns-in_err-row_list
returns-in_err-row_list g c = puts_unmade _ OutOfMemory _ _ c.from_residual-in_err-row_list.ensures.1 refl

pub returns-then-not-are_few : goal.returns-then-not-are_few
returns-then-not-are_few g c = puts_unmade (Err OutOfMemory) OutOfMemory _ _ refl refl

pub returns-in_err-rows : goal.returns-in_err-rows
returns-in_err-rows g c = puts_unmade _ OutOfMemory _ _ c.from_residual-in_err-rows.ensures.1 refl

pub returns-in_err-wires : goal.returns-in_err-wires
returns-in_err-wires g c = puts_unmade _ OutOfMemory _ _ c.from_residual-in_err-wires.ensures.1 refl

pub returns : goal.returns
returns g c =
    let n = c.args.picture.now.netlist.now in
    let cs = c.args.picture.now.columns in
    let nu = c.args.picture.now.numerals in
    let ws = c.args.picture.now.wires.now in
    let fs = c.as_slice-found.result.now in
    let ps = c.as_slice-places.result.now in
    let rs = c.in_ok-rows.rows in
    let m = c.margin_of-margin.result in
    let is = svg_is n cs nu ws c.args.title.now c.args.arrows.now fs ps rs m
    (c.as_slice-found.ensures.value ∙ c.in_ok-found_list.ensures.found ∙ ap (within cs) c.requires.findings)
    (c.as_slice-places.ensures.value ∙ c.in_ok-place_list.ensures)
    (c.in_ok-rows.ensures ∙ c.in_ok-row_list.ensures)
    c.margin_of-margin.ensures in
    rw is (rw (c.min.ensures, c.in_ok-wires.ensures) at c.put_sheet.ensures)
