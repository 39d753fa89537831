use Rattle.std.proofs.Common.{◌≡◌, ◌++◌, Some, ap, sym, subst, ◌∙◌}
use Rattle.std.specs.Result.{OnOk}
use Rattle.mp_wave.specs.Waveform.{level_of}
use Rattle.mp_netlist.specs.Circuit.{wire_at}
use Rattle.mp_picture.specs.Cells.{cells}
use Rattle.mp_picture.specs.Rows.{wire_row}
use Rattle.mp_picture.specs.Diagrams.{slot_row}
use Rattle.mp_picture.proofs.WaveLemmas.{wave_cells, wave_at}
use Rattle.mp_picture.proofs.row.push_wire_line.Goals as goal

pub returns-in-Some-Some : goal.returns-in-Some-Some
returns-in-Some-Some c =
    let n = c.args.netlist.now in
    let w = c.args.wire.0 in
    let layout = c.args.layout in
    let r = c.in-Some-Some.found.now in
    let wave = c.in-Some-Some.wave.now in
    let stands : wire_at n w ≡ Some r = sym c.in-Some-Some.ensures.value in
    let is = wave_at n c.args.waves.now w r wave c.requires.waves stands (sym c.in-Some-Some.ensures') in
    let same : wire_row layout r (cells (level_of wave) layout.columns) ≡ slot_row n layout w (wire_at n w) =
    ap (wire_row layout r) (wave_cells n w wave layout.columns layout.columns.some layout.columns.wide c.requires.within is)
    ∙ ap (slot_row n layout w) (sym stands) in
    subst (λ l. OnOk c.push_wave_row.result (c.push_wave_row.new.row.items ≡ c.args.row.now.items ++ l)) same c.push_wave_row.ensures
