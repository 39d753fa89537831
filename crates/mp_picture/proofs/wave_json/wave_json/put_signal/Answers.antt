use Rattle.std.proofs.Common.{◌≡◌, ℕ, ◌≤◌, Bool, true, false, List, Option, Some, refl, sym, ap, ◌∙◌}
use Rattle.mp_streams.proofs.OutLemmas.{puts_as, puts_unmade}
use Rattle.mp_streams.specs.declared.write_error.WriteError.TheVariants.{WriteFailed, OutOfMemory}
use Rattle.mp_wave.specs.Waveform.{Waveform, level_of}
use Rattle.mp_records.specs.declared.wire_record.WireRecord.{WireRecord}
use Rattle.mp_netlist.specs.Slots.{slot_at}
use Rattle.mp_netlist.specs.Circuit.{Circuit, wire_at}
use Rattle.mp_model.specs.Waves.{AreWavesOf}
use Rattle.mp_picture.specs.declared.cell.ColumnCell.{ColumnCell}
use Rattle.mp_picture.specs.declared.columns.Columns.{Columns}
use Rattle.mp_picture.specs.declared.numerals.Numerals.{Numerals}
use Rattle.mp_picture.specs.Cells.{cells}
use Rattle.mp_picture.specs.wave_json.WaveJson.{item_at, signal_line, slot_item}
use Rattle.mp_picture.proofs.WaveLemmas.{wave_cells, wave_at}
use Rattle.mp_picture.proofs.lemmas.wave_json.ItemLemmas.{item_as, puts_done}
use Rattle.mp_picture.proofs.wave_json.wave_json.put_signal.Goals as goal

-- the signal of a wire that stands is made of the cells of its wave
signal_is : (n : Circuit) (waves : List (Option Waveform)) (columns : Columns) (numerals : Numerals) (w : ℕ) (r : WireRecord) (wave : Waveform) (drawn : List ColumnCell)
    → AreWavesOf n waves → columns.to ≤ n.horizon → wire_at n w ≡ Some r → slot_at waves w ≡ Some wave → drawn ≡ cells (level_of wave) columns
    → signal_line numerals r drawn ≡ slot_item n columns numerals w (wire_at n w)
signal_is n waves columns numerals w r wave drawn are within stands has is =
    ap (signal_line numerals r)
    (is ∙ wave_cells n w wave columns columns.some columns.wide within (wave_at n waves w r wave are stands has))
    ∙ ap (slot_item n columns numerals w) (sym stands)

pub returns-in_err-cells-clause-written : goal.returns-in_err-cells-clause-written
returns-in_err-cells-clause-written g c = puts_unmade _ OutOfMemory _ _ c.from_residual.ensures.1 refl

pub returns-in_err-put_line-clause-written : goal.returns-in_err-put_line-clause-written
returns-in_err-put_line-clause-written g c =
    let picture = c.args.picture.now in
    let is = signal_is picture.netlist.now picture.waves.now picture.columns picture.numerals c.args.wire.0 c.in-Some-Some.found.now c.in-Some-Some.wave.now _
    c.requires.waves c.requires.within (sym c.in-Some-Some.ensures.value) (sym c.in-Some-Some.ensures') (c.as_slice.ensures.value ∙ c.in_ok-cells.ensures) in
    puts_as _ WriteFailed c.from_residual-in_err-put_line.ensures.1 refl (item_as c.args.is_first is c.in_err-put_line.ensures)

pub returns-clause-written : goal.returns-clause-written
returns-clause-written g c =
    let picture = c.args.picture.now in
    let is = signal_is picture.netlist.now picture.waves.now picture.columns picture.numerals c.args.wire.0 c.in-Some-Some.found.now c.in-Some-Some.wave.now _
    c.requires.waves c.requires.within (sym c.in-Some-Some.ensures.value) (sym c.in-Some-Some.ensures') (c.as_slice.ensures.value ∙ c.in_ok-cells.ensures) in
    puts_done (item_as c.args.is_first is c.in_ok-put_line.ensures)
