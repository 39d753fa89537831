use Rattle.std.proofs.Common.{◌≡◌, ℕ, ◌≤◌, List, length, Option, Some, refl, sym, ap, ◌∙◌, rules, arith}
use Rattle.mp_streams.proofs.OutLemmas.{puts_as, puts_unmade}
use Rattle.mp_streams.specs.declared.write_error.WriteError.TheVariants.{WriteFailed, OutOfMemory}
use Rattle.mp_wave.specs.Waveform.{Waveform, level_of}
use Rattle.mp_records.specs.declared.wire_record.WireRecord.{WireRecord}
use Rattle.mp_netlist.specs.Slots.{slot_at}
use Rattle.mp_netlist.specs.Circuit.{Circuit, wire_at}
use Rattle.mp_model.specs.Waves.{AreWavesOf}
use Rattle.mp_picture.specs.declared.cell.ColumnCell.{ColumnCell}
use Rattle.mp_picture.specs.Cells.{cells}
use Rattle.mp_picture.proofs.PutLemmas.{puts_ok}
use Rattle.mp_picture.proofs.WaveLemmas.{wave_cells, wave_at}
use Rattle.mp_picture.specs.declared.svg.frame.Frame.{Frame}
use Rattle.mp_picture.specs.declared.svg.lane.Lane.{Lane}
use Rattle.mp_picture.specs.svg.Frames.{lane}
use Rattle.mp_picture.specs.svg.Svg.{slot_group}
use Rattle.mp_picture.specs.svg.WireGroups.{wire_group}
use Rattle.mp_picture.proofs.lemmas.svg.ColumnLemmas.{few_cells}
use Rattle.mp_picture.proofs.svg.svg.put_wire.Goals as goal

-- the row of a wire that stands is drawn of the cells of its wave
row_is : (n : Circuit) (waves : List (Option Waveform)) (frame : Frame) (row w : ℕ) (r : WireRecord) (wave : Waveform) (place : Lane) (drawn : List ColumnCell)
    → AreWavesOf n waves → frame.columns.to ≤ n.horizon → wire_at n w ≡ Some r → slot_at waves w ≡ Some wave → place ≡ lane frame row → drawn ≡ cells (level_of wave) frame.columns
    → wire_group place w r drawn ≡ slot_group n frame row w (wire_at n w)
row_is n waves frame row w r wave place drawn are within stands has at is =
    ap (λ (p : Lane). wire_group p w r drawn) at
    ∙ ap (wire_group (lane frame row) w r) (is ∙ wave_cells n w wave frame.columns frame.columns.some frame.columns.wide within (wave_at n waves w r wave are stands has))
    ∙ ap (slot_group n frame row w) (sym stands)

pub returns-in_err-cells : goal.returns-in_err-cells
returns-in_err-cells g c = puts_unmade _ OutOfMemory _ _ c.from_residual.ensures.1 refl

pub put_wire_group-requires : goal.put_wire_group-requires
put_wire_group-requires g c =
    let columns = c.args.frame.columns in
    let few = few_cells (level_of c.in-Some-Some.wave.now) columns columns.wide (search rules) in
    let long : length c.as_slice.result.now ≡ length (cells (level_of c.in-Some-Some.wave.now) columns) = ap length (c.as_slice.ensures.value ∙ c.in_ok-cells.ensures) in
    omega (arith, long, few)

pub returns-in_err-put_wire_group : goal.returns-in_err-put_wire_group
returns-in_err-put_wire_group g c =
    let is = row_is c.args.picture.now.netlist.now c.args.picture.now.waves.now c.args.frame c.args.row c.args.wire.0 c.in-Some-Some.found.now c.in-Some-Some.wave.now c.lane-lane.result _
    c.requires.waves c.requires.horizon (sym c.in-Some-Some.ensures.value) (sym c.in-Some-Some.ensures') c.lane-lane.ensures (c.as_slice.ensures.value ∙ c.in_ok-cells.ensures) in
    puts_as _ WriteFailed c.from_residual-in_err-put_wire_group.ensures.1 refl (rw is at c.in_err-put_wire_group.ensures)

pub returns : goal.returns
returns g c =
    let is = row_is c.args.picture.now.netlist.now c.args.picture.now.waves.now c.args.frame c.args.row c.args.wire.0 c.in-Some-Some.found.now c.in-Some-Some.wave.now c.lane-lane.result _
    c.requires.waves c.requires.horizon (sym c.in-Some-Some.ensures.value) (sym c.in-Some-Some.ensures') c.lane-lane.ensures (c.as_slice.ensures.value ∙ c.in_ok-cells.ensures) in
    puts_ok (rw is at c.in_ok-put_wire_group.ensures)
