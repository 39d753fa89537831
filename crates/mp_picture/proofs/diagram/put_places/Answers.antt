use Rattle.std.proofs.Common.{get_or, refl}
use Rattle.mp_model.specs.declared.finding.Place.{Place}
use Rattle.mp_model.specs.Findings.{module_place}
use Rattle.mp_streams.proofs.OutLemmas.{puts_as, puts_next, puts_stopped, puts_unmade}
use Rattle.mp_streams.specs.declared.write_error.WriteError.TheVariants.{OutOfMemory}
use Rattle.mp_picture.specs.Found.{place_row}
use Rattle.mp_picture.proofs.MarkedLemmas.{row_is}
use Rattle.mp_picture.proofs.diagram.put_places.Goals as goal

pub returns-in_err-marked : goal.returns-in_err-marked
returns-in_err-marked g c = puts_unmade _ OutOfMemory _ _ c.from_residual.ensures.1 refl

pub returns-in_err-put_place : goal.returns-in_err-put_place
returns-in_err-put_place g c =
    let p = get_or c.args.places.now c.loop-place.place-index (module_place 0) in
    puts_as _ c.in_err-put_place.field-0.0 c.from_residual-in_err-put_place.ensures.1 refl
    (puts_stopped (λ (place : Place). place_row c.args.netlist.now c.args.layout place c.args.found.now) _ c.loop-place.place-index (module_place 0) c.loop-place-test.true c.loop-place.invariant
    (rw (row_is c.args.netlist.now c.args.layout c.args.found.now c.in_ok-marked.marked p c.in_ok-marked.ensures) at c.in_err-put_place.ensures))

pub loop-place-preserved : goal.loop-place-preserved
loop-place-preserved g c =
    let p = get_or c.args.places.now c.loop-place.place-index (module_place 0) in
    puts_next (λ (place : Place). place_row c.args.netlist.now c.args.layout place c.args.found.now) _ c.loop-place.place-index (module_place 0) c.loop-place-test.true c.loop-place.invariant
    (rw (row_is c.args.netlist.now c.args.layout c.args.found.now c.in_ok-marked.marked p c.in_ok-marked.ensures) at c.in_ok-put_place.ensures)
