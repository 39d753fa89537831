use Rattle.mp_exports.proofs.lemmas.vcd.Names.{refl, puts_as, puts_ok, puts_then, puts_sooner, WriteFailed, dump}
use Rattle.mp_exports.proofs.vcd.dumping.put_dump.Goals as goal

pub returns-in_err-put_preamble-clause-written : goal.returns-in_err-put_preamble-clause-written
unfolding dump
returns-in_err-put_preamble-clause-written g c = puts_as _ WriteFailed c.from_residual.ensures.1 refl (puts_sooner _ c.in_err-put_preamble.ensures)

pub returns-in_err-put_units-clause-written : goal.returns-in_err-put_units-clause-written
unfolding dump
returns-in_err-put_units-clause-written g c =
    puts_then c.in_ok-put_preamble.ensures (puts_as _ c.in_err-put_units.field-0.0 c.from_residual-in_err-put_units.ensures.1 refl (puts_sooner _ c.in_err-put_units.ensures))

pub returns-in_err-put_time_mark-clause-written : goal.returns-in_err-put_time_mark-clause-written
unfolding dump
returns-in_err-put_time_mark-clause-written g c =
    puts_then c.in_ok-put_preamble.ensures (puts_then c.in_ok-put_units.ensures
    (puts_as _ WriteFailed c.from_residual-in_err-put_time_mark.ensures.1 refl (rw c.horizon-horizon.ensures.value at c.in_err-put_time_mark.ensures)))

pub returns-clause-written : goal.returns-clause-written
unfolding dump
returns-clause-written g c = puts_then c.in_ok-put_preamble.ensures (puts_then c.in_ok-put_units.ensures (puts_ok (rw c.horizon-horizon.ensures.value at c.in_ok-put_time_mark.ensures)))
