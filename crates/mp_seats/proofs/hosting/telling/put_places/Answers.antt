use Rattle.std.proofs.Common.{◌++◌, refl}
use Rattle.mp_streams.specs.declared.write_error.WriteError.TheVariants.{WriteFailed}
use Rattle.mp_streams.proofs.OutLemmas.{puts_ok, puts_as, puts_then, puts_sooner}
use Rattle.mp_seats.proofs.lemmas.hosting.TellingLemmas.{tells_both, tells_all}
use Rattle.mp_seats.proofs.hosting.telling.put_places.Goals as goal

pub returns-in_err-put_each : goal.returns-in_err-put_each
returns-in_err-put_each g c =
    let put = c.in_err-put_each.ensures in
    let rest = tells_all c.args.places.now.viewers in
    let r = c.from_residual in
    (put.0 ++ rest.0, tells_both (rw c.designers.ensures at put.1) rest.1, puts_as r.result WriteFailed r.ensures.1 refl (puts_sooner rest.0 put.2))

pub returns-in_err-put_each-2 : goal.returns-in_err-put_each-2
returns-in_err-put_each-2 g c =
    let first = c.in_ok-put_each.ensures in
    let put = c.in_err-put_each-2.ensures in
    let r = c.from_residual-in_err-put_each-2 in
    (first.0 ++ put.0, tells_both (rw c.designers.ensures at first.1) (rw c.viewers.ensures at put.1), puts_as r.result WriteFailed r.ensures.1 refl (puts_then first.2 put.2))

pub returns : goal.returns
returns g c =
    let first = c.in_ok-put_each.ensures in
    let put = c.in_ok-put_each-2.ensures in
    (first.0 ++ put.0, tells_both (rw c.designers.ensures at first.1) (rw c.viewers.ensures at put.1), puts_ok (puts_then first.2 put.2))
