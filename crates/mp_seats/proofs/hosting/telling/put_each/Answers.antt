use Rattle.std.proofs.Common.{[], ◌++◌, arith, rules}
use Rattle.mp_streams.proofs.OutLemmas.{puts_none, puts_then, puts_sooner, writes_failed}
use Rattle.mp_seats.specs.hosting.Places.{place_text}
use Rattle.mp_seats.proofs.lemmas.hosting.TellingLemmas.{tells_none, tells_more, tells_rest, tells_whole}
use Rattle.mp_seats.proofs.hosting.telling.put_each.Goals as goal

pub loop-index-init : goal.loop-index-init
loop-index-init g c = ([], tells_none, puts_none c.args.out.now)

pub loop-index-preserved : goal.loop-index-preserved
loop-index-preserved g c =
    let before = c.loop-index.invariant in
    let put = c.in_ok-put_place.ensures in
    let name = c.index-places-index.result in
    (before.0 ++ place_text name put.0, tells_more c.args.places.now c.loop-index.index name put.0 before.0 (omega arith) (search rules) before.1, puts_then before.2 put.1)

pub returns-in_err-put_place : goal.returns-in_err-put_place
returns-in_err-put_place g c =
    let before = c.loop-index.invariant in
    let put = c.in_err-put_place.ensures in
    let name = c.index-places-index.result in
    let rest = tells_rest c.args.places.now c.loop-index.index name put.0 before.0 (omega arith) (search rules) before.1 in
    ((before.0 ++ place_text name put.0) ++ rest.0, rest.1, writes_failed c.from_residual.result c.from_residual.ensures.0 (puts_sooner rest.0 (puts_then before.2 put.1)))

pub returns : goal.returns
returns g c =
    let before = c.loop-index.invariant in
    (before.0, tells_whole c.args.places.now c.loop-index.index before.0 (omega arith) before.1, before.2)
