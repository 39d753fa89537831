use Rattle.std.proofs.Common.{◌≡◌, ◌+◌, ap, sym, ◌∙◌, arith}
use Rattle.mp_seats.specs.Widths.{written_length}
use Rattle.mp_seats.proofs.WidthLemmas.{none_written}
use Rattle.mp_seats.proofs.width.is_wide.Goals as goal

pub returns-then-bytes-room : goal.returns-then-bytes-room
returns-then-bytes-room c =
    let before = c.loop-first.invariant in
    let more = c.if-bytes-room.true in
    let is : written_length c.loop-first.rest.now ≡ c.bytes_of-bytes.result + written_length c.in-Some.others.now =
    ap written_length c.in-Some.ensures.cases.0 ∙ ap (λ n. n + written_length c.in-Some.others.now) (sym c.bytes_of-bytes.ensures) in
    omega (arith, before.0, before.1, more, is)

pub loop-first-preserved : goal.loop-first-preserved
loop-first-preserved c =
    let before = c.loop-first.invariant in
    let less = c.if-bytes-room.false in
    let is : written_length c.loop-first.rest.now ≡ c.bytes_of-bytes.result + written_length c.in-Some.others.now =
    ap written_length c.in-Some.ensures.cases.0 ∙ ap (λ n. n + written_length c.in-Some.others.now) (sym c.bytes_of-bytes.ensures) in
    (omega (arith, before.0), omega (arith, before.1, less, is))

pub returns : goal.returns
returns c =
    let before = c.loop-first.invariant in
    let none = none_written c.loop-first.rest.now c.in_default.ensures.cases in
    omega (arith, before.0, before.1, none)
