use Rattle.std.proofs.Common.{◌++◌, ap}
use Rattle.mp_streams.proofs.OutLemmas.{puts_then, puts_sooner, puts_straight, writes_failed}
use Rattle.mp_streams.proofs.out.Out.put_past.Goals as goal

pub returns-in_err-flush : goal.returns-in_err-flush
returns-in_err-flush g c = writes_failed _ c.from_residual.ensures.0 (puts_sooner c.args.bytes.now c.in_err-flush.ensures.written)

pub returns-then-bytes-len : goal.returns-then-bytes-len
returns-then-bytes-len g c =
    let first = rw (← c.self.view_is) at c.in_ok-flush.ensures.written in
    let none = rw (← c.self.view_is) at c.in_ok-flush.ensures.empty in
    puts_then first
    (puts_straight c.put_all.result _ _ c.args.bytes.now c.args.bytes.now (ap (λ l. l ++ c.args.bytes.now) none) none c.put_all.ensures.all c.put_all.ensures.failed c.put_all.ensures.faults)
