use Rattle.std.proofs.Common.{◌≡◌, max, take, ap, sym, ◌∙◌, arith}
use Rattle.mp_check.specs.CheckLines.{stands_since}
use Rattle.mp_check.specs.declared.wait.Wait.{Wait}
use Rattle.mp_check.proofs.LineLemmas.{since_more}
use Rattle.mp_check.proofs.lines.stands_since.Goals as goal

abbrev none : Wait
none = record { waiter = record { 0 = 0 }; wire = record { 0 = 0 }; next = 0 }

pub loop-wait-preserved : goal.loop-wait-preserved
loop-wait-preserved c =
    let n = c.args.end.now.at.netlist.now in
    let i = c.loop-wait.wait-index in
    let before = stands_since n (take i c.args.waits.now) in
    let greater : c.max-latest.result ≡ max c.loop-wait.latest c.since.result = omega (arith, c.max-latest.ensures) in
    greater ∙ ap (λ a. max a c.since.result) c.loop-wait.invariant ∙ ap (max before) c.since.ensures ∙ sym (since_more n c.args.waits.now i none c.loop-wait-test.true)
