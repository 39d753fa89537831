use Rattle.std.proofs.Common.{◌≡◌, ℕ, length, ap, subst, ◌∙◌}
use Rattle.std.specs.List.{flat_map, range_with_len}
use Rattle.mp_streams.specs.Outgoing.{Writes}
use Rattle.mp_streams.proofs.OutLemmas.{puts_sooner, puts_then, writes_failed}
use Rattle.mp_netlist.specs.Circuit.{Circuit}
use Rattle.mp_questions.specs.timing.Waits.{bundle_wait, waits_at, waits}
use Rattle.mp_questions.specs.timing.Ranges.{read_time}
use Rattle.mp_questions.proofs.timing.waits.put_waits.Goals as goal

-- the time is read below the netlist's horizon
read_as : (n : Circuit) (h asked t : ℕ) → h ≡ n.horizon → t ≡ read_time h asked → waits_at n t ≡ waits n asked
unfolding waits
read_as n h asked t horizon is = ap (waits_at n) (is ∙ ap (λ x. read_time x asked) horizon)

pub returns-in_err-put_modules : goal.returns-in_err-put_modules
returns-in_err-put_modules g c =
    let n = c.args.netlist.now in
    let t = c.read_time-time.result in
    let is = read_as n c.horizon.result c.args.time t c.horizon.ensures.value c.read_time-time.ensures.value in
    subst (Writes c.from_residual.result c.args.out.now c.put_modules.new.out) is
    (writes_failed _ c.from_residual.ensures.0 (puts_sooner (flat_map (bundle_wait n t) (range_with_len 0 (length n.bundles))) c.in_err-put_modules.ensures))

pub returns : goal.returns
returns g c =
    let n = c.args.netlist.now in
    let t = c.read_time-time.result in
    let is = read_as n c.horizon.result c.args.time t c.horizon.ensures.value c.read_time-time.ensures.value in
    subst (Writes c.put_bundles.result c.args.out.now c.put_bundles.new.out) is (puts_then c.in_ok-put_modules.ensures c.put_bundles.ensures)
