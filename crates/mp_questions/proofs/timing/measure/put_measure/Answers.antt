use Rattle.std.proofs.Common.{◌≡◌, ℕ, length, ap, subst, ◌∙◌}
use Rattle.std.specs.List.{flat_map, range_with_len}
use Rattle.mp_streams.specs.Outgoing.{Writes}
use Rattle.mp_streams.proofs.OutLemmas.{puts_sooner, puts_then, writes_failed}
use Rattle.mp_netlist.specs.Circuit.{Circuit}
use Rattle.mp_questions.specs.timing.Measures.{bundle_measure, measured, measure}
use Rattle.mp_questions.specs.timing.Ranges.{read_time, read_end}
use Rattle.mp_questions.proofs.timing.measure.put_measure.Goals as goal

-- the range is read below the netlist's horizon
read_as : (n : Circuit) (h from to a b : ℕ) → h ≡ n.horizon → a ≡ read_time h from → b ≡ read_end h to → measured n a b ≡ measure n from to
unfolding measure
read_as n h from to a b horizon first end =
    ap (λ x. measured n x b) (first ∙ ap (λ x. read_time x from) horizon) ∙ ap (measured n (read_time n.horizon from)) (end ∙ ap (λ x. read_end x to) horizon)

pub returns-in_err-put_wires : goal.returns-in_err-put_wires
returns-in_err-put_wires g c =
    let n = c.args.netlist.now in
    let units = c.read-units.result in
    let is = read_as n c.horizon.result c.args.range.from c.args.range.to units.from units.to c.horizon.ensures.value c.read-units.ensures.from c.read-units.ensures.to in
    subst (Writes c.from_residual.result c.args.out.now c.put_wires.new.out) is
    (writes_failed _ c.from_residual.ensures.0 (puts_sooner (flat_map (bundle_measure n units.from units.to) (range_with_len 0 (length n.bundles))) c.in_err-put_wires.ensures))

pub returns : goal.returns
returns g c =
    let n = c.args.netlist.now in
    let units = c.read-units.result in
    let is = read_as n c.horizon.result c.args.range.from c.args.range.to units.from units.to c.horizon.ensures.value c.read-units.ensures.from c.read-units.ensures.to in
    subst (Writes c.put_bundles.result c.args.out.now c.put_bundles.new.out) is (puts_then c.in_ok-put_wires.ensures c.put_bundles.ensures)
