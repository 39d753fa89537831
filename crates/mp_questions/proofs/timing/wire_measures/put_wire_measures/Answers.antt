use Rattle.std.proofs.Common.{◌≡◌, ◌<◌, ◌≤◌, ℕ, List, [], bytes_eq, flat_map, length, ap, subst, ◌∙◌, arith}
use Rattle.std.proofs.lemmas.List.{take_all}
use Rattle.mp_streams.specs.Outgoing.{Writes}
use Rattle.mp_streams.proofs.OutLemmas.{puts_none, writes_failed}
use Rattle.mp_netlist.specs.Circuit.{Circuit}
use Rattle.mp_questions.specs.Once.{firsts}
use Rattle.mp_questions.specs.timing.Measures.{named_measure, named_measures, wire_measures}
use Rattle.mp_questions.specs.timing.Ranges.{read_time, read_end}
use Rattle.mp_questions.proofs.lemmas.OnceLemmas.{once_next, once_stopped}
use Rattle.mp_questions.proofs.timing.wire_measures.put_wire_measures.Goals as goal

-- the range is read below the netlist's horizon
read_as : (n : Circuit) (h from to a b : ℕ) (names : List (List ℕ)) → h ≡ n.horizon → a ≡ read_time h from → b ≡ read_end h to → named_measures n a b names ≡ wire_measures n from to names
unfolding wire_measures
read_as n h from to a b names horizon first end =
    ap (λ x. named_measures n x b names) (first ∙ ap (λ x. read_time x from) horizon) ∙ ap (λ x. named_measures n (read_time n.horizon from) x names) (end ∙ ap (λ x. read_end x to) horizon)

pub loop-place-init : goal.loop-place-init
loop-place-init g c = puts_none c.args.out.now

pub loop-place-preserved : goal.loop-place-preserved
loop-place-preserved g c =
    let n = c.args.netlist.now in
    let units = c.read-units.result in
    let names = c.args.names.now in
    let within : c.loop-place.place < length names = omega arith in
    once_next bytes_eq (named_measure n units.from units.to) names c.loop-place.place [] within c.loop-place.invariant c.in_ok-put_at.ensures

pub returns-in_err-put_at : goal.returns-in_err-put_at
returns-in_err-put_at g c =
    let n = c.args.netlist.now in
    let units = c.read-units.result in
    let names = c.args.names.now in
    let within : c.loop-place.place < length names = omega arith in
    let is = read_as n c.horizon.result c.args.range.from c.args.range.to units.from units.to names c.horizon.ensures.value c.read-units.ensures.from c.read-units.ensures.to in
    subst (Writes c.from_residual.result c.args.out.now c.put_at.new.out) is
    (writes_failed _ c.from_residual.ensures.0 (once_stopped bytes_eq (named_measure n units.from units.to) names c.loop-place.place [] within c.loop-place.invariant c.in_err-put_at.ensures))

pub returns : goal.returns
returns g c =
    let n = c.args.netlist.now in
    let units = c.read-units.result in
    let names = c.args.names.now in
    let over : length names ≤ c.loop-place.place = omega arith in
    let is = read_as n c.horizon.result c.args.range.from c.args.range.to units.from units.to names c.horizon.ensures.value c.read-units.ensures.from c.read-units.ensures.to in
    subst (Writes _ c.args.out.now c.loop-place.out) (ap (λ (l : List (List ℕ)). flat_map (named_measure n units.from units.to) (firsts bytes_eq l)) (take_all c.loop-place.place names over) ∙ is) c.loop-place.invariant
