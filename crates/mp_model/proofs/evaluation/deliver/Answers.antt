use Rattle.std.proofs.Common.{◌≡◌, ◌+◌, ◌<◌, ◌≤◌, ℕ, Option, Some, None, List, length, get_or, ap, sym, subst, ◌∙◌, arith}
use Rattle.std.proofs.lemmas.List.{get_or_default}
use Rattle.mp_modules.specs.Memories.{output_of}
use Rattle.mp_records.specs.declared.ports.Output.{Output}
use Rattle.mp_netlist.specs.Slots.{slot_at}
use Rattle.mp_netlist.proofs.LimitLemmas.{horizon_within}
use Rattle.mp_records.specs.Outputs.{output_at, delay_of}
use Rattle.mp_model.specs.Tracks.{Progress}
use Rattle.mp_model.specs.Evaluations.{AreTracks, IsOpenAt, delivered, with_expected}
use Rattle.mp_model.specs.Waves.{state}
use Rattle.mp_model.proofs.TracksLemmas.{tracks_without_wire, tracks_with_wire, tracks_open, tracks_past_horizon, tracks_after_ports}
use Rattle.mp_model.proofs.evaluation.deliver.Goals as goal
use Rattle.mp_model.proofs.evaluation.deliver.Goals.{in-Some+then-later-horizon+in_ok-expect, in-Some+else-later-horizon, in_default}

abbrev unread : Output
unread = record { wire = None; delay = 0 }

abbrev absent : Output
absent = record { wire = None; delay = 1 }

-- the output at a port, read from a slice that has the record's outputs
read_at : (read outputs : List Output) (p : ℕ) → read ≡ outputs → p < length read → get_or read p unread ≡ get_or outputs p absent
read_at read outputs p same within = get_or_default read p unread absent within ∙ ap (λ xs. get_or xs p absent) same

pub overflow_add-later : goal.overflow_add-later
overflow_add-later c =
    let items = c.as_slice-output-items.result.now in
    let found = c.requires.form.modules_ok c.args.id.0 c.args.found.now c.requires.found in
    let delay = found.delays c.loop-p.p unread (rw (← c.as_slice-output-items.ensures) c.loop-p-test.true) in
    let same : (get_or items c.loop-p.p unread).delay ≡ (get_or c.args.found.now.outputs c.loop-p.p unread).delay = ap (λ xs. (get_or xs c.loop-p.p unread).delay) c.as_slice-output-items.ensures in
    omega (arith, delay.1, same, c.requires.time, horizon_within _ c.requires.form)

pub expect-requires-clause-free : goal.expect-requires-clause-free
expect-requires-clause-free c =
    let n = c.args.netlist.now in
    let r = c.args.found.now in
    let p = c.loop-p.p in
    let tracks = c.loop-p.tracks.items in
    let wire = c.in-Some.wire in
    let same : get_or c.as_slice-output-items.result.now p unread ≡ output_at r p = read_at _ r.outputs p c.as_slice-output-items.ensures c.loop-p-test.true in
    let named : (output_at r p).wire ≡ Some wire = ap (λ (o : Output). o.wire) (sym same) ∙ c.in-Some.is in
    subst (λ (o : Output). IsOpenAt (c.args.time + o.delay) (slot_at tracks wire.0)) (sym same)
    (tracks_open n c.requires.form c.args.time c.args.id.0 p r wire tracks c.requires.found named c.loop-p.invariant)

pub loop-p-preserved : goal.loop-p-preserved
loop-p-preserved c =
    let n = c.args.netlist.now in
    let r = c.args.found.now in
    let p = c.loop-p.p in
    let tracks = c.loop-p.tracks.items in
    let same : get_or c.as_slice-output-items.result.now p unread ≡ output_at r p = read_at _ r.outputs p c.as_slice-output-items.ensures c.loop-p-test.true in
    let delay : (get_or c.as_slice-output-items.result.now p unread).delay ≡ delay_of r p = ap (λ (o : Output). o.delay) same in
    let horizon = c.horizon-horizon.ensures.value in
    elim c.match-output.branch [
      | in-Some+then-later-horizon+in_ok-expect w ↦
          let wire = w.in-Some.wire in
          let named : (output_at r p).wire ≡ Some wire = ap (λ (o : Output). o.wire) (sym same) ∙ w.in-Some.is in
          let with : ℕ → ℕ → List (Option Progress) = λ delay level. with_expected tracks wire.0 (c.args.time + delay) level in
          let level : w.output.result ≡ output_of (state n c.args.id.0 c.args.time) p = w.output.ensures ∙ ap (λ s. output_of s p) c.requires.memory in
          let is = w.in_ok-expect.ensures ∙ ap (λ (o : Output). with o.delay w.output.result) same ∙ ap (with (delay_of r p)) level in
          let low : c.args.time + delay_of r p < n.horizon = let before = w.if-later-horizon.true in omega (arith, before, delay, horizon) in
          rw w.tracks-is (subst (AreTracks n (delivered c.args.time c.args.id.0 (p + 1)) c.args.time) (sym is)
          (tracks_with_wire n c.requires.form c.args.time c.args.id.0 p r wire tracks c.requires.found named low c.loop-p.invariant))
      | in-Some+else-later-horizon w ↦
          let past : n.horizon ≤ c.args.time + delay_of r p = let after = w.if-later-horizon.false in omega (arith, after, delay, horizon) in
          rw w.tracks-is (tracks_past_horizon n c.args.time c.args.id.0 p r tracks c.requires.found past c.loop-p.invariant)
      | in_default w ↦
          let named : (output_at r p).wire ≡ None = ap (λ (o : Output). o.wire) (sym same) ∙ w.in_default.is in
          rw w.tracks-is (tracks_without_wire n c.args.time c.args.id.0 p r tracks c.requires.found named c.loop-p.invariant)
    ]

pub returns : goal.returns
returns c =
    let n = c.args.netlist.now in
    let r = c.args.found.now in
    let all : c.loop-p.p ≡ length r.outputs = rw (← c.as_slice-output-items.ensures) (omega arith) in
    tracks_after_ports n c.args.time c.args.id.0 r c.loop-p.tracks.items c.requires.found
    (subst (λ k. AreTracks n (delivered c.args.time c.args.id.0 k) c.args.time c.loop-p.tracks.items) all c.loop-p.invariant)
