use Rattle.std.proofs.Common.{◌≡◌, ◌-◌, ◌^◌, ◌<◌, ◌||◌, ℕ, List, All, length, take, slice_index_or, sym, ap, subst, ◌∙◌, arith}
use Rattle.std.specs.List.{list_any, filter_map}
use Rattle.std.proofs.lemmas.Bool.{ne_eqb}
use Rattle.std.proofs.lemmas.List.{get_or_default, take_all}
use Rattle.mp_records.specs.declared.ports.Input.{Input}
use Rattle.mp_netlist.specs.Circuit.{IsCircuit}
use Rattle.mp_questions.specs.declared.causes.wire_change.WireChange.{WireChange}
use Rattle.mp_questions.specs.causes.Causes.{DrivingPort}
use Rattle.mp_questions.specs.declared.late.driven.Driven.{Driven}
use Rattle.mp_questions.specs.late.Lateness.{is_excused}
use Rattle.mp_questions.specs.late.Searching.{any_excused, from_on, source_at}
use Rattle.mp_questions.proofs.lemmas.late.SourceLemmas.{sources_are}
use Rattle.mp_questions.proofs.lemmas.late.LastLemmas.{change_time}
use Rattle.mp_questions.proofs.lemmas.late.SearchLemmas.{or_true, request_among, pushed, input_more, pushed_below, source_time, source_wire}
use Rattle.mp_questions.proofs.late.search.Search.push_sources.Goals as goal

pub source_from-found-requires-clause-form : goal.source_from-found-requires-clause-form
source_from-found-requires-clause-form c = subst (λ (d : Driven). IsCircuit d.netlist.now) (sym c.loop-input.invariant.0) c.requires.form

pub source_from-found-requires-clause-within : goal.source_from-found-requires-clause-within
source_from-found-requires-clause-within c =
    let less : c.saturating_sub-heard.result < c.args.self.now.of.netlist.now.horizon = omega (arith, c.requires.within, c.saturating_sub-heard.ensures) in
    subst (λ (d : Driven). c.saturating_sub-heard.result < d.netlist.now.horizon) (sym c.loop-input.invariant.0) less

pub loop-input-preserved : goal.loop-input-preserved
loop-input-preserved c =
    let n = c.args.self.now.of.netlist.now in
    let ok = c.requires.form in
    let w = c.args.request.wire.0 in
    let r = c.args.request.time in
    let kind = c.args.part.now.kind in
    let t = c.args.time in
    let delay = c.args.delay in
    let items = c.as_slice-input-items.result.now in
    let k = c.loop-input.input-index in
    let none : Input = record { wire = record { 0 = 0 }; delay = 0 } in
    let low : k < length items = omega (arith, c.loop-input-test.true) in
    let input : Input = slice_index_or items k none in
    let keys = c.loop-input.self.pending.keys in
    let found = c.source_from-found.result in
    let is : found ≡ from_on r (change_time (source_at n kind (t - delay) input)) =
    c.source_from-found.ensures ∙ ap (λ (d : Driven). from_on r (change_time (source_at d.netlist.now kind c.saturating_sub-heard.result input))) c.loop-input.invariant.0
    ∙ ap (λ u. from_on r (change_time (source_at n kind u input))) c.saturating_sub-heard.ensures in
    let value = c.in_ok-push.ensures.value in
    let wire_low : input.wire.0 < 2 ^ 32 = omega (arith, c.push.ensures.low) in
    let more = ap (λ (ks : List ℕ). any_excused n w r ks) value ∙ pushed n ok w r keys input.wire (source_at n kind (t - delay) input) found wire_low is (λ x e. source_wire n kind (t - delay) input x e) in (
      c.in_ok-push.ensures.of ∙ c.loop-input.invariant.0,
      input_more n ok w r kind (t - delay) k items input _ _ _ low (get_or_default items k none input low) c.loop-input.invariant.1 more,
      λ end bound all. subst (All (λ q. q < end)) (sym value)
          (pushed_below keys input.wire.0 t end found wire_low bound (source_time n ok kind t delay r input found c.requires.delay is) (c.loop-input.invariant.2 end bound all)),
    )

pub returns-clause-value : goal.returns-clause-value
returns-clause-value c = λ id.
    let n = c.args.self.now.of.netlist.now in
    let w = c.args.request.wire.0 in
    let r = c.args.request.time in
    let items = c.as_slice-input-items.result.now in
    let k = c.loop-input.input-index in
    let old = any_excused n w r c.args.self.now.pending.keys in
    let g : DrivingPort = record { id = id; part = c.args.part.now; delay = c.args.delay } in
    let all : take k items ≡ c.args.part.now.inputs = take_all k items (omega (arith, c.loop-input-test.false)) ∙ c.as_slice-input-items.ensures in
    c.loop-input.invariant.1
    ∙ ap (λ (is : List Input). old || list_any (is_excused n w r) (filter_map (source_at n c.args.part.now.kind (c.args.time - c.args.delay)) is)) all
    ∙ ap (λ (cs : List WireChange). old || list_any (is_excused n w r) cs) (sym (sources_are n c.args.time g (ne_eqb c.args.time c.args.delay c.if-time-delay.false)))

pub returns-then-is_request-clause-value : goal.returns-then-is_request-clause-value
returns-then-is_request-clause-value c = λ id.
    let n = c.args.self.now.of.netlist.now in
    let w = c.args.request.wire.0 in
    let r = c.args.request.time in
    let kind = c.args.part.now.kind in
    let t = c.args.time in
    let delay = c.args.delay in
    let items = c.as_slice-input-items.result.now in
    let k = c.loop-input.input-index in
    let none : Input = record { wire = record { 0 = 0 }; delay = 0 } in
    let low : k < length items = omega (arith, c.loop-input-test.true) in
    let input : Input = slice_index_or items k none in
    let old = any_excused n w r c.args.self.now.pending.keys in
    let g : DrivingPort = record { id = id; part = c.args.part.now; delay = delay } in
    let is : c.source_from-found.result ≡ from_on r (change_time (source_at n kind (t - delay) input)) =
    c.source_from-found.ensures ∙ ap (λ (d : Driven). from_on r (change_time (source_at d.netlist.now kind c.saturating_sub-heard.result input))) c.loop-input.invariant.0
    ∙ ap (λ u. from_on r (change_time (source_at n kind u input))) c.saturating_sub-heard.ensures in
    let request = c.is_request.ensures.0 c.if-is_request.true in
    let some = request_among n c.requires.form w r kind (t - delay) k items none low request.0 (sym request.1 ∙ is) in
    sym (ap (λ (cs : List WireChange). old || list_any (is_excused n w r) cs) (sources_are n t g (ne_eqb t delay c.if-time-delay.false))
    ∙ ap (λ (is : List Input). old || list_any (is_excused n w r) (filter_map (source_at n kind (t - delay)) is)) (sym c.as_slice-input-items.ensures)
    ∙ ap (λ b. old || b) some ∙ or_true old)
