use Rattle.std.proofs.Common.{ℕ, List, arith, ap, subst, ◌∙◌}
use Rattle.mp_modules.specs.Kinds.{output_count}
use Rattle.mp_model.specs.response.Pieces.{levels_at}
use Rattle.mp_model.specs.response.Span.{IsUnitMore}
use Rattle.mp_model.proofs.lemmas.response.CursorLemmas.{present_levels, steady_levels}
use Rattle.mp_model.proofs.lemmas.response.SpanLemmas.{span_none, span_more, span_quiet}
use Rattle.mp_model.proofs.response.span.respond.Goals as goal

pub loop-time-init : goal.loop-time-init
loop-time-init c =
    let none = c.none-piece.ensures in
    record {
      low = omega arith;
      high = omega (arith, c.requires.span);
      reads = c.of-cursors.ensures;
      so_far = span_none c.args.part.now (levels_at c.args.inputs.now) c.args.memory c.args.from c.none-piece.result none.memory (none.ports ∙ c.outputs.ensures.count ∙ ap output_count c.kind.ensures) none.outputs none.findings;
    }

pub loop-time-smaller : goal.loop-time-smaller
loop-time-smaller c =
    let next = c.next_change-time.ensures in
    omega (arith, next.within, next.later (levels_at c.args.inputs.now) c.loop-time.time c.loop-time.invariant.reads c.loop-time-test.true)

pub loop-time-preserved : goal.loop-time-preserved
loop-time-preserved c =
    let part = c.args.part.now in
    let x = levels_at c.args.inputs.now in
    let time = c.loop-time.time in
    let kept = c.loop-time.invariant in
    let next = c.next_change-time.ensures in
    let later = next.later x time kept.reads c.loop-time-test.true in
    let levels = present_levels c.args.inputs.now time c.levels-levels.result c.requires.ports (c.levels-levels.ensures x time kept.reads) in
    let unit = subst (λ (l : List ℕ). IsUnitMore part l time c.loop-time.piece c.extend.new.self) levels c.in_ok-extend.ensures.ok in
    let more = span_more part x c.args.memory c.args.from time c.loop-time.piece c.extend.new.self kept.low kept.so_far unit in
    record {
      low = omega (arith, kept.low, later);
      high = next.within;
      reads = c.advanced-cursors.ensures x time (omega (arith, later)) kept.reads;
      so_far = span_quiet part x c.args.memory c.args.from time c.next_change-time.result c.extend.new.self kept.low later
          (λ u low high. steady_levels c.args.inputs.now u time c.requires.ports (λ port few. next.steady x time u port kept.reads low high few))
          more;
    }
