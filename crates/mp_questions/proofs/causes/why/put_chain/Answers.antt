use Rattle.std.proofs.Common.{◌≡◌, ◌≤◌, [], Some, length, drop, take, sym, ap, ◌∙◌, subst, arith}
use Rattle.mp_netlist.specs.Circuit.{IsCircuit}
use Rattle.mp_streams.proofs.OutLemmas.{writes_failed}
use Rattle.mp_questions.specs.declared.causes.levels.Levels.{Levels}
use Rattle.mp_questions.specs.causes.Causes.{cause_of, followed}
use Rattle.mp_questions.specs.causes.Shares.{time_of}
use Rattle.mp_questions.proofs.lemmas.causes.ChainLemmas.{HasTime, first_fewer, followed_time, none_left, rest, step_at}
use Rattle.mp_questions.proofs.lemmas.causes.WhyLemmas.{chain_next, chain_over, chain_stopped}
use Rattle.mp_questions.proofs.causes.why.put_chain.Goals as goal

pub cause_of-cause-requires-clause-form : goal.cause_of-cause-requires-clause-form
cause_of-cause-requires-clause-form g c = subst (λ (levels : Levels). IsCircuit levels.netlist.now) (sym c.loop.invariant.levels) c.requires.form

pub returns-in_err-put_step : goal.returns-in_err-put_step
returns-in_err-put_step g c =
    let n = c.args.tracer.now.levels.netlist.now in
    let change = c.in-Some.change in
    let from = subst HasTime c.in-Some.is c.loop.invariant.from in
    let step = step_at n c.requires.form (rest n (Some c.args.last)) c.loop.counter change from (c.loop.invariant.left ∙ ap (rest n) c.in-Some.is) in
    let same = c.cause_of-cause.ensures.levels ∙ c.loop.invariant.levels in
    writes_failed _ c.from_residual.ensures.0 (chain_stopped n (rest n (Some c.args.last)) c.loop.counter c.args.steps change c.loop-test.true step c.loop.invariant.written (rw same at c.in_err-put_step.ensures))

pub loop-preserved : goal.loop-preserved
loop-preserved g c =
    let n = c.args.tracer.now.levels.netlist.now in
    let change = c.in-Some.change in
    let from = subst HasTime c.in-Some.is c.loop.invariant.from in
    let step = step_at n c.requires.form (rest n (Some c.args.last)) c.loop.counter change from (c.loop.invariant.left ∙ ap (rest n) c.in-Some.is) in
    let same = c.cause_of-cause.ensures.levels ∙ c.loop.invariant.levels in
    let next : followed (cause_of n change) ≡ c.followed-next.result
    = sym (c.followed-next.ensures ∙ ap followed (c.cause_of-cause.ensures.cause ∙ ap (λ (levels : Levels). cause_of levels.netlist.now change) c.loop.invariant.levels)) in
    let earlier = followed_time n c.requires.form change from c.followed-next.result next in
    record {
      levels = same;
      from = earlier.0;
      within = omega (arith, earlier.1, ap time_of c.in-Some.is, c.loop.invariant.within);
      left = step.left ∙ ap (rest n) next;
      written = chain_next n (rest n (Some c.args.last)) c.loop.counter c.args.steps change c.loop-test.true step c.loop.invariant.written (rw same at c.in_ok-put_step.ensures);
    }

pub returns-in_default : goal.returns-in_default
returns-in_default g c =
    let n = c.args.tracer.now.levels.netlist.now in
    let all = rest n (Some c.args.last) in
    let none : drop c.loop.counter all ≡ [] = c.loop.invariant.left ∙ ap (rest n) c.in_default.is in
    let over : length (take c.args.steps all) ≤ c.loop.counter = omega (arith, first_fewer all c.args.steps, none_left all c.loop.counter none) in
    chain_over n (take c.args.steps all) c.loop.counter over c.loop.invariant.written
