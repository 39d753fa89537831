use Rattle.std.proofs.Common.{◌≡◌, Some, take, refl, ap, ◌∙◌}
use Rattle.std.specs.List.{flat_map}
use Rattle.mp_streams.proofs.OutLemmas.{puts_as, puts_unmade}
use Rattle.mp_streams.specs.declared.write_error.WriteError.TheVariants.{WriteFailed, OutOfMemory}
use Rattle.mp_questions.specs.declared.causes.levels.Levels.{Levels}
use Rattle.mp_questions.specs.causes.Changes.{last_change}
use Rattle.mp_questions.specs.timing.Ranges.{read_time}
use Rattle.mp_questions.specs.causes.Chains.{chain_from}
use Rattle.mp_questions.specs.causes.Why.{step_line}
use Rattle.mp_questions.proofs.lemmas.causes.WhyLemmas.{declared_is, puts_ok, puts_text, why_is}
use Rattle.mp_questions.proofs.causes.why.put_why.Goals as goal

pub returns-in_err-put_declared : goal.returns-in_err-put_declared
returns-in_err-put_declared g c =
    let n = c.args.netlist.now in
    let none = c.in_default.ensures.value ∙ ap (λ k. last_change k c.args.moment.wire (read_time k.horizon c.args.moment.time)) c.new-levels.ensures.netlist in
    puts_as _ WriteFailed c.from_residual.ensures.1 refl (puts_text (declared_is n c.new-levels.ensures.form c.args.moment c.args.steps none) c.in_err-put_declared.ensures)

pub returns-in_default : goal.returns-in_default
returns-in_default g c =
    let n = c.args.netlist.now in
    let none = c.in_default.ensures.value ∙ ap (λ k. last_change k c.args.moment.wire (read_time k.horizon c.args.moment.time)) c.new-levels.ensures.netlist in
    puts_ok (puts_text (declared_is n c.new-levels.ensures.form c.args.moment c.args.steps none) c.in_ok-put_declared.ensures)

pub returns-in_err-tracer : goal.returns-in_err-tracer
returns-in_err-tracer g c = puts_unmade _ OutOfMemory _ _ c.from_residual-in_err-tracer.ensures.1 refl

pub returns-in_err-put_chain : goal.returns-in_err-put_chain
returns-in_err-put_chain g c =
    let n = c.args.netlist.now in
    let last = c.in-Some.last in
    let some = c.in-Some.ensures.value ∙ ap (λ k. last_change k c.args.moment.wire (read_time k.horizon c.args.moment.time)) c.new-levels.ensures.netlist in
    let same : c.in_ok-tracer.tracer.levels.netlist.now ≡ n = ap (λ (levels : Levels). levels.netlist.now) c.in_ok-tracer.ensures ∙ c.new-levels.ensures.netlist in
    let text = ap (λ k. flat_map (step_line k) (take c.args.steps (chain_from k last.time (Some last)))) same ∙ why_is n c.new-levels.ensures.form c.args.moment c.args.steps last some c.in-Some.ensures.from in
    puts_as _ WriteFailed c.from_residual-in_err-put_chain.ensures.1 refl (puts_text text c.in_err-put_chain.ensures)

pub returns : goal.returns
returns g c =
    let n = c.args.netlist.now in
    let last = c.in-Some.last in
    let some = c.in-Some.ensures.value ∙ ap (λ k. last_change k c.args.moment.wire (read_time k.horizon c.args.moment.time)) c.new-levels.ensures.netlist in
    let same : c.in_ok-tracer.tracer.levels.netlist.now ≡ n = ap (λ (levels : Levels). levels.netlist.now) c.in_ok-tracer.ensures ∙ c.new-levels.ensures.netlist in
    let text = ap (λ k. flat_map (step_line k) (take c.args.steps (chain_from k last.time (Some last)))) same ∙ why_is n c.new-levels.ensures.form c.args.moment c.args.steps last some c.in-Some.ensures.from in
    puts_ok (puts_text text c.in_ok-put_chain.ensures)
