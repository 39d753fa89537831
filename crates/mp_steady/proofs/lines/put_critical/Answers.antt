use Rattle.std.proofs.Common.{◌≡◌, filter, refl, ap, sym, ◌∙◌}
use Rattle.std.specs.List.{flat_map}
use Rattle.mp_streams.proofs.OutLemmas.{puts_as, puts_sooner, puts_then, puts_unmade}
use Rattle.mp_streams.specs.declared.write_error.WriteError.TheVariants.{WriteFailed, OutOfMemory}
use Rattle.mp_questions.specs.causes.Shares.{by_units, has_steps, shares}
use Rattle.mp_questions.proofs.lemmas.causes.WhyLemmas.{puts_ok, puts_text}
use Rattle.mp_steady.specs.Cycles.{cycle_length}
use Rattle.mp_steady.specs.SteadyLines.{cycle_text, module_line}
use Rattle.mp_steady.proofs.LineLemmas.{critical}
use Rattle.mp_steady.proofs.lines.put_critical.Goals as goal

pub returns-in_err-tracer : goal.returns-in_err-tracer
returns-in_err-tracer g c = puts_unmade _ OutOfMemory _ _ c.from_residual.ensures.1 refl

pub returns-in_err-cycle : goal.returns-in_err-cycle
returns-in_err-cycle g c = puts_unmade _ OutOfMemory _ _ c.from_residual-in_err-cycle.ensures.1 refl

pub returns-in_err-shares : goal.returns-in_err-shares
returns-in_err-shares g c = puts_unmade _ OutOfMemory _ _ c.from_residual-in_err-shares.ensures.1 refl

pub returns-in_err-put_cycle : goal.returns-in_err-put_cycle
returns-in_err-put_cycle g c =
    let n = c.args.of.set.of.netlist.now in
    let changes = c.as_slice-changes.result.now in
    let first : c.cycle.new.tracer.levels.netlist.now ≡ n = cc (c.in_ok-cycle.ensures.tracer, c.in_ok-tracer.ensures) in
    let then : c.shares_of.new.tracer.levels.netlist.now ≡ n = cc (c.in_ok-shares.ensures.levels, first) in
    let list = c.in_ok-shares.ensures.value ∙ ap (λ k. by_units (filter has_steps (shares k changes))) first in
    let long = c.cycle_length-length.ensures.value ∙ ap (λ k. cycle_length k changes) then in
    let whole = critical n changes c.in-Some.field-0.now c.cycle_length-length.result c.in_ok-shares.shares.items (sym c.in-Some.ensures.value) long list
    ∙ ap (cycle_text n) (c.as_slice-changes.ensures.value ∙ c.in_ok-cycle.ensures.value) in
    puts_as _ WriteFailed c.from_residual-in_err-put_cycle.ensures.1 refl (puts_text whole (puts_sooner (flat_map (module_line n) c.in_ok-shares.shares.items) c.in_err-put_cycle.ensures))

pub returns-in_err-put_modules : goal.returns-in_err-put_modules
returns-in_err-put_modules g c =
    let n = c.args.of.set.of.netlist.now in
    let changes = c.as_slice-changes.result.now in
    let first : c.cycle.new.tracer.levels.netlist.now ≡ n = cc (c.in_ok-cycle.ensures.tracer, c.in_ok-tracer.ensures) in
    let then : c.shares_of.new.tracer.levels.netlist.now ≡ n = cc (c.in_ok-shares.ensures.levels, first) in
    let list = c.as_slice.ensures.value ∙ c.in_ok-shares.ensures.value ∙ ap (λ k. by_units (filter has_steps (shares k changes))) first in
    let long = c.cycle_length-length.ensures.value ∙ ap (λ k. cycle_length k changes) then in
    let whole = critical n changes c.in-Some.field-0.now c.cycle_length-length.result c.as_slice.result.now (sym c.in-Some.ensures.value) long list
    ∙ ap (cycle_text n) (c.as_slice-changes.ensures.value ∙ c.in_ok-cycle.ensures.value) in
    puts_as _ WriteFailed c.from_residual-in_err-put_modules.ensures.1 refl (puts_text whole (puts_then c.in_ok-put_cycle.ensures c.in_err-put_modules.ensures))

pub returns : goal.returns
returns g c =
    let n = c.args.of.set.of.netlist.now in
    let changes = c.as_slice-changes.result.now in
    let first : c.cycle.new.tracer.levels.netlist.now ≡ n = cc (c.in_ok-cycle.ensures.tracer, c.in_ok-tracer.ensures) in
    let then : c.shares_of.new.tracer.levels.netlist.now ≡ n = cc (c.in_ok-shares.ensures.levels, first) in
    let list = c.as_slice.ensures.value ∙ c.in_ok-shares.ensures.value ∙ ap (λ k. by_units (filter has_steps (shares k changes))) first in
    let long = c.cycle_length-length.ensures.value ∙ ap (λ k. cycle_length k changes) then in
    let whole = critical n changes c.in-Some.field-0.now c.cycle_length-length.result c.as_slice.result.now (sym c.in-Some.ensures.value) long list
    ∙ ap (cycle_text n) (c.as_slice-changes.ensures.value ∙ c.in_ok-cycle.ensures.value) in
    puts_text whole (puts_then c.in_ok-put_cycle.ensures (puts_ok c.in_ok-put_modules.ensures))
