use Rattle.std.proofs.Common.{◌≡◌, ◌<◌, Ok, Option, sym, subst, ap, ◌∙◌, arith}
use Rattle.mp_streams.specs.Outgoing.{Writes}
use Rattle.mp_streams.proofs.OutLemmas.{puts_none}
use Rattle.mp_records.specs.declared.module_record.ModuleRecord.{ModuleRecord}
use Rattle.mp_records.specs.declared.ports.Output.{Output}
use Rattle.mp_records.specs.Outputs.{delay_of}
use Rattle.mp_model.specs.Waves.{level}
use Rattle.mp_questions.specs.timing.Waits.{given}
use Rattle.mp_check.specs.Notes.{port_note}
use Rattle.mp_check.proofs.NoteLemmas.{first_given, port_noted, port_unnoted}
use Rattle.mp_check.proofs.notes.put_port.Goals as goal

pub returns-in_default : goal.returns-in_default
returns-in_default g c =
    let n = c.args.end.now.at.netlist.now in
    subst (λ (slot : Option ModuleRecord). Writes {T = Unit {0}} (Ok tt) c.args.out.now c.args.out.now (port_note n c.args.found.now c.args.id.0 c.args.port slot)) c.in_default.ensures.value
    (puts_none c.args.out.now)

pub returns-then-delay-end : goal.returns-then-delay-end
returns-then-delay-end g c =
    let end = c.args.end.now in
    let n = end.at.netlist.now in
    let part = c.in-Some.part.now in
    let late : c.output_at-delay.result.delay ≡ delay_of part c.args.port = ap (λ (o : Output). o.delay) c.output_at-delay.ensures in
    subst (λ (slot : Option ModuleRecord). Writes {T = Unit {0}} (Ok tt) c.args.out.now c.args.out.now (port_note n c.args.found.now c.args.id.0 c.args.port slot)) c.in-Some.ensures.value
    (subst (Writes {T = Unit {0}} (Ok tt) c.args.out.now c.args.out.now)
    (port_unnoted n c.args.found.now c.args.id.0 c.args.port part c.output_at-delay.result.delay late (omega (arith, c.if-delay-end.true, end.last, end.at.within)))
    (puts_none c.args.out.now))

pub returns : goal.returns
returns g c =
    let end = c.args.end.now in
    let n = end.at.netlist.now in
    let ok = c.horizon-horizon.ensures.form in
    let part = c.in-Some.part.now in
    let late : c.output_at-delay.result.delay ≡ delay_of part c.args.port = ap (λ (o : Output). o.delay) c.output_at-delay.ensures in
    let within : c.output_at-delay.result.delay < n.horizon = omega (arith, c.if-delay-end.false, end.last, end.at.within) in
    let first : c.level_at-level.result ≡ given n c.args.id.0 c.args.port 0
    = c.level_at-level.ensures (level n c.args.wire.0) n.horizon c.prompt.ensures within ∙ ap (level n c.args.wire.0) late
    ∙ first_given n ok c.args.wire.0 c.args.id c.args.port part (sym c.in-Some.ensures.value) c.requires.driver in
    subst (λ (slot : Option ModuleRecord). Writes c.put_becomes.result c.args.out.now c.put_becomes.new.out (port_note n c.args.found.now c.args.id.0 c.args.port slot)) c.in-Some.ensures.value
    (subst (Writes c.put_becomes.result c.args.out.now c.put_becomes.new.out)
    (port_noted n c.args.found.now c.args.id.0 c.args.port part c.output_at-delay.result.delay late c.level_at-level.result within first) c.put_becomes.ensures)
