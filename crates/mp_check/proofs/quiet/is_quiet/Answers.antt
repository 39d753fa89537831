use Rattle.std.proofs.Common.{◌≡◌, ◌-◌, Option, ap, subst, ◌∙◌, arith, IfSome}
use Rattle.mp_modules.specs.Kinds.{output_width}
use Rattle.mp_records.specs.declared.ids.WireId.{WireId}
use Rattle.mp_records.specs.declared.ports.Output.{Output}
use Rattle.mp_records.specs.Outputs.{delay_of}
use Rattle.mp_netlist.specs.Circuit.{HasWidth, module_width}
use Rattle.mp_model.specs.Waves.{level}
use Rattle.mp_questions.specs.timing.Waits.{given}
use Rattle.mp_check.specs.Dead.{is_still, last_unit}
use Rattle.mp_check.proofs.PortLemmas.{wired_low}
use Rattle.mp_check.proofs.QuietLemmas.{not_quiet, quiet_by_still}
use Rattle.mp_check.proofs.StateLemmas.{wire_tells}
use Rattle.mp_check.proofs.quiet.is_quiet.Goals as goal

pub prompt-requires : goal.prompt-requires
prompt-requires c =
    let of = c.args.of.now in
    let n = of.end.at.netlist.now in
    let r = of.part.now in
    let form = c.horizon-horizon.ensures.form.modules_ok of.id.0 r of.stands in
    (subst (λ (o : Option WireId). IfSome o (λ w. HasWidth n w.0 (output_width r.kind (module_width n r) c.args.port))) c.requires (form.drives c.args.port)).0

pub is_still_after-requires-clause-port : goal.is_still_after-requires-clause-port
is_still_after-requires-clause-port c =
    let of = c.args.of.now in
    wired_low of.end.at.netlist.now c.horizon-horizon.ensures.form of.id.0 c.args.port of.part.now c.args.wire of.stands c.requires

pub is_still_after-requires-clause-level : goal.is_still_after-requires-clause-level
is_still_after-requires-clause-level c =
    let of = c.args.of.now in
    let n = of.end.at.netlist.now in
    let r = of.part.now in
    let p = c.args.port in
    let w = c.args.wire in
    let last : of.end.at.time ≡ last_unit n = of.end.last in
    let delay : c.output_at-delay.result.delay ≡ delay_of r p = ap (λ (o : Output). o.delay) c.output_at-delay.ensures in
    let upto = c.if-delay-last.false in
    let back : last_unit n - delay_of r p ≡ of.end.at.time - c.output_at-delay.result.delay = omega (arith, last, delay) in
    c.level_at-level.ensures (level n w.0) n.horizon c.prompt.ensures of.end.at.within ∙ ap (level n w.0) last
    ∙ wire_tells n c.horizon-horizon.ensures.form of.id.0 r of.stands p w c.requires (omega (arith, last, delay, upto)) ∙ ap (given n of.id.0 p) back

pub returns-then-delay-last : goal.returns-then-delay-last
returns-then-delay-last c =
    let of = c.args.of.now in
    let n = of.end.at.netlist.now in
    let last : of.end.at.time ≡ last_unit n = of.end.last in
    let delay : c.output_at-delay.result.delay ≡ delay_of of.part.now c.args.port = ap (λ (o : Output). o.delay) c.output_at-delay.ensures in
    let long = c.if-delay-last.true in
    not_quiet n of.id.0 c.args.port (delay_of of.part.now c.args.port) (omega (arith, last, delay, long))

pub returns : goal.returns
returns c =
    let of = c.args.of.now in
    let n = of.end.at.netlist.now in
    let r = of.part.now in
    let p = c.args.port in
    let last : of.end.at.time ≡ last_unit n = of.end.last in
    let delay : c.output_at-delay.result.delay ≡ delay_of r p = ap (λ (o : Output). o.delay) c.output_at-delay.ensures in
    let upto = c.if-delay-last.false in
    let back : of.end.at.time - c.output_at-delay.result.delay ≡ last_unit n - delay_of r p = omega (arith, last, delay) in
    c.is_still_after.ensures ∙ ap (is_still n (given n of.id.0 p)) back ∙ quiet_by_still n of.id.0 p (delay_of r p) (omega (arith, last, delay, upto))
