use Rattle.std.proofs.Common.{Option, ap, subst, ◌∙◌, IfSome}
use Rattle.mp_modules.specs.Kinds.{output_width}
use Rattle.mp_records.specs.declared.ids.WireId.{WireId}
use Rattle.mp_netlist.specs.Circuit.{HasWidth, module_width}
use Rattle.mp_model.specs.Waves.{level}
use Rattle.mp_check.proofs.StateLemmas.{quiet_level}
use Rattle.mp_check.proofs.dead.given_level.Goals as goal

pub prompt-requires : goal.prompt-requires
prompt-requires c =
    let of = c.args.of.now in
    let n = of.end.at.netlist.now in
    let r = of.part.now in
    let form = c.horizon-horizon.ensures.form.modules_ok of.id.0 r of.stands in
    (subst (λ (o : Option WireId). IfSome o (λ w. HasWidth n w.0 (output_width r.kind (module_width n r) c.args.port))) c.requires.wire (form.drives c.args.port)).0

pub returns : goal.returns
returns c =
    let of = c.args.of.now in
    let n = of.end.at.netlist.now in
    let w = c.args.wire in
    c.level_at.ensures (level n w.0) n.horizon c.prompt.ensures of.end.at.within ∙ ap (level n w.0) of.end.last
    ∙ quiet_level n c.horizon-horizon.ensures.form of.id.0 of.part.now of.stands c.args.port w c.requires.wire c.requires.quiet
