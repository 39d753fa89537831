use Rattle.std.proofs.Common.{◌≡◌, ap, sym, ◌∙◌}
use Rattle.std.proofs.lemmas.Option.{same_Some}
use Rattle.mp_records.specs.declared.ids.WireId.{WireId}
use Rattle.mp_redo.proofs.lemmas.rerun.PortLemmas.{now_lit}
use Rattle.mp_redo.specs.rerun.Reruns.{on_of}
use Rattle.mp_redo.proofs.rerun.rerun.Rerun.turn_output_on.Goals as goal

pub returns-in_default-clause-on : goal.returns-in_default-clause-on
returns-in_default-clause-on c = λ w is. absurd (c.in_default.not-Some (record { 0 = w }) is)

pub turn_wire_on-requires-clause-stands : goal.turn_wire_on-requires-clause-stands
turn_wire_on-requires-clause-stands c = c.requires.stand c.in-Some.wire.0 c.in-Some.is

pub returns-clause-on : goal.returns-clause-on
returns-clause-on c = λ w is.
    let own : w ≡ c.in-Some.wire.0 = ap (λ (x : WireId). x.0) (same_Some (let x : WireId = record { 0 = w } in x) c.in-Some.wire (sym is ∙ c.in-Some.is)) in
    ap (on_of c.turn_wire_on.new.self) own ∙ now_lit c.args.self.now c.turn_wire_on.new.self c.in-Some.wire.0 c.in_ok-turn_wire_on.ensures.on
