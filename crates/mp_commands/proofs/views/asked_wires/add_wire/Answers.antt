use Rattle.std.proofs.Common.{◌≡◌, Bool, true, [], ◌∷◌, ◌++◌, Option, cond, sym, ap, ◌∙◌}
use Rattle.std.specs.Prelude.{option_map}
use Rattle.std.specs.List.{list_any}
use Rattle.mp_records.specs.declared.ids.WireId.{WireId}
use Rattle.mp_commands.specs.views.AskedWires.{is_wire, wire_id, with_wire}
use Rattle.mp_commands.proofs.views.asked_wires.add_wire.Goals as goal

pub returns-then-has_wire : goal.returns-then-has_wire
returns-then-has_wire c =
    let items = c.args.wires.now.items in
    let wire = c.in-Some.wire in
    let known : list_any (is_wire wire) items ≡ true = ap (list_any (is_wire wire)) (sym c.as_slice.ensures.value) ∙ sym c.has_wire.ensures ∙ c.if-has_wire.true in
    sym
    (ap (λ (given : Option WireId). with_wire items (option_map (λ (id : WireId). id.0) given)) c.in-Some.is
    ∙ ap (λ (b : Bool). cond b items (items ++ wire_id wire.0 ∷ [])) known)
