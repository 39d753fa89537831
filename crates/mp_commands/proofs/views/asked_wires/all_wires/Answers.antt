use Rattle.std.proofs.Common.{List, [], ◌∷◌, ◌++◌, sym, ap, ◌∙◌, arith}
use Rattle.std.proofs.lemmas.List.FromFn.{map-range_with_len_more}
use Rattle.mp_records.specs.declared.ids.WireId.{WireId}
use Rattle.mp_commands.specs.views.AskedWires.{wire_id}
use Rattle.mp_commands.proofs.views.asked_wires.all_wires.Goals as goal

pub loop-number-preserved : goal.loop-number-preserved
loop-number-preserved c =
    let w = c.loop-number.number in
    c.in_ok-push.ensures.items
    ∙ ap (λ (wires : List WireId). wires ++ wire_id w ∷ []) c.loop-number.invariant
    ∙ sym (map-range_with_len_more wire_id 0 w w (omega arith))
