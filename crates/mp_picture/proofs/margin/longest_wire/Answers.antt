use Rattle.std.proofs.Common.{length, get_or, max, sym, ap, ◌∙◌, arith}
use Rattle.mp_records.specs.declared.ids.WireId.{WireId}
use Rattle.mp_text.specs.Written.{wire_name}
use Rattle.mp_picture.proofs.MarginLemmas.{longest_more}
use Rattle.mp_picture.proofs.margin.longest_wire.Goals as goal

pub loop-wire-preserved : goal.loop-wire-preserved
loop-wire-preserved c =
    let name = wire_name c.args.netlist.now in
    let i = c.loop-wire.wire-index in
    let d : WireId = record { 0 = 0 } in
    record {
      value =
          c.max-longest.ensures
          ∙ ap (λ k. max k c.loop-wire.longest) (ap length c.wire_name.ensures)
          ∙ ap (λ k. max (length (name (get_or c.args.wires.now i d))) k) c.loop-wire.invariant.value
          ∙ sym (longest_more name c.args.wires.now i d c.loop-wire-test.true);
      short = omega (arith, c.max-longest.ensures, c.wire_name.type_inv);
    }
