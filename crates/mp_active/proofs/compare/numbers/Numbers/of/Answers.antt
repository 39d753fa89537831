use Rattle.std.proofs.Common.{◌≡◌, ◌<◌, ℕ, List, length, sym, ap, subst, ◌∙◌}
use Rattle.std.specs.Prelude.{slice_index_or}
use Rattle.mp_kernel.specs.declared.events.output_port.OutputPort.{OutputPort}
use Rattle.mp_active.specs.declared.compare.numbers.Numbers.{Numbers}
use Rattle.mp_active.specs.compare.Numbering.{HasWires}
use Rattle.mp_active.proofs.lemmas.compare.NumberingLemmas.{numbered, numbers_are}
use Rattle.mp_active.proofs.compare.numbers.Numbers.of.Goals as goal

pub delays_of-requires : goal.delays_of-requires
delays_of-requires c = (
  c.requires.0,
  subst (λ count. HasWires count c.requires.0 c.as_slice.result.now) (sym c.wire_slots.ensures.value)
      (subst (HasWires (length c.args.netlist.now.wires) c.requires.0) (sym c.as_slice.ensures.value) c.requires.1.numbers),
)

pub returns-clause-sources : goal.returns-clause-sources
returns-clause-sources c source are =
    let n = c.args.netlist.now in
    let numbers : Numbers = record { wires = c.args.wires; delays = c.in_ok-delays.delays; next = c.args.next; have_data = c.in_ok-have_data.have_data } in
    let has = subst (λ count. HasWires count source c.as_slice.result.now) (sym c.wire_slots.ensures.value) (subst (HasWires (length n.wires) source) (sym c.as_slice.ensures.value) are.numbers) in
    numbered n source numbers are (c.in_ok-delays.ensures.places ∙ ap (length {A = OutputPort}) c.as_slice.ensures.value)
    (subst (λ (next : List OutputPort). (x : ℕ) → x < length next → slice_index_or c.in_ok-delays.delays.items x 0 ≡ (source x).1) c.as_slice.ensures.value (c.in_ok-delays.ensures.right source has))

pub returns-clause-are : goal.returns-clause-are
returns-clause-are c =
    let n = c.args.netlist.now in
    let source = c.requires.0 in
    let are = c.requires.1 in
    let numbers : Numbers = record { wires = c.args.wires; delays = c.in_ok-delays.delays; next = c.args.next; have_data = c.in_ok-have_data.have_data } in
    let has = subst (λ count. HasWires count source c.as_slice.result.now) (sym c.wire_slots.ensures.value) (subst (HasWires (length n.wires) source) (sym c.as_slice.ensures.value) are.numbers) in
    numbers_are n source numbers are (c.in_ok-delays.ensures.places ∙ ap (length {A = OutputPort}) c.as_slice.ensures.value)
    (subst (λ (next : List OutputPort). (x : ℕ) → x < length next → slice_index_or c.in_ok-delays.delays.items x 0 ≡ (source x).1) c.as_slice.ensures.value (c.in_ok-delays.ensures.right source has))
    c.in_ok-have_data.ensures.places c.in_ok-have_data.ensures.each
