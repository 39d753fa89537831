use Rattle.std.proofs.Common.{List, length, subst}
use Rattle.mp_kernel.specs.declared.events.output_port.OutputPort.{OutputPort}
use Rattle.mp_simulation.specs.bits.PortEvents.{source_of}
use Rattle.mp_simulation.specs.run.Numbers.{IsPlace, HasNumber}
use Rattle.mp_simulation.proofs.lemmas.run.NumberLemmas.{number_added, if_added}
use Rattle.mp_simulation.proofs.run.wiring.Wiring.number_of.Goals as goal

pub returns-clause-number : goal.returns-clause-number
returns-clause-number c =
    let next = c.args.self.now.next.items in
    let wanted = source_of c.args.input in
    let place = c.place_of-place.result in
    let is = subst (λ (xs : List OutputPort). IsPlace xs wanted.0 wanted.1 place) c.as_slice.ensures.value c.place_of-place.ensures in
    if_added c.insert_copy.result (length next) _ (λ k. HasNumber wanted next c.insert_copy.new.self.next.items k) c.insert_copy.ensures.number c.insert_copy.ensures.next
    (λ new_is. number_added wanted next c.insert_copy.new.self.next.items place is c.if-place-eq0.false c.requires.links new_is)
