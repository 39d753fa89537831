use Rattle.std.proofs.Common.{◌≡◌, ◌+◌, ◌≤◌, ◌<◌, ◌++◌, ◌∷◌, [], List, length, take, slice_index_or, refl, sym, subst, ◌∙◌, arith}
use Rattle.std.proofs.lemmas.List.{take_more, length-take-le, length-set}
use Rattle.std.proofs.lemmas.List.Elements.{All-take, All-weaker}
use Rattle.mp_records.specs.Inputs.{no_input}
use Rattle.mp_records.specs.declared.ports.Input.{Input}
use Rattle.mp_simulation.specs.run.Wirings.{AddsInputs, CanRead}
use Rattle.mp_simulation.proofs.lemmas.run.MoreInputsLemmas.{adds_none, adds_more, none_by_port, port_more}
use Rattle.mp_simulation.proofs.run.wiring.Wiring.add_module.Goals as goal

pub loop-port-init : goal.loop-port-init
loop-port-init c = record {
  done = record { numbers = []; adds = adds_none c.args.self.now c.args.place 0; by_port = none_by_port };
  long = refl;
}

pub add_input-requires-clause-links : goal.add_input-requires-clause-links
add_input-requires-clause-links c =
    c.loop-port.invariant.done.adds.links 65535
    (All-take (λ (i : Input). i.delay ≤ 65535) c.loop-port.port c.args.inputs.now
    (All-weaker (CanRead (length c.args.self.now.next.items)) (λ (i : Input). i.delay ≤ 65535) (λ i can. let low = can.delay in omega arith) c.args.inputs.now c.requires.inputs)) c.requires.links

pub loop-port-preserved : goal.loop-port-preserved
loop-port-preserved c =
    let inputs = c.args.inputs.now in
    let port = c.loop-port.port in
    let done = c.loop-port.invariant.done in
    let number = c.in_ok-number.number in
    let size : length (take port inputs) ≡ port = length-take-le port inputs (omega arith) in
    let same : 0 + length (take port inputs) ≡ port = omega arith in
    let one = c.in_ok-number.ensures port c.event_bit.ensures in
    let long : length done.numbers ≡ port = done.adds.count ∙ size in
    let within : port < length c.loop-port.numbers = omega arith in
    record {
      done = record {
        numbers = done.numbers ++ number ∷ [];
        adds = subst (λ (xs : List Input). AddsInputs c.args.self.now c.add_input.new.self c.args.place 0 xs (done.numbers ++ number ∷ [])) (sym (take_more inputs port no_input (omega arith)))
            (adds_more c.args.self.now c.loop-port.self c.add_input.new.self c.args.place 0 (take port inputs) (slice_index_or inputs port no_input ∷ []) done.numbers (number ∷ []) done.adds
            (subst (λ k. AddsInputs c.loop-port.self c.add_input.new.self c.args.place k (slice_index_or inputs port no_input ∷ []) (number ∷ [])) (sym same) one));
        by_port = port_more done.numbers number port c.loop-port.numbers _ done.by_port (sym long) within refl;
      };
      long = length-set c.loop-port.numbers port _ ∙ c.loop-port.invariant.long;
    }
