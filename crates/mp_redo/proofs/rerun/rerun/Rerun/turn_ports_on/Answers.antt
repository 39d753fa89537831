use Rattle.std.proofs.Common.{◌<◌, ◌≤◌, None, length, slice_index_or, arith}
use Rattle.std.proofs.lemmas.List.{get_or_default}
use Rattle.mp_records.specs.declared.ports.Input.{Input}
use Rattle.mp_records.specs.declared.ports.Output.{Output}
use Rattle.mp_redo.proofs.lemmas.rerun.PortLemmas.{none_turned, turned_more, inputs_lit, outputs_lit, input_stands, output_stands_at, all_read, all_driven}
use Rattle.mp_redo.proofs.rerun.rerun.Rerun.turn_ports_on.Goals as goal

pub loop-input-init : goal.loop-input-init
loop-input-init c = record { turned = none_turned c.args.self.now; is = λ latest at. at; on = λ k low. absurd (omega (arith, low)) }

pub turn_wire_on-requires-clause-stands : goal.turn_wire_on-requires-clause-stands
turn_wire_on-requires-clause-stands c =
    let items = c.as_slice-input-items.result.now in
    let k = c.loop-input.input-index in
    let none : Input = record { wire = record { 0 = 0 }; delay = 0 } in
    let low : k < length items = omega arith in
    let here = slice_index_or items k none in
    input_stands c.args.change.now.new.now c.requires.change.form c.args.id.0 c.args.found.now c.requires.stands items k here c.as_slice-input-items.ensures low (get_or_default items k none here low)

pub turn_wire_on-requires-clause-is : goal.turn_wire_on-requires-clause-is
turn_wire_on-requires-clause-is c = (c.requires.is.0, c.loop-input.invariant.is c.requires.is.0 c.requires.is.1)

pub loop-input-preserved : goal.loop-input-preserved
loop-input-preserved c =
    let items = c.as_slice-input-items.result.now in
    let k = c.loop-input.input-index in
    let l = c.loop-input in
    let none : Input = record { wire = record { 0 = 0 }; delay = 0 } in
    let low : k < length items = omega arith in
    let here = slice_index_or items k none in
    let on = c.in_ok-turn_wire_on.ensures in
    record {
      turned = turned_more c.args.self.now l.self c.turn_wire_on.new.self l.invariant.turned on.turned;
      is = λ latest at. on.is latest (l.invariant.is latest at);
      on = inputs_lit items k l.self c.turn_wire_on.new.self here low (get_or_default items k none here low) on.on on.turned l.invariant.on;
    }

pub loop-output-init : goal.loop-output-init
loop-output-init c =
    let items = c.as_slice-input-items.result.now in
    let l = c.loop-input in
    let past : length items ≤ l.input-index = omega arith in
    record {
      turned = l.invariant.turned;
      is = l.invariant.is;
      read = all_read c.args.change.now.new.now c.requires.change.form c.args.id.0 c.args.found.now c.requires.stands items l.input-index l.self c.as_slice-input-items.ensures past l.invariant.on;
      on = λ k w low. absurd (omega (arith, low));
    }

pub turn_output_on-requires-clause-stand : goal.turn_output_on-requires-clause-stand
turn_output_on-requires-clause-stand c = λ w wire.
    let items = c.as_slice-output-items.result.now in
    let k = c.loop-output.output-index in
    let none : Output = record { wire = None; delay = 0 } in
    let low : k < length items = omega arith in
    let here = slice_index_or items k none in
    output_stands_at c.args.change.now.new.now c.requires.change.form c.args.id.0 c.args.found.now c.requires.stands items k w here c.as_slice-output-items.ensures low (get_or_default items k none here low) wire

pub turn_output_on-requires-clause-is : goal.turn_output_on-requires-clause-is
turn_output_on-requires-clause-is c = (c.requires.is.0, c.loop-output.invariant.is c.requires.is.0 c.requires.is.1)

pub loop-output-preserved : goal.loop-output-preserved
loop-output-preserved c =
    let items = c.as_slice-output-items.result.now in
    let k = c.loop-output.output-index in
    let l = c.loop-output in
    let none : Output = record { wire = None; delay = 0 } in
    let low : k < length items = omega arith in
    let here = slice_index_or items k none in
    let on = c.in_ok-turn_output_on.ensures in
    record {
      turned = turned_more c.args.self.now l.self c.turn_output_on.new.self l.invariant.turned on.turned;
      is = λ latest at. on.is latest (l.invariant.is latest at);
      read = λ w reads. on.turned.lit w (l.invariant.read w reads);
      on = outputs_lit items k l.self c.turn_output_on.new.self here low (get_or_default items k none here low) on.on on.turned l.invariant.on;
    }

pub returns-clause-is : goal.returns-clause-is
returns-clause-is c = c.loop-output.invariant.is

pub returns-clause-turned : goal.returns-clause-turned
returns-clause-turned c = c.loop-output.invariant.turned

pub returns-clause-read : goal.returns-clause-read
returns-clause-read c = c.loop-output.invariant.read

pub returns-clause-driven : goal.returns-clause-driven
returns-clause-driven c =
    let items = c.as_slice-output-items.result.now in
    let l = c.loop-output in
    let past : length items ≤ l.output-index = omega arith in
    all_driven c.args.change.now.new.now c.requires.change.form c.args.id.0 c.args.found.now c.requires.stands items l.output-index l.self c.as_slice-output-items.ensures past l.invariant.on
