use Rattle.std.proofs.Common.{◌≡◌, length, rules, ◌++◌, ◌∷◌, [], Some, sym, ap, ◌∙◌}
use Rattle.mp_model.proofs.BuiltLemmas.{width_of_module}
use Rattle.mp_modules.specs.declared.storage.output_levels.OutputLevels.{OutputLevels}
use Rattle.mp_modules.specs.storage.DataParts.{data_part, outputs_in}
use Rattle.mp_kernel.specs.datapath.LevelWheels.{scheduled, entry_if}
use Rattle.mp_simulation.proofs.lemmas.run.SeatingLemmas.{seats_data}
use Rattle.mp_simulation.proofs.run.seating.Seating.seat.Goals as goal

pub built-part-requires-clause-width : goal.built-part-requires-clause-width
built-part-requires-clause-width c = width_of_module c.args.netlist.now c.requires.form c.args.found.now c.requires.module

pub returns : goal.returns
returns c m at =
    let n = c.args.netlist.now in
    let r = c.args.found.now in
    let d = c.data_module-module.result in
    let made = c.data_module-module.ensures in
    let level = c.output-level.result in
    let outputs = made.outputs ∙ ap outputs_in (c.settled-memory.ensures m at) in
    let count : c.len-number.result ≡ length c.args.self.now.modules.modules.items = search rules in
    seats_data n m r c.args.inputs c.args.self.now _ d level at c.requires.wide
    (record {
      part = made.part ∙ ap data_part c.built-part.ensures;
      outputs = outputs;
      inputs_are = made.inputs;
      level = made.level;
      bits = made.bits;
    })
    (c.output-level.ensures ∙ sym (ap (λ (o : OutputLevels). o.first) made.outputs))
    c.in_ok-push-2.ensures.items
    (c.in_ok-push.ensures.items ∙ ap (λ k. c.args.self.now.modules.places.items ++ Some k ∷ []) count)
    (c.in_ok-schedule_level_if.ensures.scheduled ∙ ap (λ b. scheduled c.args.self.now.wheel (entry_if b d.ports.level level)) c.level_departs-departs.ensures)
    c.in_ok-schedule_level_if.ensures.places
