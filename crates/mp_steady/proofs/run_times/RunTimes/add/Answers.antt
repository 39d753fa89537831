use Rattle.std.proofs.Common.{ap, ◌∙◌}
use Rattle.mp_netlist.specs.Drivers.{driver}
use Rattle.mp_model.specs.Waves.{level}
use Rattle.mp_questions.specs.timing.Events.{since}
use Rattle.mp_steady.specs.Periods.{delay_by, last_unit, longest_input, set_by}
use Rattle.mp_steady.specs.WireSets.{wire_inputs}
use Rattle.mp_steady.proofs.ListLemmas.{greatest_one_more}
use Rattle.mp_steady.proofs.run_times.RunTimes.add.Goals as goal

pub returns : goal.returns
returns c wires are =
    let n = c.args.set.of.netlist.now in
    let w = c.args.wire.0 in
    record {
      end = are.end;
      last_change = greatest_one_more (λ v. since (level n v) (last_unit n)) wires w _ c.args.changed _ are.last_change c.requires c.max-self.ensures;
      last_set = greatest_one_more (λ v. set_by n v (driver n v)) wires w _ c.set_by.result _ are.last_set (c.set_by.ensures n w c.requires ∙ ap (set_by n w) c.driver_of-driver.ensures) c.max-self-2.ensures;
      longest_delay = greatest_one_more (λ v. delay_by n (driver n v)) wires w _ c.delay_by.result _ are.longest_delay (c.delay_by.ensures ∙ ap (delay_by n) c.driver_of-driver.ensures) c.max-self-3.ensures;
      longest_input_delay = greatest_one_more (λ v. longest_input (wire_inputs n v)) wires w _ c.longest_input.result _ are.longest_input_delay
          (c.longest_input.ensures ∙ ap longest_input c.wire_inputs-inputs.ensures) c.max-self-4.ensures;
    }
