use Rattle.std.proofs.Common.{ℕ, List, All, refl, ap, sym, ◌∙◌, subst}
use Rattle.mp_records.specs.declared.ports.Output.{Output}
use Rattle.mp_records.specs.Outputs.{output_in}
use Rattle.mp_simulation.specs.units.DataSeats.{bit_port_of}
use Rattle.mp_simulation.specs.run.Settling.{IsShort}
use Rattle.mp_simulation.specs.run.Seating.{level_output_of}
use Rattle.mp_simulation.proofs.lemmas.run.SettlingLemmas.{short_module}
use Rattle.mp_simulation.proofs.lemmas.run.SeatingLemmas.{same_ports}
use Rattle.mp_simulation.proofs.run.seating.data_module.Goals as goal

pub data_ports-requires : goal.data_ports-requires
data_ports-requires c =
    subst (λ (xs : List Output). All IsShort xs) (sym c.as_slice.ensures) (short_module c.args.netlist.now c.args.found.now c.requires.module)

pub returns : goal.returns
returns c =
    let n = c.args.netlist.now in
    let ports = c.data_ports.result in
    let made = c.data_ports.ensures in
    let outputs = c.as_slice.ensures in
    let bit = λ (p : ℕ). ap (λ (xs : List Output). bit_port_of n (output_in xs p)) outputs in
    record {
      part = c.of.ensures;
      outputs = c.of-2.ensures;
      inputs = refl;
      level = made.level ∙ ap (λ (xs : List Output). level_output_of n (output_in xs 0)) outputs;
      bits = same_ports ports.bits _ _ _ (made.first ∙ bit 0) (made.second ∙ bit 1) (made.third ∙ bit 2);
    }
