use Rattle.std.proofs.Common.{◌∙◌}
use Rattle.mp_simulation.proofs.run.layout.first_tables.Goals as goal

pub returns : goal.returns
returns c = record {
  fanout = c.in_ok-fanout.ensures ∙ c.as_slice.ensures.value;
  outputs = c.in_ok-outputs.ensures;
  waves = c.in_ok-waves-2.ensures ∙ c.in_ok-waves.ensures;
}
