-- The outputs of modules, of which the first ones stand apart.
use Rattle.std.specs.Prelude.{List, [], ◌∷◌}
use Rattle.mp_kernel.specs.declared.events.output_port.OutputPort.{OutputPort}
use Rattle.mp_kernel.specs.declared.events.output_ports.OutputPorts.{OutputPorts}
use Rattle.mp_kernel.specs.declared.events.output_table.OtherPorts.{OtherPorts}

-- the outputs of each module: the first one and the others
abbrev pub ports_by : List OutputPort → List OtherPorts → List OutputPorts
ports_by [] others = []
ports_by (first ∷ firsts) [] = []
ports_by (first ∷ firsts) (more ∷ others) = record { first = first; second = more.second; third = more.third } ∷ ports_by firsts others
