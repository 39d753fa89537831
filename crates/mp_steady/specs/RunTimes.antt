-- The times of a run, as a record of the program.
use Rattle.std.specs.Prelude.{◌≡◌, ℕ, List}
use Rattle.mp_netlist.specs.Circuit.{Circuit}
use Rattle.mp_steady.specs.declared.run_times.RunTimes.{RunTimes}
use Rattle.mp_steady.specs.Periods.{last_change, last_set, last_unit, longest_delay, longest_input_delay}

-- they are those of these wires
pub record AreTimes (n : Circuit) (wires : List ℕ) (times : RunTimes) : Type 0 where
  pub end : times.end ≡ last_unit n
  pub last_change : times.last_change ≡ last_change n wires
  pub last_set : times.last_set ≡ last_set n wires
  pub longest_delay : times.longest_delay ≡ longest_delay n wires
  pub longest_input_delay : times.longest_input_delay ≡ longest_input_delay n wires
