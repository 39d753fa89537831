-- Inputs that a dead port may wait for, as a list.
use Rattle.std.specs.Prelude.{ℕ, List, [], ◌∷◌, ◌++◌, Option, None, if◌then◌else◌}
use Rattle.std.specs.Option.{option_to_list}
use Rattle.mp_records.specs.declared.ids.WireId.{WireId}
use Rattle.mp_netlist.specs.Circuit.{Circuit}
use Rattle.mp_netlist.specs.Drivers.{driver}
use Rattle.mp_check.specs.Waiting.{has_driver, wait_for, waiting}
use Rattle.mp_check.specs.declared.awaited.AwaitedInputs.{AwaitedInputs}
use Rattle.mp_holding.specs.declared.input_set.InputSet.{InputSet}
use Rattle.mp_holding.specs.declared.input_set.InputSet.TheVariants as sets
use Rattle.mp_check.specs.declared.wait.Wait.{Wait}

abbrev pub inputs_of : InputSet → List ℕ
inputs_of sets.None = []
inputs_of (sets.One p) = p ∷ []
inputs_of (sets.Two p q) = p ∷ q ∷ []

abbrev pub inputs_list : AwaitedInputs → List ℕ
inputs_list a = (option_to_list a.first ++ option_to_list a.second) ++ (option_to_list a.third ++ option_to_list a.fourth)

-- a module waits for a wire, where a port drives it that waits
abbrev pub waiting_for : Circuit → ℕ → WireId → Option Wait
waiting_for n m v = if has_driver (waiting n) (driver n v.0) then wait_for n m v else None
