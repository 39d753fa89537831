-- When the levels of some wires repeat, and since when.
use Rattle.std.specs.Prelude.{ℕ, ◌+◌, ◌-◌, Bool, true, ◌&&◌, ◌||◌, ◌==◌, List, length, map, max, nat_le, bytes_eq, Option, Some, None, zero, suc, if◌then◌else◌}
use Rattle.std.specs.List.{find, fold, list_all, range_with_len}
use Rattle.std.specs.Bool.{beq}
use Rattle.mp_modules.specs.Clients.{is_same}
use Rattle.mp_modules.specs.declared.memory.Memory.{Memory}
use Rattle.mp_records.specs.declared.module_record.ModuleRecord.{ModuleRecord}
use Rattle.mp_records.specs.declared.ports.Input.{Input}
use Rattle.mp_records.specs.Outputs.{delay_of}
use Rattle.mp_netlist.specs.declared.driver.Driver.{Driver}
use Rattle.mp_netlist.specs.declared.driver.Driver.TheVariants.{Nothing, Stimulus, Port}
use Rattle.mp_netlist.specs.Circuit.{Circuit, module_at}
use Rattle.mp_netlist.specs.Drivers.{driver}
use Rattle.mp_model.specs.Waves.{level, state}
use Rattle.mp_questions.specs.timing.Events.{event_times, since}
use Rattle.mp_steady.specs.WireSets.{passes_on, wire_inputs}

-- the last unit
abbrev pub last_unit : Circuit → ℕ
last_unit n = n.horizon - 1

abbrev pub delay_in : ℕ → Option ModuleRecord → ℕ
delay_in p None = 0
delay_in p (Some r) = delay_of r p

abbrev pub delay_by : Circuit → Driver → ℕ
delay_by n Nothing = 0
delay_by n Stimulus = 0
delay_by n (Port m p) = delay_in p (module_at n m.0)

abbrev pub greatest : (ℕ → ℕ) → List ℕ → ℕ
greatest f wires = fold max 0 (map f wires)

-- the longest delay of the ports that drive these wires
abbrev pub longest_delay : Circuit → List ℕ → ℕ
longest_delay n wires = greatest (λ w. delay_by n (driver n w)) wires

abbrev pub longest_input : List Input → ℕ
longest_input inputs = fold max 0 (map (λ (i : Input). i.delay) inputs)

-- the longest delay of the inputs that these wires depend on
abbrev pub longest_input_delay : Circuit → List ℕ → ℕ
longest_input_delay n wires = greatest (λ w. longest_input (wire_inputs n w)) wires

-- the last time at which one of these wires changes, 0 where none does
abbrev pub last_change : Circuit → List ℕ → ℕ
last_change n wires = greatest (λ w. since (level n w) (last_unit n)) wires

abbrev pub set_by : Circuit → ℕ → Driver → ℕ
set_by n w Stimulus = since (level n w) (last_unit n)
set_by n w _ = 0

-- the last time at which a stimulus changes one of these wires, 0 where none does
abbrev pub last_set : Circuit → List ℕ → ℕ
last_set n wires = greatest (λ w. set_by n w (driver n w)) wires

-- nothing is on its way any more: the last change has gone through each port and come to each input
abbrev pub is_over : Circuit → List ℕ → Bool
is_over n wires = nat_le (last_change n wires + (longest_delay n wires + longest_input_delay n wires)) (last_unit n)

-- the last unit of which the wires tell up to the horizon's end what the modules gave
abbrev pub told_until : Circuit → List ℕ → ℕ
told_until n wires = last_unit n - longest_delay n wires

-- the first unit that the modules may still hear at that time
abbrev pub heard_from : Circuit → List ℕ → ℕ
heard_from n wires = told_until n wires - longest_input_delay n wires

-- the longest period that is looked for: before it, too, no stimulus changes
abbrev pub longest_period : Circuit → List ℕ → ℕ
longest_period n wires = heard_from n wires - last_set n wires

-- the least time from which on, up to t, a level is the one so many units later
abbrev pub repeats_from : (ℕ → ℕ) → ℕ → ℕ → ℕ
repeats_from f units zero = if f 0 == f (0 + units) then 0 else 1
repeats_from f units (suc t) = if f (suc t) == f (suc t + units) then repeats_from f units t else suc (suc t)

-- the least time from which on each of these wires has, up to the last unit, the level of so many units before
abbrev pub start : Circuit → List ℕ → ℕ → ℕ
start n wires units = greatest (λ w. repeats_from (level n w) units (last_unit n - units)) wires

-- two states are the same
abbrev pub is_same_state : Memory → Memory → Bool
is_same_state s t = bytes_eq s.inputs t.inputs && bytes_eq s.outputs t.outputs && is_same s.served t.served && beq s.waiting.first t.waiting.first && beq s.waiting.second t.waiting.second

-- the module m has the state of so many units before
abbrev pub is_state_again : Circuit → List ℕ → ℕ → ℕ → Bool
is_state_again n wires units m = is_same_state (state n m (told_until n wires - units)) (state n m (told_until n wires))

-- so has the module of a port, where that doesn't only pass an input on
abbrev pub is_again_in : Circuit → List ℕ → ℕ → ℕ → ℕ → Option ModuleRecord → Bool
is_again_in n wires units m p None = true
is_again_in n wires units m p (Some r) = passes_on r.kind p || is_state_again n wires units m

abbrev pub is_again_by : Circuit → List ℕ → ℕ → Driver → Bool
is_again_by n wires units Nothing = true
is_again_by n wires units Stimulus = true
is_again_by n wires units (Port m p) = is_again_in n wires units m.0 p (module_at n m.0)

-- these wires repeat every so many units: their levels do, as far back as modules may still hear them, and the states of the modules that drive them
unfoldable pub repeats : Circuit → List ℕ → ℕ → Bool
repeats n wires units = nat_le (start n wires units) (heard_from n wires - units) && list_all (λ w. is_again_by n wires units (driver n w)) wires

-- the least number of units after which they repeat
unfoldable pub period : Circuit → List ℕ → Option ℕ
period n wires = find (repeats n wires) (range_with_len 1 (longest_period n wires))

-- how often a wire changes in the last period, and so in each
abbrev pub events : Circuit → ℕ → ℕ → ℕ
events n units w = length (event_times (level n w) (n.horizon - units) n.horizon)
