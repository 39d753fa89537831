-- Why a wire changes.
use Rattle.std.specs.Prelude.{ℕ, Bool, ◌-◌, ◌==◌, List, [], ◌∷◌, map, filter, option_map, Option, Some, None, if◌then◌else◌}
use Rattle.mp_modules.specs.Histories.{has_event}
use Rattle.mp_records.specs.declared.ids.ModuleId.{ModuleId}
use Rattle.mp_records.specs.declared.module_record.ModuleRecord.{ModuleRecord}
use Rattle.mp_records.specs.declared.ports.Input.{Input}
use Rattle.mp_records.specs.Outputs.{delay_of}
use Rattle.mp_netlist.specs.declared.driver.Driver.{Driver}
use Rattle.mp_netlist.specs.declared.driver.Driver.TheVariants.{Nothing, Stimulus, Port}
use Rattle.mp_netlist.specs.Circuit.{Circuit, module_at}
use Rattle.mp_netlist.specs.Drivers.{driver}
use Rattle.mp_model.specs.Levels.{input_by}
use Rattle.mp_model.specs.Waves.{level}
use Rattle.mp_questions.specs.declared.causes.wire_change.WireChange.{WireChange}
use Rattle.mp_questions.specs.declared.causes.input_event.InputEvent.{InputEvent}
use Rattle.mp_questions.specs.declared.causes.driving_port.DrivingPort.{DrivingPort as SeenPort}
use Rattle.mp_questions.specs.declared.causes.cause.Cause.{Cause as SeenCause}
use Rattle.mp_questions.specs.declared.causes.cause.Cause.TheVariants as seen
use Rattle.mp_questions.specs.causes.Changes.{change_at}

-- the module whose port drives a wire, and the delay of that port
pub record DrivingPort : Type 0 where
  pub id : ModuleId
  pub part : ModuleRecord
  pub delay : ℕ

-- what makes a wire change: what is set on it from outside, the start of the module that drives it, or events at the inputs of that module
pub data Cause : Type 0 where
  Outside : Cause
  Start : DrivingPort → Cause
  Events : DrivingPort → List InputEvent → Cause

abbrev pub port_at : ModuleId → ℕ → ModuleRecord → DrivingPort
port_at m p r = record { id = m; part = r; delay = delay_of r p }

-- the module that drives a wire, if one does
abbrev pub port_by : Circuit → Driver → Option DrivingPort
port_by n Nothing = None
port_by n Stimulus = None
port_by n (Port m p) = option_map (port_at m p) (module_at n m.0)

abbrev pub driving_port : Circuit → ℕ → Option DrivingPort
driving_port n w = port_by n (driver n w)

-- the level at an input differs from that a unit before
abbrev pub hears : Circuit → ℕ → Input → Bool
hears n t i = has_event (input_by n (level n) i) t

-- what an input hears at a time: the change of its wire, which was earlier by its delay
abbrev pub event_at : Circuit → ℕ → Input → InputEvent
event_at n t i = record { change = change_at n i.wire (t - i.delay); delay = i.delay }

-- the events at some inputs at a time, by port
abbrev pub events_at : Circuit → ℕ → List Input → List InputEvent
events_at n t inputs = map (event_at n t) (filter (hears n t) inputs)

-- a module starts at time 0; its later answers are to events, and reach the wire after the port's delay
abbrev pub cause_by : Circuit → ℕ → Option DrivingPort → Cause
cause_by n t None = Outside
cause_by n t (Some g) = if t == g.delay then Start g else Events g (events_at n (t - g.delay) g.part.inputs)

-- the cause of a change
abbrev pub cause_of : Circuit → WireChange → Cause
cause_of n c = cause_by n c.time (driving_port n c.wire.0)

-- the first of the events
abbrev pub first_change : List InputEvent → Option WireChange
first_change [] = None
first_change (e ∷ es) = Some e.change

-- the change that a change follows: the first event of its cause
abbrev pub followed : Cause → Option WireChange
followed Outside = None
followed (Start g) = None
followed (Events g es) = first_change es

-- the module that a change comes from, if it isn't set from outside
abbrev pub port_of : Cause → Option DrivingPort
port_of Outside = None
port_of (Start g) = Some g
port_of (Events g es) = Some g

-- a port and a cause of the program
abbrev pub port_seen : SeenPort → DrivingPort
port_seen g = record { id = g.id; part = g.part.now; delay = g.delay }

abbrev pub cause_seen : SeenCause → Cause
cause_seen seen.Outside = Outside
cause_seen (seen.Start g) = Start (port_seen g)
cause_seen (seen.Events g es) = Events (port_seen g) es.items
