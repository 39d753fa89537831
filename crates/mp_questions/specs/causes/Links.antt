-- From causes to effects.
use Rattle.std.specs.Prelude.{List, [], map}
use Rattle.std.specs.List.{flat_map}
use Rattle.mp_netlist.specs.Circuit.{Circuit}
use Rattle.mp_questions.specs.declared.causes.cause_link.CauseLink.{CauseLink}
use Rattle.mp_questions.specs.declared.causes.input_event.InputEvent.{InputEvent}
use Rattle.mp_questions.specs.declared.causes.moment.Moment.{Moment}
use Rattle.mp_questions.specs.declared.causes.wire_change.WireChange.{WireChange}
use Rattle.mp_questions.specs.timing.Ranges.{read_time}
use Rattle.mp_questions.specs.causes.Causes.{Cause, Outside, Start, Events, cause_of}
use Rattle.mp_questions.specs.causes.Chains.{chain}

abbrev pub link_to : WireChange → InputEvent → CauseLink
link_to effect e = record { cause = e.change; effect = effect }

-- a link from each event of a cause to its effect
abbrev pub links_by : WireChange → Cause → List CauseLink
links_by effect Outside = []
links_by effect (Start g) = []
links_by effect (Events g es) = map (link_to effect) es

abbrev pub links_to : Circuit → WireChange → List CauseLink
links_to n c = links_by c (cause_of n c)

-- those of the whole chain of causes of a wire's level at a time
unfoldable pub links : Circuit → Moment → List CauseLink
links n moment = flat_map (links_to n) (chain n moment.wire (read_time n.horizon moment.time))
