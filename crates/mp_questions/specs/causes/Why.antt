-- What is answered to why a wire has a level.
use Rattle.std.specs.Prelude.{ℕ, List, [], ◌∷◌, ◌++◌, take, Option, Some, None, codes}
use Rattle.std.specs.List.{flat_map}
use Rattle.std.specs.Fmt.{decimal}
use Rattle.mp_modules.specs.Kinds.{word_of}
use Rattle.mp_records.specs.declared.wire_record.WireRecord.{WireRecord}
use Rattle.mp_netlist.specs.Circuit.{Circuit, wire_at}
use Rattle.mp_text.specs.Written.{wire_name, delay_text}
use Rattle.mp_questions.specs.declared.causes.wire_change.WireChange.{WireChange}
use Rattle.mp_questions.specs.declared.causes.input_event.InputEvent.{InputEvent}
use Rattle.mp_questions.specs.declared.causes.moment.Moment.{Moment}
use Rattle.mp_questions.specs.timing.Ranges.{read_time}
use Rattle.mp_questions.specs.causes.Causes.{DrivingPort, Cause, Outside, Start, Events, cause_of}
use Rattle.mp_questions.specs.causes.Chains.{chain}

-- a change, as `a 3=1`
abbrev pub change_text : Circuit → WireChange → List ℕ
change_text n c = wire_name n c.wire ++ (32 ∷ (decimal c.time ++ (61 ∷ decimal c.level)))

-- an event, as ` a 3=1`, or ` a 3=1/4` where the input has a delay
abbrev pub event_text : Circuit → InputEvent → List ℕ
event_text n e = 32 ∷ (change_text n e.change ++ delay_text e.delay)

-- a module, as ` < c1 C/2 <`
abbrev pub port_text : DrivingPort → List ℕ
port_text g = codes " < " ++ (g.part.name ++ (32 ∷ (word_of g.part.kind ++ (47 ∷ (decimal g.delay ++ codes " <")))))

abbrev pub cause_text : Circuit → Cause → List ℕ
cause_text n Outside = codes " < stim"
cause_text n (Start g) = port_text g ++ codes " start"
cause_text n (Events g es) = port_text g ++ flat_map (event_text n) es

-- the line of a change and its cause
abbrev pub step_line : Circuit → WireChange → List ℕ
step_line n c = change_text n c ++ (cause_text n (cause_of n c) ++ (10 ∷ []))

-- the line of a wire that didn't change, as `a 0=1 declared`, and none where no wire stands
abbrev pub declared_line : Option WireRecord → List ℕ
declared_line None = []
declared_line (Some r) = r.name ++ (codes " 0=" ++ (decimal r.initial ++ (codes " declared" ++ (10 ∷ []))))

-- the first lines of a chain, and another text where it has none
abbrev pub chain_text : Circuit → ℕ → List ℕ → List WireChange → List ℕ
chain_text n steps without [] = without
chain_text n steps without (c ∷ cs) = flat_map (step_line n) (take steps (c ∷ cs))

-- the last steps that led to the level of a wire at a time, the last first
unfoldable pub why_text : Circuit → Moment → ℕ → List ℕ
why_text n moment steps = chain_text n steps (declared_line (wire_at n moment.wire.0)) (chain n moment.wire (read_time n.horizon moment.time))
