-- What `steady` writes.
use Rattle.std.specs.Prelude.{ℕ, Bool, true, false, List, [], ◌∷◌, ◌++◌, filter, nat_lt, codes, Option, Some, None, if◌then◌else◌}
use Rattle.std.specs.List.{flat_map}
use Rattle.std.specs.Fmt.{decimal}
use Rattle.mp_records.specs.declared.ids.WireId.{WireId}
use Rattle.mp_netlist.specs.Circuit.{Circuit}
use Rattle.mp_text.specs.Written.{wire_name}
use Rattle.mp_questions.specs.declared.causes.wire_change.WireChange.{WireChange}
use Rattle.mp_questions.specs.declared.causes.module_share.ModuleShare.{ModuleShare}
use Rattle.mp_questions.specs.causes.Paths.{share_line}
use Rattle.mp_questions.specs.causes.Shares.{by_units, has_steps, shares}
use Rattle.mp_steady.specs.WireSets.{all_wires, control}
use Rattle.mp_steady.specs.Periods.{events, is_over, last_change, last_set, longest_period, period, start}
use Rattle.mp_steady.specs.Cycles.{cycle, cycle_length}

abbrev pub wire_id : ℕ → WireId
wire_id w = record { 0 = w }

-- the line of a wire with events, as `wire q1 2`
abbrev pub events_text : List ℕ → ℕ → List ℕ
events_text name count = if nat_lt 0 count then codes "wire " ++ (name ++ (codes " " ++ (decimal count ++ codes "\n"))) else []

abbrev pub events_line : Circuit → ℕ → ℕ → List ℕ
events_line n units w = events_text (wire_name n (wire_id w)) (events n units w)

-- the line of a module, as `module c2 10 2`
abbrev pub module_line : Circuit → ModuleShare → List ℕ
module_line n s = codes "module " ++ share_line n s

-- the line of a cycle of so many units, as `cycle 18 from q2 189`
abbrev pub cycle_line : Circuit → WireChange → ℕ → List ℕ
cycle_line n c units = codes "cycle " ++ (decimal units ++ (codes " from " ++ (wire_name n c.wire ++ (codes " " ++ (decimal c.time ++ codes "\n")))))

-- the lines of a cycle and of its modules
abbrev pub cycle_text : Circuit → List WireChange → List ℕ
cycle_text n [] = []
cycle_text n (c ∷ cs) = cycle_line n c (cycle_length n (c ∷ cs)) ++ flat_map (module_line n) (by_units (filter has_steps (shares n (c ∷ cs))))

-- the first line of wires that repeat, as `repeats from 6 every 18`, behind a word on which these are
abbrev pub repeats_line : List ℕ → ℕ → ℕ → List ℕ
repeats_line word from units = (word ++ (codes "repeats from " ++ decimal from)) ++ (codes " every " ++ (decimal units ++ codes "\n"))

-- what is said of wires that repeat
abbrev pub repeats_text : Circuit → List ℕ → List ℕ → ℕ → List ℕ
repeats_text n word wires units = repeats_line word (start n wires units) units ++ (flat_map (events_line n units) wires ++ cycle_text n (cycle n wires units))

-- what is said of wires that are over
abbrev pub over_text : Circuit → List ℕ → List ℕ → List ℕ
over_text n words wires = words ++ (decimal (last_change n wires) ++ codes "\n")

abbrev pub stimuli_text : ℕ → List ℕ
stimuli_text time = if nat_lt 0 time then codes "stimuli until " ++ (decimal time ++ codes ", ") else []

-- what is said where no period is found, as `doesn't repeat before 40: stimuli until 30, no period of up to 6`
abbrev pub none_text : Circuit → List ℕ → List ℕ
none_text n wires =
    (codes "doesn't repeat before " ++ (decimal n.horizon ++ codes ": "))
    ++ (stimuli_text (last_set n wires) ++ (codes "no period of up to " ++ (decimal (longest_period n wires) ++ codes "\n")))

-- what is said of a set of wires, or else another text
abbrev pub set_text : Circuit → List ℕ → List ℕ → List ℕ → Bool → Option ℕ → List ℕ → List ℕ
set_text n over word wires true found other = over_text n over wires
set_text n over word wires false (Some units) other = repeats_text n word wires units
set_text n over word wires false None other = other

abbrev pub text_of : Circuit → List ℕ → List ℕ → List ℕ → List ℕ → List ℕ
text_of n over word wires other = set_text n over word wires (is_over n wires) (period n wires) other

-- of the control, where it has a wire, and else of all wires
abbrev pub control_text : Circuit → List ℕ → List ℕ
control_text n [] = none_text n (all_wires n)
control_text n (w ∷ ws) = text_of n (codes "control stands still after ") (codes "control ") (w ∷ ws) (none_text n (w ∷ ws))

-- all wires are over or repeat, or the control is over or repeats, or neither is seen
unfoldable pub steady_text : Circuit → List ℕ
steady_text n = text_of n (codes "nothing changes after ") [] (all_wires n) (control_text n (control n))
