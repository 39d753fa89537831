-- What a change comes from, and all that leads to it.
use Rattle.std.specs.Prelude.{ℕ, ◌-◌, Bool, not, List, [], ◌∷◌, map, zero, suc, if◌then◌else◌}
use Rattle.std.specs.List.{flat_map, filter_map}
use Rattle.mp_modules.specs.declared.kind.Kind.{Kind}
use Rattle.mp_modules.specs.Kinds.{is_function}
use Rattle.mp_netlist.specs.Circuit.{Circuit}
use Rattle.mp_questions.specs.declared.causes.wire_change.WireChange.{WireChange}
use Rattle.mp_questions.specs.causes.Changes.{last_change}
use Rattle.mp_questions.specs.causes.Causes.{Cause, Outside, Start, Events, cause_of}

-- what a module of this kind does depends on what its inputs did before
abbrev pub has_memory : Kind → Bool
has_memory kind = not (is_function kind)

-- a change that is set from outside and a start come from nothing; another one comes from the last changes that the inputs of its module
-- have heard, each by its own delay, and without memory from the events of its cause alone
abbrev pub sources_by : Circuit → ℕ → Cause → List WireChange
sources_by n t Outside = []
sources_by n t (Start g) = []
sources_by n t (Events g es) =
    if has_memory g.part.kind then filter_map (λ i. last_change n i.wire (t - g.delay - i.delay)) g.part.inputs
    else map (λ e. e.change) es

-- the changes that a change comes from
abbrev pub sources : Circuit → WireChange → List WireChange
sources n c = sources_by n c.time (cause_of n c)

-- a change, what it comes from, what that comes from, and so on for so many steps
abbrev pub leading : Circuit → ℕ → WireChange → List WireChange
leading n zero c = c ∷ []
leading n (suc steps) c = c ∷ flat_map (leading n steps) (sources n c)

-- all changes that lead to a change, which leads to itself. Times fall from a change to its sources, so there are no more steps than its time
abbrev pub leads : Circuit → WireChange → List WireChange
leads n c = leading n c.time c
