-- The chains of causes that commands write and questions ask for.
use Rattle.std.specs.Prelude.{ℕ, Bool, true, nat_lt, List, [], Option, Some, None}
use Rattle.mp_records.specs.declared.ids.WireId.{WireId}
use Rattle.mp_netlist.specs.Circuit.{Circuit, wire_named}
use Rattle.mp_questions.specs.declared.causes.moment.Moment.{Moment}
use Rattle.mp_questions.specs.causes.Why.{why_text}
use Rattle.mp_questions.specs.causes.Paths.{path_since}
use Rattle.mp_commands.specs.views.AskedWires.{wire_id}

-- what is written of a wire, and nothing where it doesn't stand
abbrev pub of_wire : (WireId → List ℕ) → Option ℕ → List ℕ
of_wire text None = []
of_wire text (Some w) = text (wire_id w)

abbrev pub at : ℕ → WireId → Moment
at time wire = record { wire = wire; time = time }

-- the chain of causes of the level that the wire of a name has at a time, in so many steps at most
abbrev pub why_of : Circuit → List ℕ → ℕ → ℕ → List ℕ
why_of n name time steps = of_wire (λ wire. why_text n (at time wire) steps) (wire_named n name)

-- where its time went, from another time on
abbrev pub path_of : Circuit → List ℕ → ℕ → ℕ → List ℕ
path_of n name time from = of_wire (λ wire. path_since n (at time wire) from) (wire_named n name)

-- a time from which on a path counts is below the path's own, where it is given
abbrev pub is_begin : Option ℕ → ℕ → Bool
is_begin None time = true
is_begin (Some from) time = nat_lt from time
