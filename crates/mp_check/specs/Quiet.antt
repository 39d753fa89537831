-- How it is found that an output is quiet.
use Rattle.std.specs.Prelude.{ℕ, Bool, true, false, List, zero, suc}
use Rattle.std.specs.List.{list_all}
use Rattle.mp_modules.specs.declared.kind.Kind.{Kind}
use Rattle.mp_modules.specs.declared.kind.Kind.TheVariants as kinds
use Rattle.mp_records.specs.declared.ports.Input.{Input}
use Rattle.mp_netlist.specs.Circuit.{Circuit}
use Rattle.mp_model.specs.Levels.{input_by}
use Rattle.mp_model.specs.Waves.{level}
use Rattle.mp_questions.specs.declared.timing.marks.Marks.{Marks}
use Rattle.mp_check.specs.Dead.{is_still}

-- no input has an event later than a time
abbrev pub are_all_still : Circuit → ℕ → List Input → Bool
are_all_still n after inputs = list_all (λ i. is_still n (input_by n (level n) i) after) inputs

-- since when an output is what it is
abbrev pub mark_of : Marks → ℕ → ℕ
mark_of marks zero = marks.first_output
mark_of marks (suc zero) = marks.second_output
mark_of marks (suc (suc p)) = marks.third_output

-- the next state follows from the level of the first output and from the inputs
abbrev pub is_told_by_output : Kind → Bool
is_told_by_output kinds.Toggle = false
is_told_by_output kinds.Select = false
is_told_by_output kinds.Call = false
is_told_by_output kinds.Arbiter = false
is_told_by_output kind = true
