-- What each kind of module does that joins or steers events. A level of an input is that at its port, 0 where there is none.
use Rattle.std.specs.Prelude.{ℕ, List, [], slice_index, ◌==◌, if◌then◌else◌}
use Rattle.mp_modules.specs.declared.core_module.CoreModule.{CoreModule}
use Rattle.mp_modules.specs.declared.core_module.CoreModule.TheVariants as parts
use Rattle.mp_modules.specs.declared.memory.Memory.{Memory}
use Rattle.mp_modules.specs.declared.rendezvous.Rendezvous.{Rendezvous}
use Rattle.mp_modules.specs.declared.finding_code.FindingCode.TheVariants as codes
use Rattle.mp_modules.specs.declared.finding_set.FindingSet.{FindingSet}
use Rattle.mp_modules.specs.Memories.{with_one_output, output_of, seen}
use Rattle.mp_modules.specs.Findings.{no_findings, with_code_if}
use Rattle.mp_modules.specs.CElement.{joined, is_withdrawn}
use Rattle.mp_modules.specs.Toggle.{toggle_step}
use Rattle.mp_modules.specs.Select.{select_step, is_unstable}
use Rattle.mp_modules.specs.Call.{call_step, is_overlap, is_done_without_call}
use Rattle.mp_modules.specs.Arbiter.{arbiter_step, is_repeat_request, is_done_without_grant}

-- the first output before time 0; the others are 0
abbrev pub first_output : CoreModule → ℕ
first_output (parts.C c) = if c.initial then 1 else 0
first_output _ = 0

-- the state before time 0
abbrev pub start : CoreModule → Memory
start part = with_one_output [] (first_output part)

-- the state at a time from 1 on, after that of the unit before
abbrev pub step : CoreModule → Memory → List ℕ → Memory
step (parts.C c) memory x = with_one_output x (joined c (output_of memory 0) x)
step parts.Toggle memory x = toggle_step memory x
step parts.Select memory x = select_step memory x
step parts.Call memory x = call_step memory x
step parts.Arbiter memory x = arbiter_step memory x

-- the state at time 0, settled by the same rules without events
abbrev pub settle : CoreModule → List ℕ → Memory
settle part x = step part (seen x (start part)) x

-- what is found at a time from 1 on, after the state of the unit before
abbrev pub found : CoreModule → Memory → List ℕ → FindingSet
found (parts.C c) memory x = with_code_if codes.Withdrawn (is_withdrawn c memory x) no_findings
found parts.Select memory x = with_code_if codes.SelectUnstable (is_unstable memory x) no_findings
found parts.Call memory x =
    with_code_if codes.DoneWithoutCall (is_done_without_call memory x) (with_code_if codes.CallOverlap (is_overlap memory x) no_findings)
found parts.Arbiter memory x =
    with_code_if codes.DoneWithoutGrant (is_done_without_grant memory x) (with_code_if codes.RepeatRequest (is_repeat_request memory x) no_findings)
found _ memory x = no_findings

-- a C-element from its parameters
abbrev pub rendezvous : List ℕ → Rendezvous
rendezvous params = record { initial = slice_index params 0 == 1; bubble_a = slice_index params 1 == 1; bubble_b = slice_index params 2 == 1 }
