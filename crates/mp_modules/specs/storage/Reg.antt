-- REG holds its data from a capture to a pass. Its inputs are the data, the capture and the pass, its outputs the data held and the capture and the pass again.
use Rattle.std.specs.Prelude.{ℕ, Bool, List, [], ◌∷◌, slice_index, not, ◌==◌, ◌&&◌, if◌then◌else◌}
use Rattle.mp_modules.specs.declared.memory.Memory.{Memory}
use Rattle.mp_modules.specs.declared.finding_code.FindingCode.TheVariants as codes
use Rattle.mp_modules.specs.declared.finding_set.FindingSet.{FindingSet}
use Rattle.mp_modules.specs.Memories.{with_outputs, output_of, is_event, seen}
use Rattle.mp_modules.specs.Findings.{no_findings, with_code_if}
use Rattle.mp_modules.specs.declared.storage.reg.Reg.{Reg}

-- open, where capture and pass have equal levels; else held
abbrev pub is_open : List ℕ → Bool
is_open levels = slice_index levels 1 == slice_index levels 2

-- the data while open, and else what was held
abbrev pub latched : ℕ → List ℕ → ℕ
latched former x = if is_open x then slice_index x 0 else former

abbrev pub start : Reg → Memory
start reg = with_outputs [] (reg.initial ∷ 0 ∷ 0 ∷ [])

abbrev pub step : Reg → Memory → List ℕ → Memory
step reg memory x = with_outputs x (latched (output_of memory 0) x ∷ slice_index x 1 ∷ slice_index x 2 ∷ [])

abbrev pub settle : Reg → List ℕ → Memory
settle reg x = step reg (seen x (start reg)) x

-- capture-while-held: the capture changes, held one unit before
abbrev pub is_capture_while_held : Memory → List ℕ → Bool
is_capture_while_held memory x = is_event memory x 1 && not (is_open memory.inputs)

-- pass-while-open: the pass changes, open one unit before
abbrev pub is_pass_while_open : Memory → List ℕ → Bool
is_pass_while_open memory x = is_event memory x 2 && is_open memory.inputs

-- data-at-capture: the data changes, open one unit before and held now
abbrev pub is_data_at_capture : Memory → List ℕ → Bool
is_data_at_capture memory x = is_event memory x 0 && is_open memory.inputs && not (is_open x)

abbrev pub found : Reg → Memory → List ℕ → FindingSet
found reg memory x =
    with_code_if codes.DataAtCapture (is_data_at_capture memory x)
    (with_code_if codes.PassWhileOpen (is_pass_while_open memory x)
    (with_code_if codes.CaptureWhileHeld (is_capture_while_held memory x) no_findings))
