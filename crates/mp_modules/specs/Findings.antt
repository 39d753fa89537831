-- The codes of findings, and sets of codes.
use Rattle.std.specs.Prelude.{ℕ, ◌-◌, Bool, true, false, List, [], ◌∷◌, codes, slice_index_or, slice_set}
use Rattle.mp_modules.specs.declared.finding_code.FindingCode.{FindingCode}
use Rattle.mp_modules.specs.declared.finding_code.FindingCode.TheVariants as found
use Rattle.mp_modules.specs.declared.finding_set.FindingSet.{FindingSet}

abbrev pub code_number : FindingCode → ℕ
code_number found.MergeCollision = 1
code_number found.Withdrawn = 2
code_number found.SelectUnstable = 3
code_number found.CallOverlap = 4
code_number found.DoneWithoutCall = 5
code_number found.RepeatRequest = 6
code_number found.DoneWithoutGrant = 7
code_number found.CaptureWhileHeld = 8
code_number found.PassWhileOpen = 9
code_number found.DataAtCapture = 10
code_number found.DataWhileBusy = 11
code_number found.Setup = 12
code_number found.RequestWhileBusy = 13
code_number found.AckWhileIdle = 14

abbrev pub code_word : FindingCode → List ℕ
code_word found.MergeCollision = codes "merge-collision"
code_word found.Withdrawn = codes "withdrawn"
code_word found.SelectUnstable = codes "select-unstable"
code_word found.CallOverlap = codes "call-overlap"
code_word found.DoneWithoutCall = codes "done-without-call"
code_word found.RepeatRequest = codes "repeat-request"
code_word found.DoneWithoutGrant = codes "done-without-grant"
code_word found.CaptureWhileHeld = codes "capture-while-held"
code_word found.PassWhileOpen = codes "pass-while-open"
code_word found.DataAtCapture = codes "data-at-capture"
code_word found.DataWhileBusy = codes "data-while-busy"
code_word found.Setup = codes "setup"
code_word found.RequestWhileBusy = codes "request-while-busy"
code_word found.AckWhileIdle = codes "ack-while-idle"

-- all codes by number
abbrev pub by_number : List FindingCode
by_number =
    found.MergeCollision ∷ found.Withdrawn ∷ found.SelectUnstable ∷ found.CallOverlap ∷ found.DoneWithoutCall ∷ found.RepeatRequest
    ∷ found.DoneWithoutGrant ∷ found.CaptureWhileHeld ∷ found.PassWhileOpen ∷ found.DataAtCapture ∷ found.DataWhileBusy ∷ found.Setup
    ∷ found.RequestWhileBusy ∷ found.AckWhileIdle ∷ []

-- the code is in the set
abbrev pub has_code : FindingSet → FindingCode → Bool
has_code set code = slice_index_or set.present (code_number code - 1) false

abbrev pub no_findings : FindingSet
no_findings = record { present = false ∷ false ∷ false ∷ false ∷ false ∷ false ∷ false ∷ false ∷ false ∷ false ∷ false ∷ false ∷ false ∷ false ∷ [] }

-- the set with the code too
abbrev pub with_code : FindingCode → FindingSet → FindingSet
with_code code set = record { present = slice_set set.present (code_number code - 1) true }

-- the set, with the code too where it is found
abbrev pub with_code_if : FindingCode → Bool → FindingSet → FindingSet
with_code_if code true set = with_code code set
with_code_if code false set = set
