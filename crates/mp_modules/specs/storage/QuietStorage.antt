-- A further unit with the same input levels changes nothing, and nothing is found at it.
use Rattle.std.specs.Prelude.{◌≡◌, ℕ, List, [], ◌∷◌, slice_index, refl}
use Rattle.std.proofs.Common.{ap}
use Rattle.mp_modules.specs.declared.memory.Memory.{Memory}
use Rattle.mp_modules.specs.Memories.{with_outputs, output_of, seen}
use Rattle.mp_modules.specs.Findings.{no_findings}
use Rattle.mp_modules.specs.Quiet.{unchanged, again}
use Rattle.mp_modules.specs.storage.Reg as reg
use Rattle.mp_modules.specs.declared.storage.reg.Reg.{Reg}

pub reg_stepped_stays : (part : Reg) (m : Memory) (x : List ℕ) → reg.step part (reg.step part m x) x ≡ reg.step part m x
reg_stepped_stays part m x =
    ap (λ q. with_outputs x (q ∷ slice_index x 1 ∷ slice_index x 2 ∷ [])) (again (reg.is_open x) (slice_index x 0) (output_of m 0))

pub reg_settled_stays : (part : Reg) (x : List ℕ) → reg.step part (reg.settle part x) x ≡ reg.settle part x
reg_settled_stays part x = reg_stepped_stays part (seen x (reg.start part)) x

pub reg_stepped_quiet : (part : Reg) (m : Memory) (x : List ℕ) → reg.found part (reg.step part m x) x ≡ no_findings
reg_stepped_quiet part m x = rw (unchanged (slice_index x 0), unchanged (slice_index x 1), unchanged (slice_index x 2)) refl

pub reg_settled_quiet : (part : Reg) (x : List ℕ) → reg.found part (reg.settle part x) x ≡ no_findings
reg_settled_quiet part x = reg_stepped_quiet part (seen x (reg.start part)) x
