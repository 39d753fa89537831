-- What a module does over a span of time, from its state before and its input levels at each time: the definition.
use Rattle.std.specs.Prelude.{◌≡◌, ℕ, ◌+◌, ◌-◌, ◌<◌, List, [], ◌∷◌, ◌++◌, map, length, slice_index_or, ◌==◌, if◌then◌else◌, zero, suc}
use Rattle.std.specs.List.{filter}
use Rattle.mp_modules.specs.Findings.{no_findings, has_code, by_number}
use Rattle.mp_modules.specs.Kinds.{output_count}
use Rattle.mp_modules.specs.Memories.{output_of}
use Rattle.mp_modules.specs.declared.finding_code.FindingCode.{FindingCode}
use Rattle.mp_modules.specs.declared.finding_set.FindingSet.{FindingSet}
use Rattle.mp_modules.specs.declared.memory.Memory.{Memory}
use Rattle.mp_modules.specs.storage.AnyModules.{kind_of, settle, step, found}
use Rattle.mp_modules.specs.declared.storage.any_module.AnyModule.{AnyModule}
use Rattle.mp_model.specs.declared.response.piece.Piece.{Piece}

-- the state after a unit: a settle at time 0, and else a step
abbrev pub next_state : AnyModule → Memory → List ℕ → ℕ → Memory
next_state part s x t = if t == 0 then settle part x else step part s x

-- what is found at a unit: nothing at time 0
abbrev pub found_at : AnyModule → Memory → List ℕ → ℕ → FindingSet
found_at part s x t = if t == 0 then no_findings else found part s x

-- the state after k units from the time a on, of a module with the input levels x
unfoldable pub state_after : AnyModule → (ℕ → List ℕ) → Memory → ℕ → ℕ → Memory
state_after part x s a zero = s
state_after part x s a (suc k) = next_state part (state_after part x s a k) (x (a + k)) (a + k)

-- the codes of a set by number, each with the time at which they were found
unfoldable pub findings_of : ℕ → FindingSet → List (ℕ × FindingCode)
findings_of t set = map (λ code. (t, code)) (filter (has_code set) by_number)

-- what is found in k units from the time a on
unfoldable pub findings_in : AnyModule → (ℕ → List ℕ) → Memory → ℕ → ℕ → List (ℕ × FindingCode)
findings_in part x s a zero = []
findings_in part x s a (suc k) =
    findings_in part x s a k ++ findings_of (a + k) (found_at part (state_after part x s a k) (x (a + k)) (a + k))

-- the changes of an output after one more unit: the level at time 0 counts as a change
abbrev pub extended : List (ℕ × ℕ) → ℕ → ℕ → ℕ → List (ℕ × ℕ)
extended changes t before now =
    if t == 0 then changes ++ (t, now) ∷ []
    else (if before == now then changes else changes ++ (t, now) ∷ [])

-- the changes in k units from the time a on of an output that is `level j` after j of them
unfoldable pub output_changes : (ℕ → ℕ) → ℕ → ℕ → List (ℕ × ℕ)
output_changes level a zero = []
output_changes level a (suc k) = extended (output_changes level a k) (a + k) (level k) (level (suc k))

-- the changes of a port before its delay
abbrev pub port_changes : AnyModule → (ℕ → List ℕ) → Memory → ℕ → ℕ → ℕ → List (ℕ × ℕ)
port_changes part x s a k p = output_changes (λ j. output_of (state_after part x s a j) p) a k

-- what a module with the input levels x does from the state s before the time a to before the time b
pub record IsSpan (part : AnyModule) (x : ℕ → List ℕ) (s : Memory) (a b : ℕ) (piece : Piece) : Type 0 where
  pub memory : piece.memory ≡ state_after part x s a (b - a)
  pub ports : length piece.outputs ≡ output_count (kind_of part)
  pub outputs : (p : ℕ) → p < output_count (kind_of part) → slice_index_or piece.outputs p [] ≡ port_changes part x s a (b - a) p
  pub findings : piece.findings ≡ findings_in part x s a (b - a)

-- one more unit of a module, at the time t with these input levels
pub record IsUnitMore (part : AnyModule) (x : List ℕ) (t : ℕ) (old new : Piece) : Type 0 where
  pub memory : new.memory ≡ next_state part old.memory x t
  pub ports : length new.outputs ≡ length old.outputs
  pub outputs : (p : ℕ) → p < length old.outputs → slice_index_or new.outputs p [] ≡ extended (slice_index_or old.outputs p []) t (output_of old.memory p) (output_of new.memory p)
  pub findings : new.findings ≡ old.findings ++ findings_of t (found_at part old.memory x t)
