-- Lemmas on the pairs that a list of changes is refused for.
use Rattle.std.proofs.Common.{ℕ, ◌<◌, List, [], ◌∷◌, length, zero, suc, sym, arith}
use Rattle.mp_wave.specs.declared.wave_error.WaveCause.{WaveCause}
use Rattle.mp_wave.specs.declared.wave_error.WaveCause.TheVariants.{Time, Order, Same}
use Rattle.mp_wave.specs.declared.wave_error.WaveError.{WaveError}
use Rattle.mp_wave.specs.Waveform.{AreChanges}
use Rattle.mp_wave.specs.Faults.{IsChange, IsCause, IsFirstFault, pair_at, pair_before}

-- nothing is wrong with a change
pub no_cause : (cause : WaveCause) (before pair : ℕ × ℕ) → IsChange before pair → ¬ IsCause cause before pair
no_cause Time before pair change is = omega (arith, change.0, is)
no_cause Order before pair change is = omega (arith, change.0, is.1)
no_cause Same before pair change is = change.1 (sym is.1)

-- pairs that are changes each after the one before it are changes
pub changes_from_pairs : (before : ℕ × ℕ) (pairs : List (ℕ × ℕ)) → ((place : ℕ) → place < length pairs → IsChange (pair_at (before ∷ pairs) place) (pair_at pairs place)) → AreChanges before.0 before.1 pairs
changes_from_pairs before [] each = tt
changes_from_pairs before (pair ∷ pairs) each =
    let first : IsChange before pair = each 0 (omega arith) in
    (first.0, first.1, changes_from_pairs pair pairs (λ place lt. each (suc place) (omega arith)))

-- each of them is one after the pair before it
pub pair_of_changes : (before : ℕ × ℕ) (pairs : List (ℕ × ℕ)) (place : ℕ) → AreChanges before.0 before.1 pairs → place < length pairs → IsChange (pair_at (before ∷ pairs) place) (pair_at pairs place)
pair_of_changes before [] place are lt = absurd (omega arith)
pair_of_changes before (pair ∷ pairs) zero are lt = (are.0, are.1)
pair_of_changes before (pair ∷ pairs) (suc place) are lt = pair_of_changes pair pairs place are.2 (omega arith)

-- a list with a fault is not one of changes
pub no_fault : (initial : ℕ) (pairs : List (ℕ × ℕ)) (error : WaveError) → IsFirstFault initial pairs error → ¬ AreChanges 0 initial pairs
no_fault initial pairs error fault are =
    no_cause error.cause (pair_before initial pairs error.place) (pair_at pairs error.place) (pair_of_changes (0, initial) pairs error.place are fault.within) fault.caused
