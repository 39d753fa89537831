use Rattle.std.proofs.Common.{◌≡◌, ◌-◌, ℕ, List, [], ◌∷◌, Some, None, refl, length, slice_get, ap, sym, ◌∙◌, arith}
use Rattle.std.proofs.lemmas.Option.{get_or_from_slice_get, slice_get_within, slice_get-get_or}
use Rattle.mp_wave.specs.Waveform.{last_from}
use Rattle.mp_wave.specs.WaveChanges.{changes_in}
use Rattle.mp_picture.proofs.CellLemmas.{last_from-last}
use Rattle.mp_picture.proofs.cell.last_level.Goals as goal

pub returns-in-Some : goal.returns-in-Some
returns-in-Some c =
    let changes = changes_in c.args.changes in
    let last = c.in-Some.last in
    let is : slice_get changes (length changes - 1) ≡ Some last = sym c.in-Some.ensures.value in
    let within = slice_get_within changes (length changes - 1) last is in
    sym (ap (λ (p : ℕ × ℕ). p.1) (get_or_from_slice_get changes (length changes - 1) last (0, 0) is)) ∙ last_from-last c.args.level changes (0, 0) (omega (arith, within))

-- where there is no last change the level stays
stays : (level : ℕ) (changes : List (ℕ × ℕ)) → slice_get changes (length changes - 1) ≡ None → level ≡ last_from level changes
stays level [] none = refl
stays level (x ∷ xs) none =
    let some = slice_get-get_or (x ∷ xs) (length (x ∷ xs) - 1) (0, 0) (omega arith) in
    let no : ⊥ = cc in
    absurd no

pub returns-in-None : goal.returns-in-None
returns-in-None c = stays c.args.level (changes_in c.args.changes) (sym c.in-None.ensures.value)
