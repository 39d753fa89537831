-- Who may enter a gate, and who has passed it.
use Rattle.std.specs.Prelude.{◌≡◌, ℕ, Bool, true, List, All}

-- those who enter may do so
abbrev pub IsAllowed : (ℕ → ℕ → ℕ → Type 0) → (ℕ → ℕ → ℕ → Bool) → Type 0
IsAllowed enters may = (m from to : ℕ) → enters m from to → may m from to ≡ true

-- so may those of each task
abbrev pub AreAllowed : {T : Type 0} → (T → ℕ → ℕ → ℕ → Type 0) → (ℕ → ℕ → ℕ → Bool) → List T → Type 0
AreAllowed enters may tasks = All (λ task. IsAllowed (enters task) may) tasks

-- any module may enter, for any units
abbrev pub IsOpen : (ℕ → ℕ → ℕ → Bool) → Type 0
IsOpen may = (m from to : ℕ) → may m from to ≡ true

-- each of these has passed
abbrev pub HavePassed : (ℕ → ℕ → ℕ → Type 0) → (ℕ → ℕ → ℕ → Bool) → Type 0
HavePassed passes passed = (m from to : ℕ) → passes m from to → passed m from to ≡ true
