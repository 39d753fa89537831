-- Which places name a number.
use Rattle.std.specs.Prelude.{◌≡◌, ℕ, ◌*◌, ◌<◌, ◌≤◌, List, length, get_or, suc}
use Rattle.mp_holding.specs.declared.sets.needs.Need.TheVariants.{Member}
use Rattle.mp_holding.specs.declared.sets.needs.Needs.{Needs}
use Rattle.mp_holding.specs.declared.sets.readers.Readers.{Readers}
use Rattle.mp_holding.specs.sets.Needs.{need_at}

-- no place from one on to before another names the number
abbrev pub Covers : List Needs → ℕ → ℕ → ℕ → Type 0
Covers needs from to k = (place : ℕ) → from ≤ place → place < to → need_at needs place ≡ Member k → ⊥

-- behind what is noted of a number, or of a place that names it, no place names it before the end, or before that place. What is noted is behind a
-- place that names it
pub record AreReaders (needs : List Needs) (readers : Readers) : Type 0 where
  pub last : (k : ℕ) → k < length needs → Covers needs (get_or readers.last.items k 0) (4 * length needs) k
  pub last_names : (k place : ℕ) → get_or readers.last.items k 0 ≡ suc place → need_at needs place ≡ Member k
  pub before : (place k : ℕ) → k < length needs → need_at needs place ≡ Member k → Covers needs (get_or readers.before.items place 0) place k
  pub before_names : (place k earlier : ℕ) → need_at needs place ≡ Member k → get_or readers.before.items place 0 ≡ suc earlier → need_at needs earlier ≡ Member k
  pub falls : (place : ℕ) → get_or readers.before.items place 0 ≤ place
  pub within : (k : ℕ) → get_or readers.last.items k 0 ≤ 4 * length needs
