-- Entries that are replaced one by one.
use Rattle.std.proofs.Common.{◌≡◌, ℕ, ◌<◌, List, slice_index_or, subst}
use Rattle.mp_records.specs.lists.Replaced.{AreReplaced}

-- the first so many entries are replaced
pub record AreReplacedUpto {X : Type 0} (blank : X) (old : List X) (places : List ℕ) (others : List X) (count : ℕ) (new : List X) : Type 0 where
  pub replaced : (k : ℕ) → k < count → slice_index_or new (slice_index_or places k 0) blank ≡ slice_index_or others k blank
  pub kept : (n : ℕ) → ((k : ℕ) → k < count → slice_index_or places k 0 ≡ n → ⊥) → slice_index_or new n blank ≡ slice_index_or old n blank

-- the same of equal lists
pub replaced_in : {X : Type 0} (blank blank' : X) (old old' : List X) (places : List ℕ) (others others' new : List X) → blank ≡ blank' → old ≡ old' → others ≡ others' →
    AreReplaced blank old places others new → AreReplaced blank' old' places others' new
replaced_in blank blank' old old' places others others' new b o e are =
    subst (λ x. AreReplaced x old' places others' new) b (subst (λ xs. AreReplaced blank xs places others' new) o (subst (λ ys. AreReplaced blank old places ys new) e are))
