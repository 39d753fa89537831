-- Columns are the same where their numbers are.
use Rattle.std.proofs.Common.{◌≡◌, ℕ, ◌<◌, subst, ap₂}
use Rattle.std.specs.Coded.{le_prop}
use Rattle.mp_picture.specs.declared.columns.Columns.{Columns}

module _ (from to units : ℕ) (some : from < to) (wide : 0 < units) where
  abbrev these : Columns
  these = record { from = from; to = to; units = units; some = some; wide = wide }

  same_numbers : (some' : from < to) (wide' : 0 < units) → these ≡ record { from = from; to = to; units = units; some = some'; wide = wide' }
  same_numbers some' wide' = ap₂ (λ (p : from < to) (q : 0 < units). record { from = from; to = to; units = units; some = p; wide = q }) (le_prop some some') (le_prop wide wide')

  pub same_columns : (a b k : ℕ) (some' : a < b) (wide' : 0 < k) → from ≡ a → to ≡ b → units ≡ k
      → these ≡ record { from = a; to = b; units = k; some = some'; wide = wide' }
  same_columns a b k some' wide' same_from same_to same_units =
      subst (λ x. (p : x < b) (q : 0 < k) → these ≡ record { from = x; to = b; units = k; some = p; wide = q }) same_from
      (subst (λ y. (p : from < y) (q : 0 < k) → these ≡ record { from = from; to = y; units = k; some = p; wide = q }) same_to
      (subst (λ z. (p : from < to) (q : 0 < z) → these ≡ record { from = from; to = to; units = z; some = p; wide = q }) same_units same_numbers))
      some' wide'
