-- The cells of a wire, by column.
use Rattle.std.proofs.Common.{◌≡◌, ℕ, ◌+◌, ◌-◌, ◌*◌, ◌/◌, ◌%◌, ◌<◌, ◌≤◌, ◌^◌, length, get_or, min, inl, inr, ap, sym, ◌∙◌, zero-add, arith}
use Rattle.std.proofs.Math.Nat.{mul-le-mul_right}
use Rattle.std.proofs.lemmas.Bool.{cases_lt}
use Rattle.std.proofs.lemmas.Grind.{div_ceil_times}
use Rattle.std.proofs.lemmas.List.{same_lists}
use Rattle.std.proofs.lemmas.List.FromFn.{length-map-range_with_len, get_or-map-range_with_len}
use Rattle.mp_picture.specs.declared.columns.Columns.{Columns}
use Rattle.mp_picture.specs.declared.cell.ColumnCell.{ColumnCell}
use Rattle.mp_picture.specs.declared.cell.ColumnEvents.TheVariants.{None}
use Rattle.mp_picture.specs.Columns.{count, begin, end}
use Rattle.mp_picture.specs.Cells.{cells}
use Rattle.mp_picture.specs.Cells as wave
use Rattle.mp_picture.specs.CellLaws.{opens}
use Rattle.mp_picture.proofs.ColumnLemmas.{begins_within}
use Rattle.mp_picture.proofs.EventLemmas.{cell_keeps}
use Rattle.mp_picture.specs.svg.Columns.{cell_at}
use Rattle.mp_picture.specs.svg.RowLaws.{AreBelow}

-- there are no more columns than units
few_columns : (a units : ℕ) → 0 < units → a < 2 ^ 32 → a / units + min 1 (a % units) < 2 ^ 32
few_columns a units wide small =
    let q = a / units + min 1 (a % units) in
    let most : q * units < a + units = (div_ceil_times a units wide).1 in
    elim (cases_lt q (2 ^ 32)) as (λ _. q < 2 ^ 32) [
      | inl below ↦ below
      | inr above ↦
          let less : 2 ^ 32 * units ≤ q * units = mul-le-mul_right units above in
          absurd (omega (arith, less, most, small, wide))
    ]

-- a cell for each column
pub length-cells : (f : ℕ → ℕ) (c : Columns) → length (cells f c) ≡ count c
unfolding cells
length-cells f c = length-map-range_with_len (wave.cell_at f c) 0 (count c)

pub few_cells : (f : ℕ → ℕ) (c : Columns) → 0 < c.units → c.to < 2 ^ 32 → length (cells f c) < 2 ^ 32
few_cells f c wide small =
    let few = few_columns (c.to - c.from) c.units wide (omega (arith, small)) in
    omega (arith, length-cells f c, few)

-- ---- by column

module _ (f : ℕ → ℕ) (c : Columns) where
  pub cell_of : (j : ℕ) → j < count c → cell_at (cells f c) j ≡ wave.cell_at f c j
  unfolding cells
  cell_of j below = get_or-map-range_with_len (wave.cell_at f c) 0 (count c) j j _ below (zero-add j)

  level_of : (j : ℕ) → j < count c → (cell_at (cells f c) j).level ≡ f (end c j - 1)
  level_of j below = ap (λ (x : ColumnCell). x.level) (cell_of j below)

  pub level_fits : (most : ℕ) → AreBelow most c f → (j : ℕ) → j < count c → (cell_at (cells f c) j).level < most
  level_fits most low j below =
      let some : c.from < c.to = c.some in
      let last : f (end c j - 1) < most = low (end c j - 1) (omega (arith, some)) in
      rw (level_of j below) last

  -- where a column has no event, its level is that of the column before
  pub level_stays : (j : ℕ) → j + 1 < count c → (cell_at (cells f c) (j + 1)).events ≡ None → (cell_at (cells f c) (j + 1)).level ≡ (cell_at (cells f c) j).level
  level_stays j below none =
      let some : c.from < c.to = c.some in
      let wide : 0 < c.units = c.wide in
      let lo = begin c (j + 1) in
      let hi = end c (j + 1) in
      let starts : lo < c.to = begins_within c (j + 1) some wide below in
      let quiet = ap (λ (x : ColumnCell). x.events) (sym (cell_of (j + 1) below)) ∙ none in
      let from : c.from ≤ lo = omega arith in
      let wider : lo < hi = omega (arith, starts, wide) in
      let keeps : f (hi - 1) ≡ f (opens c.from lo - 1) = cell_keeps f c.from lo hi from wider quiet in
      let before : opens c.from lo - 1 ≡ end c j - 1 = omega (arith, starts, wide) in
      level_of (j + 1) below ∙ keeps ∙ ap f before ∙ sym (level_of j (omega (arith, below)))

  cell_read : (j : ℕ) (d : ColumnCell) → j < count c → get_or (cells f c) j d ≡ cell_at (cells f c) j
  unfolding cells
  cell_read j d below = get_or-map-range_with_len (wave.cell_at f c) 0 (count c) j j d below (zero-add j) ∙ sym (cell_of j below)

-- cells that are the same in each column are the same
pub same_cells_of : (f g : ℕ → ℕ) (c : Columns) → ((j : ℕ) → j < count c → cell_at (cells f c) j ≡ cell_at (cells g c) j) → cells f c ≡ cells g c
same_cells_of f g c same =
    same_lists (cells f c) (cells g c) (length-cells f c ∙ sym (length-cells g c))
    (λ k d within. let below : k < count c = omega (arith, within, length-cells f c) in cell_read f c k d below ∙ same k below ∙ sym (cell_read g c k d below))
