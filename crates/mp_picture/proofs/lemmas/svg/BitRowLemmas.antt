-- The path of a wire of width 1 tells its cells.
use Rattle.std.proofs.Common.{◌≡◌, ◌≢◌, ℕ, ◌+◌, ◌<◌, ◌≤◌, ◌^◌, ◌==◌, Bool, true, false, cond, List, [], ◌∷◌, ◌++◌, zero, suc, refl, sym, ap, ◌∙◌, append_assoc, append-nil, inl, inr, zero-add, arith}
use Rattle.std.specs.List.{flat_map, range_with_len}
use Rattle.std.specs.Fmt.{decimal}
use Rattle.std.proofs.lemmas.Bool.{cases_eq, eqb-true}
use Rattle.std.proofs.lemmas.List.{append_cancel_left}
use Rattle.mp_picture.specs.declared.cell.ColumnCell.{ColumnCell}
use Rattle.mp_picture.specs.declared.cell.ColumnEvents.{ColumnEvents}
use Rattle.mp_picture.specs.declared.cell.ColumnEvents.TheVariants.{None, One, More}
use Rattle.mp_picture.specs.Columns.{count}
use Rattle.mp_picture.specs.Cells.{cells}
use Rattle.mp_picture.specs.declared.svg.lane.Lane.{Lane}
use Rattle.mp_picture.specs.svg.Lanes.{x_of, top, bottom, y_of}
use Rattle.mp_picture.specs.svg.Columns.{move_to, line_to, across_to, upright_to, bit_path, cell_at}
use Rattle.mp_picture.specs.svg.WireGroups.{level_before, start}
use Rattle.mp_picture.specs.svg.ColumnLaws.{BitsTell}
use Rattle.mp_picture.specs.svg.RowLaws.{bit_commands, BitRowTells}
use Rattle.mp_picture.proofs.lemmas.svg.TextLemmas.{NoDigit, other_head, same_number}
use Rattle.mp_picture.proofs.lemmas.svg.ColumnLemmas.{length-cells, level_fits, level_stays, same_cells_of}

-- a level of width 1 is known by whether it is 0
same_bit : (v w : ℕ) → v < 2 → w < 2 → (v == 0) ≡ (w == 0) → v ≡ w
same_bit zero zero low short same = refl
same_bit zero (suc w) low short same = sym (eqb-true (suc w) 0 (sym same))
same_bit (suc v) zero low short same = eqb-true (suc v) 0 same
same_bit (suc v) (suc w) low short same = omega (arith, low, short)

-- ---- heights

module _ (lane : Lane) (small : lane.row < 2 ^ 32) where
  height_fits : (b : Bool) → cond b (bottom lane) (top lane) < 2 ^ 64
  height_fits true = omega (arith, small)
  height_fits false = omega (arith, small)

  by_height : (p q : Bool) → cond p (bottom lane) (top lane) ≡ cond q (bottom lane) (top lane) → p ≡ q
  by_height true true same = refl
  by_height false false same = refl
  by_height true false same = absurd (omega (arith, same))
  by_height false true same = absurd (omega (arith, same))

  -- a height tells whether a level is 0
  same_zero : (v w : ℕ) → y_of lane v ≡ y_of lane w → (v == 0) ≡ (w == 0)
  same_zero v w same = by_height (v == 0) (w == 0) same

  -- ---- one column

  -- the path of a column with one event, where a column has one unit and where it has more
  abbrev once : Bool → ℕ → ℕ → List ℕ
  once single x y = cond single (upright_to y ++ across_to x) (line_to x y)

  -- what two paths that begin alike have alike
  pub record IsSame (e d : ColumnEvents) (v w : ℕ) (xs ys : List ℕ) : Type 0 where
    pub events : e ≡ d
    pub level : e ≢ None → (v == 0) ≡ (w == 0)
    pub rest : xs ≡ ys

  -- behind a point
  same_point : (k x v w : ℕ) (xs ys : List ℕ) → NoDigit xs → NoDigit ys
      → (k ∷ (decimal x ++ (32 ∷ decimal (y_of lane v)))) ++ xs ≡ (k ∷ (decimal x ++ (32 ∷ decimal (y_of lane w)))) ++ ys → (y_of lane v ≡ y_of lane w) × (xs ≡ ys)
  same_point k x v w xs ys none bare same =
      let all : (decimal x ++ (32 ∷ decimal (y_of lane v))) ++ xs ≡ (decimal x ++ (32 ∷ decimal (y_of lane w))) ++ ys = cc in
      let behind : 32 ∷ (decimal (y_of lane v) ++ xs) ≡ 32 ∷ (decimal (y_of lane w) ++ ys) =
      append_cancel_left (decimal x) _ _
      (sym (append_assoc (decimal x) (32 ∷ decimal (y_of lane v)) xs) ∙ all ∙ append_assoc (decimal x) (32 ∷ decimal (y_of lane w)) ys) in
      let numbers : decimal (y_of lane v) ++ xs ≡ decimal (y_of lane w) ++ ys = cc in
      same_number (y_of lane v) (y_of lane w) xs ys (height_fits (v == 0)) (height_fits (w == 0)) none bare numbers

  same_once : (single : Bool) (x v w : ℕ) (xs ys : List ℕ) → NoDigit xs → NoDigit ys
      → once single x (y_of lane v) ++ xs ≡ once single x (y_of lane w) ++ ys → (y_of lane v ≡ y_of lane w) × (xs ≡ ys)
  same_once true x v w xs ys none bare same =
      let all : (decimal (y_of lane v) ++ across_to x) ++ xs ≡ (decimal (y_of lane w) ++ across_to x) ++ ys = cc in
      let numbers : decimal (y_of lane v) ++ (across_to x ++ xs) ≡ decimal (y_of lane w) ++ (across_to x ++ ys) =
      sym (append_assoc (decimal (y_of lane v)) (across_to x) xs) ∙ all ∙ append_assoc (decimal (y_of lane w)) (across_to x) ys in
      let parts = same_number (y_of lane v) (y_of lane w) (across_to x ++ xs) (across_to x ++ ys) (height_fits (v == 0)) (height_fits (w == 0)) (inl (omega arith)) (inl (omega arith)) numbers in
      (parts.0, append_cancel_left (across_to x) xs ys parts.1)
  same_once false x v w xs ys none bare same = same_point 76 x v w xs ys none bare same

  across_or_once : (single : Bool) (x y : ℕ) (xs ys : List ℕ) → across_to x ++ xs ≡ once single x y ++ ys → ⊥
  across_or_once true x y xs ys same = other_head 72 86 _ _ (omega arith) same
  across_or_once false x y xs ys same = other_head 72 76 _ _ (omega arith) same

  move_or_once : (single : Bool) (x y z : ℕ) (xs ys : List ℕ) → move_to x z ++ xs ≡ once single x y ++ ys → ⊥
  move_or_once true x y z xs ys same = other_head 77 86 _ _ (omega arith) same
  move_or_once false x y z xs ys same = other_head 77 76 _ _ (omega arith) same

  module _ (j v w : ℕ) (xs ys : List ℕ) (none : NoDigit xs) (bare : NoDigit ys) where
    abbrev x : ℕ
    x = x_of lane (j + 1)

    abbrev single : Bool
    single = lane.units == 1

    pub same_column : (e d : ColumnEvents) → bit_path lane j e v ++ xs ≡ bit_path lane j d w ++ ys → IsSame e d v w xs ys
    same_column None None same = record { events = refl; level = λ some. absurd (some refl); rest = append_cancel_left (across_to x) xs ys same }
    same_column None One same = absurd (across_or_once single x (y_of lane w) xs ys same)
    same_column None More same = absurd (other_head 72 77 _ _ (omega arith) same)
    same_column One None same = absurd (across_or_once single x (y_of lane v) ys xs (sym same))
    same_column One One same =
        let parts = same_once single x v w xs ys none bare same in
        record { events = refl; level = λ some. same_zero v w parts.0; rest = parts.1 }
    same_column One More same = absurd (move_or_once single x (y_of lane v) (y_of lane w) ys xs (sym same))
    same_column More None same = absurd (other_head 72 77 _ _ (omega arith) (sym same))
    same_column More One same = absurd (move_or_once single x (y_of lane w) (y_of lane v) xs ys same)
    same_column More More same =
        let parts = same_point 77 x v w xs ys none bare same in
        record { events = refl; level = λ some. same_zero v w parts.0; rest = parts.1 }

  -- ---- column by column

  abbrev path : (ℕ → ColumnCell) → ℕ → List ℕ
  path a j = bit_path lane j (a j).events (a j).level

  command_first : (e : ColumnEvents) (j v : ℕ) (xs : List ℕ) → NoDigit (bit_path lane j e v ++ xs)
  command_first None j v xs = inl (omega arith)
  command_first One j v xs = by (lane.units == 1)
    where
      by : (single : Bool) → NoDigit (once single (x_of lane (j + 1)) (y_of lane v) ++ xs)
      by true = inl (omega arith)
      by false = inl (omega arith)
  command_first More j v xs = inl (omega arith)

  commands_first : (a : ℕ → ColumnCell) (m k : ℕ) → NoDigit (flat_map (path a) (range_with_len k m))
  commands_first a zero k = tt
  commands_first a (suc m) k = command_first (a k).events k (a k).level _

  same_cell : (p q : ColumnCell) → p.events ≡ q.events → p.level ≡ q.level → p ≡ q
  same_cell p q one two = ap (λ (e : ColumnEvents). let z : ColumnCell = record { events = e; level = p.level } in z) one ∙ ap (λ (v : ℕ). let z : ColumnCell = record { events = q.events; level = v } in z) two

  by_events : (e : ColumnEvents) (v w : ℕ) → (e ≡ None → v ≡ w) → (e ≢ None → v ≡ w) → v ≡ w
  by_events None v w is other = is refl
  by_events One v w is other = other (λ same. cc)
  by_events More v w is other = other (λ same. cc)

  module _ (a b : ℕ → ColumnCell) (most : ℕ) (bits : (j : ℕ) → j < most → (a j).level < 2) (also : (j : ℕ) → j < most → (b j).level < 2)
      (stays : (j : ℕ) → j + 1 < most → (a (j + 1)).events ≡ None → (a (j + 1)).level ≡ (a j).level)
      (keeps : (j : ℕ) → j + 1 < most → (b (j + 1)).events ≡ None → (b (j + 1)).level ≡ (b j).level) where
    same_cells : (m k p q : ℕ) → k + m ≡ most → p ≡ q → ((a k).events ≡ None → (a k).level ≡ p) → ((b k).events ≡ None → (b k).level ≡ q)
        → flat_map (path a) (range_with_len k m) ≡ flat_map (path b) (range_with_len k m) → (j : ℕ) → k ≤ j → j < most → a j ≡ b j
    same_cells zero k p q all before old new same j low high = absurd (omega (arith, all, low, high))
    same_cells (suc m) k p q all before old new same j low high =
        let inside : k < most = omega (arith, all) in
        let is = same_column k (a k).level (b k).level (flat_map (path a) (range_with_len (k + 1) m)) (flat_map (path b) (range_with_len (k + 1) m))
        (commands_first a m (k + 1)) (commands_first b m (k + 1)) (a k).events (b k).events same in
        let level : (a k).level ≡ (b k).level = by_events (a k).events (a k).level (b k).level (λ none. old none ∙ before ∙ sym (new (sym is.events ∙ none)))
        (λ some. same_bit (a k).level (b k).level (bits k inside) (also k inside) (is.level some)) in
        let first : a k ≡ b k = same_cell (a k) (b k) is.events level in
        elim (cases_eq j k) as (λ _. a j ≡ b j) [
          | inl here ↦ ap a here ∙ first ∙ ap b (sym here)
          | inr there ↦
              same_cells m (k + 1) (a k).level (b k).level (omega (arith, all)) level (λ none. stays k (omega (arith, low, high, there)) none)
              (λ none. keeps k (omega (arith, low, high, there)) none) is.rest j (omega (arith, low, there)) high
        ]

    before_fits : (e : ColumnEvents) (v : ℕ) → v < 2 → level_before e v < 2
    before_fits None v low = low
    before_fits One v low = omega arith
    before_fits More v low = low

    stays_before : (e : ColumnEvents) (v : ℕ) → e ≡ None → v ≡ level_before e v
    stays_before None v none = refl
    stays_before One v none = cc
    stays_before More v none = refl

    -- the start and the commands tell all cells
    pub same_path : start lane (a 0) ++ flat_map (path a) (range_with_len 0 most) ≡ start lane (b 0) ++ flat_map (path b) (range_with_len 0 most) → (j : ℕ) → j < most → a j ≡ b j
    same_path same j high =
        let inside : 0 < most = omega (arith, high) in
        let v = level_before (a 0).events (a 0).level in
        let w = level_before (b 0).events (b 0).level in
        let parts = same_point 77 (x_of lane 0) v w _ _ (commands_first a most 0) (commands_first b most 0) same in
        let before : v ≡ w = same_bit v w (before_fits (a 0).events (a 0).level (bits 0 inside)) (before_fits (b 0).events (b 0).level (also 0 inside)) (same_zero v w parts.0) in
        same_cells most 0 v w (zero-add most) before (stays_before (a 0).events (a 0).level) (stays_before (b 0).events (b 0).level) parts.1 j (omega arith) high

-- ---- rows

pub bit_row_tells : BitRowTells
bit_row_tells lane c f g small low short same =
    let xs = cells f c in
    let ys = cells g c in
    let n = count c in
    let first : bit_commands lane xs ≡ start lane (cell_at xs 0) ++ flat_map (path lane small (cell_at xs)) (range_with_len 0 n) =
    ap (λ (k : ℕ). start lane (cell_at xs 0) ++ flat_map (path lane small (cell_at xs)) (range_with_len 0 k)) (length-cells f c) in
    let second : bit_commands lane ys ≡ start lane (cell_at ys 0) ++ flat_map (path lane small (cell_at ys)) (range_with_len 0 n) =
    ap (λ (k : ℕ). start lane (cell_at ys 0) ++ flat_map (path lane small (cell_at ys)) (range_with_len 0 k)) (length-cells g c) in
    same_cells_of f g c
    (same_path lane small (cell_at xs) (cell_at ys) n (level_fits f c 2 low) (level_fits g c 2 short) (level_stays f c) (level_stays g c) (sym first ∙ same ∙ second))

pub bits_tell : BitsTell
bits_tell lane j e d v w small same =
    let one = bit_path lane j e v in
    let two = bit_path lane j d w in
    let is = same_column lane small j v w [] [] tt tt e d (append-nil one ∙ same ∙ sym (append-nil two)) in
    (is.events, is.level)
