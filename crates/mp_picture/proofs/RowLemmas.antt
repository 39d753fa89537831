-- The rows of wires, piece by piece.
use Rattle.std.proofs.Common.{◌≡◌, ℕ, ◌+◌, ◌-◌, ◌<◌, ◌≤◌, Bool, true, false, cond, nat_le, List, [], ◌∷◌, ◌++◌, length, get_or, drop, zero, suc, refl, sym, ap, subst, ◌∙◌, append_assoc, append-nil, add-one, add-zero, zero-add, arith}
use Rattle.std.proofs.lemmas.Bool.Decides.{nat_tests}
use Rattle.std.specs.List.{flat_map, prefix_len, range_with_len, repeat}
use Rattle.std.proofs.lemmas.Grind.{flat_map-append}
use Rattle.mp_picture.specs.declared.cell.ColumnCell.{ColumnCell}
use Rattle.mp_picture.specs.declared.layout.DiagramLayout.{DiagramLayout}
use Rattle.mp_picture.specs.declared.mark.Mark.TheVariants.{Flat, Cross}
use Rattle.mp_picture.specs.declared.numerals.Numerals.{Numerals}
use Rattle.mp_picture.specs.Levels.{level_text}
use Rattle.mp_picture.specs.Marks.{mark_text}
use Rattle.mp_picture.specs.Rows.{is_still, fitting, character_or_flat, wide_from, wide_text, run_text}

shifted : (n : ℕ) (xs : List ℕ) → xs ++ repeat n xs ≡ repeat n xs ++ xs
shifted zero xs = append-nil xs
shifted (suc n) xs = ap (λ l. xs ++ l) (shifted n xs) ∙ sym (append_assoc xs (repeat n xs) xs)

-- a text once more
pub repeat_more : (n : ℕ) (xs : List ℕ) → repeat (n + 1) xs ≡ repeat n xs ++ xs
repeat_more n xs = ap (λ k. repeat k xs) (add-one n) ∙ shifted n xs

range_more : (a n : ℕ) → range_with_len a (suc n) ≡ range_with_len a n ++ (a + n) ∷ []
range_more a zero = ap (λ k. k ∷ []) (sym (add-zero a))
range_more a (suc n) =
    let same : a + 1 + n ≡ a + suc n = omega arith in
    ap (λ l. a ∷ l) (range_more (a + 1) n ∙ ap (λ k. range_with_len (a + 1) n ++ k ∷ []) same)

-- the texts of numbers from 0 on, with that of the next
pub flat_map-range_more : (f : ℕ → List ℕ) (n : ℕ) → flat_map f (range_with_len 0 (n + 1)) ≡ flat_map f (range_with_len 0 n) ++ f n
flat_map-range_more f n =
    ap (λ k. flat_map f (range_with_len 0 k)) (add-one n)
    ∙ ap (flat_map f) (range_more 0 n)
    ∙ flat_map-append f (range_with_len 0 n) ((0 + n) ∷ [])
    ∙ ap (λ l. flat_map f (range_with_len 0 n) ++ l) (append-nil (f (0 + n)) ∙ ap f (zero-add n))

-- ---- columns without an event

fits_true : (a b : ℕ) → a ≤ b → nat_le a b ≡ true
fits_true a b le = grind (arith, nat_tests)

fitting_all : (numerals : Numerals) (level room : ℕ) → length (level_text numerals level) ≤ room → fitting numerals level room ≡ level_text numerals level
fitting_all numerals level room le = ap (λ (b : Bool). cond b (level_text numerals level) []) (fits_true (length (level_text numerals level)) room le)

fitting_fits : (numerals : Numerals) (level room : ℕ) → length (fitting numerals level room) ≤ room
fitting_fits numerals level room = by (nat_le (length (level_text numerals level)) room) refl
  where
    by : (b : Bool) → nat_le (length (level_text numerals level)) room ≡ b → length (let l : List ℕ = cond b (level_text numerals level) [] in l) ≤ room
    by true test = grind (arith, nat_tests)
    by false test = omega arith

pub run_all : (layout : DiagramLayout) (level room : ℕ) → length (level_text layout.numerals level) ≤ room → run_text layout level room ≡ level_text layout.numerals level ++ repeat (room - length (level_text layout.numerals level)) (mark_text layout.charset Flat)
run_all layout level room le = ap (λ (l : List ℕ). l ++ repeat (room - length l) (mark_text layout.charset Flat)) (fitting_all layout.numerals level room le)

-- ---- wider wires

-- behind the columns at the front without an event, there is one with
pub stops : (cells : List ColumnCell) → prefix_len is_still (drop (prefix_len is_still cells) cells) ≡ 0
stops [] = refl
stops (cell ∷ cells) = by (is_still cell) refl (stops cells)
  where
    by : (b : Bool) → is_still cell ≡ b → prefix_len is_still (drop (prefix_len is_still cells) cells) ≡ 0
        → prefix_len is_still (drop (cond b (1 + prefix_len is_still cells) 0) (cell ∷ cells)) ≡ 0
    by true e later =
        let one : 1 + prefix_len is_still cells ≡ suc (prefix_len is_still cells) = omega arith in
        ap (λ k. prefix_len is_still (drop k (cell ∷ cells))) one ∙ later
    by false e later = ap (λ (v : Bool). cond v (1 + prefix_len is_still cells) 0) e

module _ (layout : DiagramLayout) where
  abbrev flat : List ℕ
  flat = mark_text layout.charset Flat

  -- digits that fit stand in the columns at the front without an event, and flat characters behind them
  abbrev Runs : List ℕ → List ColumnCell → ℕ → Type 0
  Runs ds cells k = wide_from layout ds cells ≡ ds ++ (repeat (k - length ds) flat ++ wide_from layout [] (drop k cells))

  module _ (cell : ColumnCell) (cells : List ColumnCell) where
    abbrev crossed : List ℕ
    crossed = mark_text layout.charset Cross ++ wide_from layout (fitting layout.numerals cell.level (prefix_len is_still cells)) cells

    abbrev stilled : List ℕ → List ℕ
    stilled ds = character_or_flat layout.charset ds ++ wide_from layout (drop 1 ds) cells

    run_by : (ds : List ℕ) (b : Bool) (k m : ℕ) → is_still cell ≡ b → prefix_len is_still cells ≡ m → cond b (1 + m) 0 ≡ k → length ds ≤ k
        → ((es : List ℕ) → length es ≤ m → Runs es cells m) → cond b (stilled ds) crossed ≡ ds ++ (repeat (k - length ds) flat ++ wide_from layout [] (drop k (cell ∷ cells)))
    run_by [] false k m e count is room later =
        subst (λ (n : ℕ). crossed ≡ repeat (n - 0) flat ++ wide_from layout [] (drop n (cell ∷ cells))) is (sym (ap (λ (v : Bool). cond v (stilled []) crossed) e))
    run_by (d ∷ ds) false k m e count is room later = absurd (omega (arith, is, room))
    run_by [] true k m e count is room later =
        let more : suc m ≡ k = omega (arith, is) in
        let all : suc m - 0 ≡ suc m = omega arith in
        let less : m - 0 ≡ m = omega arith in
        subst (λ (n : ℕ). stilled [] ≡ repeat (n - 0) flat ++ wide_from layout [] (drop n (cell ∷ cells))) more
        (ap (λ l. flat ++ l) (later [] (omega arith) ∙ ap (λ n. repeat n flat ++ wide_from layout [] (drop m cells)) less)
        ∙ sym (append_assoc flat (repeat m flat) (wide_from layout [] (drop m cells)))
        ∙ ap (λ n. repeat n flat ++ wide_from layout [] (drop m cells)) (sym all))
    run_by (d ∷ ds) true k m e count is room later =
        let more : suc m ≡ k = omega (arith, is) in
        let same : m - length ds ≡ suc m - length (d ∷ ds) = omega arith in
        subst (λ (n : ℕ). stilled (d ∷ ds) ≡ (d ∷ ds) ++ (repeat (n - length (d ∷ ds)) flat ++ wide_from layout [] (drop n (cell ∷ cells)))) more
        (ap (λ l. d ∷ l) (later ds (omega (arith, room, more)) ∙ ap (λ n. ds ++ (repeat n flat ++ wide_from layout [] (drop m cells))) same))

  wide_run : (ds : List ℕ) (cells : List ColumnCell) → length ds ≤ prefix_len is_still cells → Runs ds cells (prefix_len is_still cells)
  wide_run [] [] room = refl
  wide_run (d ∷ ds) [] room = absurd (omega (arith, room))
  wide_run ds (cell ∷ cells) room = run_by cell cells ds (is_still cell) (prefix_len is_still (cell ∷ cells)) (prefix_len is_still cells) refl refl refl room (λ es le. wide_run es cells le)

  -- from columns that may begin with some without an event, those and then the others
  pub wide_fitting : (level : ℕ) (cells : List ColumnCell) → wide_from layout (fitting layout.numerals level (prefix_len is_still cells)) cells
      ≡ run_text layout level (prefix_len is_still cells) ++ wide_from layout [] (drop (prefix_len is_still cells) cells)
  wide_fitting level cells =
      let k = prefix_len is_still cells in
      let ds = fitting layout.numerals level k in
      wide_run ds cells (fitting_fits layout.numerals level k) ∙ sym (append_assoc ds (repeat (k - length ds) flat) (wide_from layout [] (drop k cells)))

  -- a row begins with a level
  pub wide_first : (cells : List ColumnCell) (cell : ColumnCell) (k : ℕ) → 0 < length cells → cell ≡ get_or cells 0 cell → k ≡ prefix_len is_still cells
      → wide_text layout cells ≡ run_text layout cell.level k ++ wide_from layout [] (drop k cells)
  wide_first [] cell k some is count = absurd (omega (arith, some))
  wide_first (x ∷ xs) cell k some is count =
      wide_fitting x.level (x ∷ xs)
      ∙ ap (λ n. run_text layout x.level n ++ wide_from layout [] (drop n (x ∷ xs))) (sym count)
      ∙ ap (λ (y : ColumnCell). run_text layout y.level k ++ wide_from layout [] (drop k (x ∷ xs))) (sym is)

  -- a column with an event, and the columns without one behind it
  pub wide_next : (cells : List ColumnCell) (cell : ColumnCell) (later : List ColumnCell) (k : ℕ) → cells ≡ cell ∷ later → k ≡ prefix_len is_still later → prefix_len is_still cells ≡ 0
      → wide_from layout [] cells ≡ mark_text layout.charset Cross ++ (run_text layout cell.level k ++ wide_from layout [] (drop k later))
  wide_next cells cell later k is count stopped =
      ap (wide_from layout []) is
      ∙ by (is_still cell) (sym (ap (prefix_len is_still) is) ∙ stopped)
      ∙ ap (λ l. mark_text layout.charset Cross ++ l)
      (wide_fitting cell.level later ∙ ap (λ n. run_text layout cell.level n ++ wide_from layout [] (drop n later)) (sym count))
    where
      by : (b : Bool) → cond b (1 + prefix_len is_still later) 0 ≡ 0 → cond b (stilled cell later []) (crossed cell later) ≡ crossed cell later
      by true none = absurd (omega (arith, none))
      by false none = refl

-- what is written and what is to come
pub joined : (layout : DiagramLayout) (new old text : List ℕ) (rest later : List ColumnCell) (whole : List ℕ) → new ≡ old ++ text → rest ≡ later → whole ≡ text ++ wide_from layout [] later
    → new ++ wide_from layout [] rest ≡ old ++ whole
joined layout new old text rest later whole is same all =
    ap (λ l. l ++ wide_from layout [] rest) is
    ∙ append_assoc old text (wide_from layout [] rest)
    ∙ ap (λ (l : List ColumnCell). old ++ (text ++ wide_from layout [] l)) same
    ∙ ap (λ l. old ++ l) (sym all)

pub stops_at : (cells rest : List ColumnCell) (k : ℕ) → rest ≡ drop k cells → k ≡ prefix_len is_still cells → prefix_len is_still rest ≡ 0
stops_at cells rest k is count = ap (prefix_len is_still) (is ∙ ap (λ n. drop n cells) count) ∙ stops cells

-- a column with an event is written, and the columns without one behind it
pub wide_step : (layout : DiagramLayout) (row crossed new cross total : List ℕ) (cells : List ColumnCell) (cell : ColumnCell) (later rest : List ColumnCell) (k : ℕ)
    → crossed ≡ row ++ cross → cross ≡ mark_text layout.charset Cross → new ≡ crossed ++ run_text layout cell.level k → cells ≡ cell ∷ later → rest ≡ drop k later
    → k ≡ prefix_len is_still later → prefix_len is_still cells ≡ 0 → row ++ wide_from layout [] cells ≡ total → new ++ wide_from layout [] rest ≡ total
wide_step layout row crossed new cross total cells cell later rest k added is more begins left count stopped whole =
    let run = run_text layout cell.level k in
    let behind = run ++ wide_from layout [] (drop k later) in
    joined layout new crossed run rest (drop k later) behind more left refl
    ∙ ap (λ l. l ++ behind) (added ∙ ap (λ l. row ++ l) is)
    ∙ append_assoc row (mark_text layout.charset Cross) behind
    ∙ ap (λ l. row ++ l) (sym (wide_next layout cells cell later k begins count stopped))
    ∙ whole

-- nothing is to come
pub wide_over : (layout : DiagramLayout) (row total : List ℕ) (rest : List ColumnCell) → length rest ≡ 0 → row ++ wide_from layout [] rest ≡ total → row ≡ total
wide_over layout row total [] none whole = sym (append-nil row) ∙ whole
wide_over layout row total (x ∷ rest) none whole = absurd (omega (arith, none))
