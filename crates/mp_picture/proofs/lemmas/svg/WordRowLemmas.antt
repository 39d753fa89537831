-- The path and the values of a wider wire tell what is shown of its cells.
use Rattle.std.proofs.Common.{◌≡◌, ◌≢◌, ℕ, ◌+◌, ◌-◌, ◌*◌, ◌<◌, ◌≤◌, ◌^◌, ◌==◌, Bool, true, false, cond, List, [], ◌∷◌, ◌++◌, codes, map, length, drop, zero, suc, refl, sym, ap, ◌∙◌, append_assoc, append-nil, inl, inr, zero-add, arith}
use Rattle.std.specs.List.{flat_map, prefix_len, range_with_len}
use Rattle.std.specs.Fmt.{decimal}
use Rattle.std.proofs.lemmas.Bool.{cases_Bool, cases_eq}
use Rattle.std.proofs.lemmas.List.{append_cancel_left, same_lists, length-map, get_or-map}
use Rattle.std.proofs.lemmas.List.Sums.{prefix_len-drop_yes, prefix_len-drop_no, prefix_len-drop_all}
use Rattle.mp_picture.specs.declared.cell.ColumnCell.{ColumnCell}
use Rattle.mp_picture.specs.declared.cell.ColumnEvents.TheVariants.{None}
use Rattle.mp_picture.specs.Columns.{count as columns}
use Rattle.mp_picture.specs.Cells.{cells}
use Rattle.mp_picture.specs.Levels.{level_text}
use Rattle.mp_picture.specs.Rows.{is_still}
use Rattle.mp_picture.specs.declared.svg.lane.Lane.{Lane}
use Rattle.mp_picture.specs.svg.Lanes.{x_of, top, bottom, middle, base}
use Rattle.mp_picture.specs.svg.Elements.{attribute, title, rectangle}
use Rattle.mp_picture.specs.svg.Columns.{move_to, line_to, across_to, wide_path, line_start, line_end, word_line, word_path, fitting_text, value_x, first_room, value_group, still_behind, cell_at}
use Rattle.mp_picture.specs.svg.ColumnLaws.{WordsTell}
use Rattle.mp_picture.specs.svg.RowLaws.{shown, WordRowTells}
use Rattle.mp_picture.proofs.lemmas.svg.TextLemmas.{NoDigit, other_head, same_number}
use Rattle.mp_picture.proofs.lemmas.svg.ColumnLemmas.{length-cells, level_fits, level_stays}

-- ---- the path

module _ (lane : Lane) where
  -- behind the same first command a line is flat or aslant
  flat_or_aslant : (j : ℕ) (xs ys : List ℕ) → wide_path lane j true ++ xs ≡ wide_path lane j false ++ ys → ⊥
  flat_or_aslant j xs ys same =
      let x = x_of lane j in
      let end = x_of lane (j + 1) in
      let low = bottom lane in
      let flat = across_to end ++ (move_to x low ++ across_to end) in
      let aslant = line_to end low ++ (move_to x low ++ line_to end (top lane)) in
      let first = move_to x (top lane) in
      let rest : flat ++ xs ≡ aslant ++ ys = append_cancel_left first _ _ (sym (append_assoc first flat xs) ∙ same ∙ append_assoc first aslant ys) in
      other_head 72 76 _ _ (omega arith) rest

  same_wide : (s t : Bool) (j : ℕ) (xs ys : List ℕ) → wide_path lane j s ++ xs ≡ wide_path lane j t ++ ys → (s ≡ t) × (xs ≡ ys)
  same_wide true true j xs ys same = (refl, append_cancel_left (wide_path lane j true) xs ys same)
  same_wide false false j xs ys same = (refl, append_cancel_left (wide_path lane j false) xs ys same)
  same_wide true false j xs ys same = absurd (flat_or_aslant j xs ys same)
  same_wide false true j xs ys same = absurd (flat_or_aslant j ys xs (sym same))

  -- the end of a line tells whether the next column has a cross
  same_end : (j y : ℕ) (e f : Bool) (xs ys : List ℕ) → line_end lane j y e ++ xs ≡ line_end lane j y f ++ ys → xs ≡ ys
  same_end j y true true xs ys same = append_cancel_left (line_end lane j y true) xs ys same
  same_end j y false false xs ys same = append_cancel_left (line_end lane j y false) xs ys same
  same_end j y true false xs ys same = absurd (other_head 72 76 _ _ (omega arith) same)
  same_end j y false true xs ys same = absurd (other_head 76 72 _ _ (omega arith) same)

  bare_end : (j y : ℕ) (e : Bool) (xs : List ℕ) → NoDigit (line_end lane j y e ++ xs)
  bare_end j y true xs = inl (omega arith)
  bare_end j y false xs = inl (omega arith)

  abbrev before_height : ℕ → List ℕ
  before_height j = 77 ∷ (decimal (x_of lane j) ++ (32 ∷ []))

  at_height : (j y : ℕ) (xs : List ℕ) → move_to (x_of lane j) y ++ xs ≡ before_height j ++ (decimal y ++ xs)
  at_height j y xs = simp append_assoc refl

  -- a line begins at its height, or at the middle of a cross
  flat_or_crossed : (j y : ℕ) (xs ys : List ℕ) → y < 2 ^ 64 → middle lane < 2 ^ 64 → y ≢ middle lane → NoDigit xs
      → line_start lane j y true ++ xs ≡ line_start lane j y false ++ ys → ⊥
  flat_or_crossed j y xs ys low short apart bare same =
      let cross = line_to (x_of lane j + 3) y in
      let regrouped = append_assoc (move_to (x_of lane j) (middle lane)) cross ys ∙ at_height j (middle lane) (cross ++ ys) in
      let numbers : decimal y ++ xs ≡ decimal (middle lane) ++ (cross ++ ys) = append_cancel_left (before_height j) _ _ (sym (at_height j y xs) ∙ same ∙ regrouped) in
      apart ((same_number y (middle lane) xs (cross ++ ys) low short bare (inl (omega arith)) numbers).0)

  same_start : (j y : ℕ) (s t : Bool) (xs ys : List ℕ) → y < 2 ^ 64 → middle lane < 2 ^ 64 → y ≢ middle lane → NoDigit xs → NoDigit ys
      → line_start lane j y s ++ xs ≡ line_start lane j y t ++ ys → (s ≡ t) × (xs ≡ ys)
  same_start j y true true xs ys low short apart bare none same = (refl, append_cancel_left (line_start lane j y true) xs ys same)
  same_start j y false false xs ys low short apart bare none same = (refl, append_cancel_left (line_start lane j y false) xs ys same)
  same_start j y true false xs ys low short apart bare none same = absurd (flat_or_crossed j y xs ys low short apart bare same)
  same_start j y false true xs ys low short apart bare none same = absurd (flat_or_crossed j y ys xs low short apart none (sym same))

  same_line : (j y : ℕ) (s e t f : Bool) (xs ys : List ℕ) → y < 2 ^ 64 → middle lane < 2 ^ 64 → y ≢ middle lane
      → word_line lane j y s e ++ xs ≡ word_line lane j y t f ++ ys → (s ≡ t) × (xs ≡ ys)
  same_line j y s e t f xs ys low short apart same =
      let grouped = sym (append_assoc (line_start lane j y s) (line_end lane j y e) xs) ∙ same ∙ append_assoc (line_start lane j y t) (line_end lane j y f) ys in
      let parts = same_start j y s t (line_end lane j y e ++ xs) (line_end lane j y f ++ ys) low short apart (bare_end j y e xs) (bare_end j y f ys) grouped in
      (parts.0, same_end j y e f xs ys parts.1)

  same_lines : (j : ℕ) (s e t f : Bool) (xs ys : List ℕ) → lane.row < 2 ^ 32
      → (word_line lane j (top lane) s e ++ word_line lane j (bottom lane) s e) ++ xs ≡ (word_line lane j (top lane) t f ++ word_line lane j (bottom lane) t f) ++ ys
      → (s ≡ t) × (xs ≡ ys)
  same_lines j s e t f xs ys small same =
      let one = word_line lane j (bottom lane) s e in
      let two = word_line lane j (bottom lane) t f in
      let grouped = sym (append_assoc (word_line lane j (top lane) s e) one xs) ∙ same ∙ append_assoc (word_line lane j (top lane) t f) two ys in
      let short : middle lane < 2 ^ 64 = omega (arith, small) in
      let above = same_line j (top lane) s e t f (one ++ xs) (two ++ ys) (omega (arith, small)) short (omega arith) grouped in
      (above.0, (same_line j (bottom lane) s e t f xs ys (omega (arith, small)) short (omega arith) above.1).1)

  abbrev form : ℕ → Bool → Bool → Bool → List ℕ
  form j one q g = cond one (word_line lane j (top lane) q g ++ word_line lane j (bottom lane) q g) (wide_path lane j q)

  same_word : (s e t f : Bool) (j : ℕ) (xs ys : List ℕ) → lane.row < 2 ^ 32 → word_path lane j s e ++ xs ≡ word_path lane j t f ++ ys → (s ≡ t) × (xs ≡ ys)
  same_word s e t f j xs ys small same = by (lane.units == 1) same
    where
      by : (one : Bool) → form j one s e ++ xs ≡ form j one t f ++ ys → (s ≡ t) × (xs ≡ ys)
      by true same = same_lines j s e t f xs ys small same
      by false same = same_wide s t j xs ys same

  abbrev path : (ℕ → Bool) → ℕ → List ℕ
  path s j = word_path lane j (s j) (s (j + 1))

  -- the path tells which columns have no event
  same_words : (s t : ℕ → Bool) (m k : ℕ) → lane.row < 2 ^ 32 → flat_map (path s) (range_with_len k m) ≡ flat_map (path t) (range_with_len k m) → (j : ℕ) → k ≤ j → j < k + m → s j ≡ t j
  same_words s t zero k small same j low high = absurd (omega (arith, low, high))
  same_words s t (suc m) k small same j low high =
      let parts = same_word (s k) (s (k + 1)) (t k) (t (k + 1)) k (flat_map (path s) (range_with_len (k + 1) m)) (flat_map (path t) (range_with_len (k + 1) m)) small same in
      elim (cases_eq j k) as (λ _. s j ≡ t j) [
        | inl here ↦ ap s here ∙ parts.0 ∙ ap t (sym here)
        | inr there ↦ same_words s t m (k + 1) small parts.1 j (omega (arith, low, there)) (omega (arith, high))
      ]

  -- ---- values

  -- what the group of a value begins with, by the digits of its column and its level
  abbrev group_start : List ℕ → List ℕ → List ℕ
  group_start column level =
      codes "<g" ++ (attribute (codes "class") (codes "value") ++ (attribute (codes "data-column") column ++ (attribute (codes "data-level") level ++ codes ">")))

  abbrev before_level : List ℕ → List ℕ
  before_level column = codes "<g" ++ (attribute (codes "class") (codes "value") ++ (attribute (codes "data-column") column ++ (codes " data-level=" ++ (34 ∷ []))))

  at_level : (column level rest xs : List ℕ) → (group_start column level ++ rest) ++ xs ≡ before_level column ++ (level ++ (34 ∷ 62 ∷ (rest ++ xs)))
  at_level column level rest xs = simp append_assoc refl

  -- what stands behind that begin
  abbrev group_rest : ℕ → ℕ → ℕ → ℕ → ℕ → List ℕ
  group_rest j x room later level = title (level_text lane.numerals level) ++ (rectangle (codes "<rect") (x_of lane j) (top lane) (8 * (later + 1)) ++ (fitting_text x (base lane) room (level_text lane.numerals level) ++ codes "</g>"))

  same_group : (j x room later v w : ℕ) (xs ys : List ℕ) → v < 2 ^ 64 → w < 2 ^ 64 → value_group lane j x room later v ++ xs ≡ value_group lane j x room later w ++ ys → (v ≡ w) × (xs ≡ ys)
  same_group j x room later v w xs ys low short same =
      let one = group_rest j x room later v in
      let two = group_rest j x room later w in
      let numbers : decimal v ++ (34 ∷ 62 ∷ (one ++ xs)) ≡ decimal w ++ (34 ∷ 62 ∷ (two ++ ys)) =
      append_cancel_left (before_level (decimal j)) _ _ (sym (at_level (decimal j) (decimal v) one xs) ∙ same ∙ at_level (decimal j) (decimal w) two ys) in
      let parts = same_number v w _ _ low short (inr (omega arith)) (inr (omega arith)) numbers in
      let behind : one ++ xs ≡ two ++ ys = let all = parts.1 in cc in
      let is : v ≡ w = parts.0 in
      (is, append_cancel_left two xs ys (ap (λ (v : ℕ). group_rest j x room later v ++ xs) (sym is) ∙ behind))

  -- the value of a column by the columns behind it, by the room of the first one, by whether it has no event, and by its level
  abbrev entry : ℕ → ℕ → Bool → ℕ → ℕ → List ℕ
  entry later room s j level =
      cond s (cond (j == 0) (value_group lane j (x_of lane j) room later level) []) (value_group lane j (value_x lane j) later later level)

  same_entry : (later room j v w : ℕ) (s first : Bool) (xs ys : List ℕ) → v < 2 ^ 64 → w < 2 ^ 64 → (s ≡ true → first ≡ false → v ≡ w)
      → cond s (cond first (value_group lane j (x_of lane j) room later v) []) (value_group lane j (value_x lane j) later later v) ++ xs
      ≡ cond s (cond first (value_group lane j (x_of lane j) room later w) []) (value_group lane j (value_x lane j) later later w) ++ ys
      → (v ≡ w) × (xs ≡ ys)
  same_entry later room j v w false first xs ys low short known same = same_group j (value_x lane j) later later v w xs ys low short same
  same_entry later room j v w true true xs ys low short known same = same_group j (x_of lane j) room later v w xs ys low short same
  same_entry later room j v w true false xs ys low short known same = (known refl refl, same)

  abbrev values : ℕ → (ℕ → ℕ) → (ℕ → Bool) → (ℕ → ℕ) → ℕ → List ℕ
  values count later s level j = entry (later j) (first_room lane (later j) count) (s j) j (level j)

  module _ (count : ℕ) (later other : ℕ → ℕ) (s t : ℕ → Bool) (a b : ℕ → ℕ) (most : ℕ)
      (low : (j : ℕ) → j < most → a j < 2 ^ 64) (short : (j : ℕ) → j < most → b j < 2 ^ 64)
      (stays : (j : ℕ) → j + 1 < most → s (j + 1) ≡ true → a (j + 1) ≡ a j) (keeps : (j : ℕ) → j + 1 < most → t (j + 1) ≡ true → b (j + 1) ≡ b j)
      (still : (j : ℕ) → j < most → s j ≡ t j) (behind : (j : ℕ) → j < most → later j ≡ other j) where
    same_values : (m k : ℕ) → k + m ≡ most → ((s k ≡ true) → (k == 0) ≡ false → k < most → a k ≡ b k)
        → flat_map (values count later s a) (range_with_len k m) ≡ flat_map (values count other t b) (range_with_len k m) → (j : ℕ) → k ≤ j → j < most → a j ≡ b j
    same_values zero k all known same j from to = absurd (omega (arith, all, from, to))
    same_values (suc m) k all known same j from to =
        let inside : k < most = omega (arith, all) in
        let xs = flat_map (values count later s a) (range_with_len (k + 1) m) in
        let ys = flat_map (values count other t b) (range_with_len (k + 1) m) in
        let room = first_room lane (later k) count in
        let alike : values count other t b k ≡ entry (later k) room (s k) k (b k) =
        ap (λ (n : ℕ). entry n (first_room lane n count) (t k) k (b k)) (sym (behind k inside)) ∙ ap (λ (q : Bool). entry (later k) room q k (b k)) (sym (still k inside)) in
        let parts = same_entry (later k) room k (a k) (b k) (s k) (k == 0) xs ys (low k inside) (short k inside) (λ quiet far. known quiet far inside) (same ∙ ap (λ (l : List ℕ). l ++ ys) alike) in
        elim (cases_eq j k) as (λ _. a j ≡ b j) [
          | inl here ↦ ap a here ∙ parts.0 ∙ ap b (sym here)
          | inr there ↦
              same_values m (k + 1) (omega (arith, all))
              (λ quiet far below. stays k below quiet ∙ parts.0 ∙ sym (keeps k below (sym (still (k + 1) below) ∙ quiet)))
              parts.1 j (omega (arith, from, there)) to
        ]

-- ---- columns behind a column

module _ (xs ys : List ColumnCell) (n : ℕ) (long : length xs ≡ n) (wide : length ys ≡ n) (still : (j : ℕ) → j < n → is_still (cell_at xs j) ≡ is_still (cell_at ys j)) where
  abbrev none : ColumnCell
  none = record { events = None; level = 0 }

  same_prefix : (m i : ℕ) → i + m ≡ n → prefix_len is_still (drop i xs) ≡ prefix_len is_still (drop i ys)
  same_prefix zero i all =
      prefix_len-drop_all is_still xs i (omega (arith, all, long)) ∙ sym (prefix_len-drop_all is_still ys i (omega (arith, all, wide)))
  same_prefix (suc m) i all =
      let below : i < n = omega (arith, all) in
      let in_xs : i < length xs = omega (arith, below, long) in
      let in_ys : i < length ys = omega (arith, below, wide) in
      elim (cases_Bool (is_still (cell_at xs i))) as (λ _. prefix_len is_still (drop i xs) ≡ prefix_len is_still (drop i ys)) [
        | inl quiet ↦
            prefix_len-drop_yes is_still xs i none in_xs quiet ∙ ap (λ (k : ℕ). 1 + k) (same_prefix m (i + 1) (omega (arith, all)))
            ∙ sym (prefix_len-drop_yes is_still ys i none in_ys (sym (still i below) ∙ quiet))
        | inr loud ↦ prefix_len-drop_no is_still xs i none in_xs loud ∙ sym (prefix_len-drop_no is_still ys i none in_ys (sym (still i below) ∙ loud))
      ]

  same_behind : (j : ℕ) → j < n → still_behind xs j ≡ still_behind ys j
  same_behind j below = same_prefix (n - (j + 1)) (j + 1) (omega (arith, below))

  same_shown : ((j : ℕ) → j < n → (cell_at xs j).level ≡ (cell_at ys j).level) → map shown xs ≡ map shown ys
  same_shown level =
      same_lists (map shown xs) (map shown ys) (length-map xs shown ∙ long ∙ sym wide ∙ sym (length-map ys shown))
      (λ k d within.
      let below : k < n = omega (arith, within, length-map xs shown, long) in
      get_or-map shown xs k none d (omega (arith, below, long))
      ∙ ap (λ (q : Bool). (q, (cell_at xs k).level)) (still k below) ∙ ap (λ (v : ℕ). (is_still (cell_at ys k), v)) (level k below)
      ∙ sym (get_or-map shown ys k none d (omega (arith, below, wide))))

-- ---- rows

false_zero : (0 == 0) ≡ false → ⊥
false_zero far = cc

no_event : (x : ColumnCell) → is_still x ≡ true → x.events ≡ None
no_event x still = grind (arith, still)

pub word_row_tells : WordRowTells
word_row_tells lane c f g small low short by_path by_values =
    let xs = cells f c in
    let ys = cells g c in
    let n = columns c in
    let long = length-cells f c in
    let wide = length-cells g c in
    let s = λ (j : ℕ). is_still (cell_at xs j) in
    let t = λ (j : ℕ). is_still (cell_at ys j) in
    let a = λ (j : ℕ). (cell_at xs j).level in
    let b = λ (j : ℕ). (cell_at ys j).level in
    let words : flat_map (path lane s) (range_with_len 0 n) ≡ flat_map (path lane t) (range_with_len 0 n) =
    ap (λ (k : ℕ). flat_map (path lane s) (range_with_len 0 k)) (sym long) ∙ by_path ∙ ap (λ (k : ℕ). flat_map (path lane t) (range_with_len 0 k)) wide in
    let still = λ (j : ℕ) (below : j < n). same_words lane s t n 0 small words j (omega arith) (omega (arith, below)) in
    let count = length xs in
    let texts : flat_map (values lane count (still_behind xs) s a) (range_with_len 0 n) ≡ flat_map (values lane count (still_behind ys) t b) (range_with_len 0 n) =
    ap (λ (k : ℕ). flat_map (values lane count (still_behind xs) s a) (range_with_len 0 k)) (sym long) ∙ by_values
    ∙ ap (λ (k : ℕ). flat_map (values lane k (still_behind ys) t b) (range_with_len 0 k)) wide
    ∙ ap (λ (k : ℕ). flat_map (values lane k (still_behind ys) t b) (range_with_len 0 n)) (sym long) in
    let level = same_values lane count (still_behind xs) (still_behind ys) s t a b n (level_fits f c (2 ^ 64) low) (level_fits g c (2 ^ 64) short)
    (λ j below quiet. level_stays f c j below (no_event (cell_at xs (j + 1)) quiet)) (λ j below quiet. level_stays g c j below (no_event (cell_at ys (j + 1)) quiet))
    still (same_behind xs ys n long wide still) n 0 (zero-add n) (λ quiet far below. absurd (false_zero far)) texts in
    same_shown xs ys n long wide still (λ j below. level j (omega arith) below)

pub words_tell : WordsTell
words_tell lane j s t e f small same =
    let one = word_path lane j s e in
    let two = word_path lane j t f in
    (same_word lane s e t f j [] [] small (append-nil one ∙ same ∙ sym (append-nil two))).0
