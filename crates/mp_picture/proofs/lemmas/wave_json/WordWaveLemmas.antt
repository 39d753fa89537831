-- What the wave of a wider wire and its values say to a reader.
use Rattle.std.proofs.Common.{◌≡◌, ◌≢◌, ℕ, ◌+◌, ◌-◌, ◌*◌, ◌<◌, ◌≤◌, ◌==◌, Bool, true, false, not, ◌||◌, List, [], ◌∷◌, length, map, min, zero, suc, refl, sym, ap, subst, ◌∙◌, arith, if◌then◌else◌}
use Rattle.std.specs.List.{filter, flat_map, range_with_len}
use Rattle.std.specs.Str.{byte}
use Rattle.std.proofs.lemmas.Bool.{ne_eqb}
use Rattle.mp_picture.specs.declared.cell.ColumnCell.{ColumnCell}
use Rattle.mp_picture.specs.declared.cell.ColumnEvents.{ColumnEvents}
use Rattle.mp_picture.specs.declared.cell.ColumnEvents.TheVariants.{None, One, More}
use Rattle.mp_picture.specs.declared.columns.Columns.{Columns}
use Rattle.mp_picture.specs.Cells.{cells}
use Rattle.mp_picture.specs.Columns.{count, end, numbers}
use Rattle.mp_picture.specs.Rows.{has_none}
use Rattle.mp_picture.specs.svg.Columns.{cell_at}
use Rattle.mp_picture.specs.wave_json.Waves.{character, has_value, word_character, wave}
use Rattle.mp_picture.specs.wave_json.Laws.{ShowsWords, given_levels, level_in, values_behind}
use Rattle.mp_picture.proofs.lemmas.svg.ColumnLemmas.{cell_of, length-cells, level_stays}

-- behind a `.` the value goes on
goes_on : (before : ℕ) (values cs : List ℕ) → values_behind before values (byte "." ∷ cs) ≡ before ∷ values_behind before values cs
goes_on before [] cs = refl
goes_on before (value ∷ values) cs = refl

module _ (drawn : List ColumnCell) (width : ℕ) (wide : width ≢ 1) (most : ℕ)
    (keeps : (j : ℕ) → j + 1 < most → has_value drawn (j + 1) ≡ false → level_in drawn (j + 1) ≡ level_in drawn j) where
  character_is : (j : ℕ) (starts : Bool) → has_value drawn j ≡ starts → character width drawn j ≡ (if starts then byte "=" else byte ".")
  character_is j starts is = rw (ne_eqb width 1 wide, is) refl

  abbrev levels_of : List ℕ → List ℕ
  levels_of js = map (level_in drawn) (filter (has_value drawn) js)

  abbrev characters_of : List ℕ → List ℕ
  characters_of js = flat_map (λ j. character width drawn j ∷ []) js

  -- the wave and the values of some columns show their levels behind a value
  abbrev Shows : List ℕ → ℕ → Type 0
  Shows js before = values_behind before (levels_of js) (characters_of js) ≡ map (level_in drawn) js

  shows_next : (j before : ℕ) (js : List ℕ) (starts : Bool) → has_value drawn j ≡ starts → (starts ≡ false → before ≡ level_in drawn j) → Shows js (level_in drawn j) → Shows (j ∷ js) before
  shows_next j before js true test same rest = rw (character_is j true test, test) (ap (λ l. level_in drawn j ∷ l) rest)
  shows_next j before js false test same rest =
      rw (character_is j false test, test, goes_on before (levels_of js) (characters_of js), same refl) (ap (λ l. level_in drawn j ∷ l) rest)

  shows_rest : (n k before : ℕ) → k + 1 + n ≤ most → before ≡ level_in drawn k → Shows (range_with_len (k + 1) n) before
  shows_rest zero k before within is = refl
  shows_rest (suc n) k before within is =
      shows_next (k + 1) before (range_with_len (k + 1 + 1) n) (has_value drawn (k + 1)) refl (λ test. is ∙ sym (keeps k (omega (arith, within)) test))
      (shows_rest n (k + 1) (level_in drawn (k + 1)) (omega (arith, within)) refl)

  shows_all : (n before : ℕ) → n ≤ most → Shows (range_with_len 0 n) before
  shows_all zero before within = refl
  shows_all (suc n) before within = shows_next 0 before (range_with_len 1 n) true refl (λ no. cc) (shows_rest n 0 (level_in drawn 0) (omega (arith, within)) refl)

or_false : (a b : Bool) → (a || b) ≡ false → b ≡ false
or_false false b none = none
or_false true b none = cc

no_events : (events : ColumnEvents) → not (has_none events) ≡ false → events ≡ None
no_events None still = refl
no_events One still = cc
no_events More still = cc

module _ (f : ℕ → ℕ) (c : Columns) where
  level_is : (j : ℕ) → j < count c → level_in (cells f c) j ≡ f (end c j - 1)
  level_is j below = ap (λ (x : ColumnCell). x.level) (cell_of f c j below)

  keeps : (j : ℕ) → j + 1 < count c → has_value (cells f c) (j + 1) ≡ false → level_in (cells f c) (j + 1) ≡ level_in (cells f c) j
  keeps j below still = level_stays f c j below (no_events (cell_at (cells f c) (j + 1)).events (or_false (j + 1 == 0) _ still))

  all_levels : (n a : ℕ) → a + n ≤ count c → map (level_in (cells f c)) (range_with_len a n) ≡ map (λ j. f (end c j - 1)) (range_with_len a n)
  all_levels zero a within = refl
  all_levels (suc n) a within =
      rw (level_is a (omega (arith, within))) (ap (λ l. f (end c a - 1) ∷ l) (all_levels n (a + 1) (omega (arith, within))))

pub shows_words : ShowsWords
shows_words before width f c wide =
    let all : (n : ℕ) → n ≡ count c → values_behind before (map (level_in (cells f c)) (filter (has_value (cells f c)) (range_with_len 0 n))) (flat_map (λ j. character width (cells f c) j ∷ []) (range_with_len 0 n)) ≡ map (λ j. f (end c j - 1)) (numbers c) =
    λ n is. shows_all (cells f c) width wide (count c) (keeps f c) n before (omega (arith, is)) ∙ ap (λ m. map (level_in (cells f c)) (range_with_len 0 m)) is ∙ all_levels f c (count c) 0 (omega arith) in
    all (length (cells f c)) (length-cells f c)
