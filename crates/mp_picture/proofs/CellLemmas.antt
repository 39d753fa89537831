-- Cells and the changes that they are made of.
use Rattle.std.proofs.Common.{◌≡◌, ◌≢◌, ℕ, ◌+◌, ◌-◌, ◌<◌, ◌≤◌, Bool, true, false, not, cond, ◌==◌, nat_lt, List, [], ◌∷◌, ◌++◌, length, get_or, take, drop, map, min, max, zero, suc, refl, sym, ap, subst, ◌∙◌, inl, inr, add-one, zero-add, arith}
use Rattle.std.proofs.lemmas.Bool.Decides.{nat_tests}
use Rattle.std.proofs.lemmas.Bool.{cases_lt}
use Rattle.std.proofs.lemmas.List.FromFn.{map-range_with_len_more}
use Rattle.std.proofs.lemmas.List.Sums.{sum_by-cons}
use Rattle.std.specs.List.{count_by, range_with_len, prefix_len}
use Rattle.mp_wave.specs.Waveform.{Waveform, IsWaveform, AreChanges, level_from, level_of, last_from, between}
use Rattle.mp_wave.proofs.PrefixLemmas.{AreChanges-between, cut_levels}
use Rattle.mp_wave.proofs.WaveformLemmas.{level_from-before, level_from-rest}
use Rattle.mp_modules.specs.Histories.{has_event}
use Rattle.mp_picture.specs.declared.cell.ColumnCell.{ColumnCell}
use Rattle.mp_picture.specs.declared.cell.ColumnEvents.{ColumnEvents}
use Rattle.mp_picture.specs.declared.columns.Columns.{Columns}
use Rattle.mp_picture.specs.Columns.{count, begin, end}
use Rattle.mp_picture.specs.Cells.{events_of, cell_at}
use Rattle.mp_picture.proofs.ColumnLemmas.{begins_within}

lt_true : (a b : ℕ) → a < b → nat_lt a b ≡ true
lt_true a b lt = grind (arith, nat_tests)

lt_false : (a b : ℕ) → b ≤ a → nat_lt a b ≡ false
lt_false a b le = grind (arith, nat_tests)

same_true : (a b : ℕ) → a ≡ b → (a == b) ≡ true
same_true a b same = grind (arith, nat_tests)

same_false : (a b : ℕ) → a ≢ b → (a == b) ≡ false
same_false a b other = grind (arith, nat_tests)

-- a level that stays has no event, one that differs has
pub no_event : (f : ℕ → ℕ) (s : ℕ) → f s ≡ f (s + 1) → has_event f (s + 1) ≡ false
no_event f s same = rw (add-one s) (ap not (same_true (f s) (f (suc s)) (same ∙ ap f (add-one s))))

pub an_event : (f : ℕ → ℕ) (s : ℕ) → f s ≢ f (s + 1) → has_event f (s + 1) ≡ true
an_event f s other = rw (add-one s) (ap not (same_false (f s) (f (suc s)) (λ same. other (same ∙ ap f (sym (add-one s))))))

-- the count of a range begins with that of its first time
pub first_counted : (f : ℕ → ℕ) (s n : ℕ) (b : Bool) → has_event f (s + 1) ≡ b
    → count_by (has_event f) (range_with_len (s + 1) (suc n)) ≡ cond b 1 0 + count_by (has_event f) (range_with_len (s + 1 + 1) n)
first_counted f s n b is =
    sum_by-cons (λ t. cond (has_event f t) 1 0) (s + 1) (range_with_len (s + 1 + 1) n)
    ∙ ap (λ (v : Bool). cond v 1 0 + count_by (has_event f) (range_with_len (s + 1 + 1) n)) is

-- the events of a level are its changes
pub counts : (f : ℕ → ℕ) (s v n e : ℕ) (rest : List (ℕ × ℕ)) → s + 1 + n ≡ e → AreChanges s v rest
    → ((t : ℕ) → s ≤ t → t < e → level_from v rest t ≡ f t)
    → count_by (has_event f) (range_with_len (s + 1) n) ≡ prefix_len (λ (c : ℕ × ℕ). nat_lt c.0 e) rest
counts f s v zero e [] is are levels = refl
counts f s v zero e (x ∷ rest) is are levels = let late = lt_false x.0 e (omega (arith, is, are.0)) in rw late refl
counts f s v (suc n) e [] is are levels =
    let none = no_event f s (sym (levels s (omega arith) (omega (arith, is))) ∙ levels (s + 1) (omega arith) (omega (arith, is))) in
    let later = counts f (s + 1) v n e [] (omega (arith, is)) tt (λ t low high. levels t (omega (arith, low)) high) in
    omega (arith, first_counted f s n false none, later)
counts f s v (suc n) e (x ∷ rest) is are levels =
    let here : f s ≡ v = sym (levels s (omega arith) (omega (arith, is))) ∙ level_from-before s v s (x ∷ rest) are (omega arith) in
    elim (cases_lt (s + 1) x.0) as (λ _. count_by (has_event f) (range_with_len (s + 1) (suc n)) ≡ prefix_len (λ (c : ℕ × ℕ). nat_lt c.0 e) (x ∷ rest)) [
      | inl sooner ↦
          let next : f (s + 1) ≡ v = sym (levels (s + 1) (omega arith) (omega (arith, is))) ∙ level_from-before (s + 1) v (s + 1) (x ∷ rest) (sooner, are.1, are.2) (omega arith) in
          let none = no_event f s (here ∙ sym next) in
          let later = counts f (s + 1) v n e (x ∷ rest) (omega (arith, is)) (sooner, are.1, are.2) (λ t low high. levels t (omega (arith, low)) high) in
          first_counted f s n false none ∙ omega (arith, later)
      | inr over ↦
          let at : x.0 ≡ s + 1 = omega (arith, over, are.0) in
          let next : f (s + 1) ≡ x.1 =
          sym (levels (s + 1) (omega arith) (omega (arith, is))) ∙ level_from-rest v (s + 1) x rest (omega (arith, at)) ∙ level_from-before x.0 x.1 (s + 1) rest are.2 (omega (arith, at)) in
          let one = an_event f s (λ same. are.1 (sym here ∙ same ∙ next)) in
          let later = counts f (s + 1) x.1 n e rest (omega (arith, is)) (subst (λ (k : ℕ). AreChanges k x.1 rest) at are.2)
          (λ t low high. sym (level_from-rest v t x rest (omega (arith, at, low))) ∙ levels t (omega (arith, low)) high) in
          let early = lt_true x.0 e (omega (arith, at, is)) in
          first_counted f s n true one ∙ rw early (ap (λ k. 1 + k) later)
    ]

-- what is left of changes behind those before a time
pub record IsLeft (v e : ℕ) (rest : List (ℕ × ℕ)) (k : ℕ) : Type 0 where
  pub form : AreChanges (e - 1) (last_from v (take k rest)) (drop k rest)
  pub levels : (t : ℕ) → e ≤ t + 1 → level_from (last_from v (take k rest)) (drop k rest) t ≡ level_from v rest t

pub left : (e s v k : ℕ) (rest : List (ℕ × ℕ)) → s < e → AreChanges s v rest → prefix_len (λ (c : ℕ × ℕ). nat_lt c.0 e) rest ≡ k → IsLeft v e rest k
left e s v k [] below are is = subst (IsLeft v e []) is (record { form = tt; levels = λ t late. refl })
left e s v k (x ∷ rest) below are is =
    elim (cases_lt x.0 e) as (λ _. IsLeft v e (x ∷ rest) k) [
      | inl sooner ↦
          let test = lt_true x.0 e sooner in
          let m = prefix_len (λ (c : ℕ × ℕ). nat_lt c.0 e) rest in
          let more : suc m ≡ k = omega (arith, rw test at is) in
          let later = left e x.0 x.1 m rest sooner are.2 refl in
          subst (IsLeft v e (x ∷ rest)) more
          (record { form = later.form; levels = λ t late. later.levels t late ∙ sym (level_from-rest v t x rest (omega (arith, late, sooner))) })
      | inr over ↦
          let test = lt_false x.0 e over in
          let none : 0 ≡ k = rw test at is in
          subst (IsLeft v e (x ∷ rest)) none (record { form = (omega (arith, over, below), are.1, are.2); levels = λ t late. refl })
    ]

-- the last unit that the changes up to a column lie at or before
abbrev pub reached : Columns → ℕ → ℕ
reached c j = min c.to (max (begin c j) (c.from + 1)) - 1

-- a level and changes are those of a wave from a column on
pub record IsRest (f : ℕ → ℕ) (c : Columns) (j v : ℕ) (rest : List (ℕ × ℕ)) : Type 0 where
  pub form : AreChanges (reached c j) v rest
  pub levels : (t : ℕ) → reached c j ≤ t → t < c.to → level_from v rest t ≡ f t

module _ (f : ℕ → ℕ) (c : Columns) (j v : ℕ) (rest : List (ℕ × ℕ)) (some : c.from < c.to) (wide : 0 < c.units) (below : j < count c) (is : IsRest f c j v rest) where
  abbrev k : ℕ
  k = prefix_len (λ (x : ℕ × ℕ). nat_lt x.0 (end c j)) rest

  inside : begin c j < c.to
  inside = begins_within c j some wide below

  before : reached c j < end c j
  before = omega (arith, inside)

  parts : IsLeft v (end c j) rest k
  parts = left (end c j) (reached c j) v k rest before is.form refl

  pub cell_events : (cell_at f c j).events ≡ events_of k
  cell_events =
      let n = end c j - max (begin c j) (c.from + 1) in
      let start : reached c j + 1 ≡ max (begin c j) (c.from + 1) = omega (arith, inside, some) in
      ap events_of
      (ap (λ a. count_by (has_event f) (range_with_len a n)) (sym start)
      ∙ counts f (reached c j) v n (end c j) rest (omega (arith, start, before)) is.form (λ t low high. is.levels t low (omega (arith, high))))

  pub cell_level : (cell_at f c j).level ≡ last_from v (take k rest)
  cell_level =
      sym (is.levels (end c j - 1) (omega (arith, before)) (omega (arith, before)))
      ∙ sym (parts.levels (end c j - 1) (omega (arith, before)))
      ∙ level_from-before (end c j - 1) (last_from v (take k rest)) (end c j - 1) (drop k rest) parts.form (omega arith)

  next_reached : end c j - 1 ≡ reached c (j + 1)
  next_reached = omega (arith, some, wide)

  pub rest_next : IsRest f c (j + 1) (last_from v (take k rest)) (drop k rest)
  rest_next = record {
    form = subst (λ (m : ℕ). AreChanges m (last_from v (take k rest)) (drop k rest)) next_reached parts.form;
    levels = λ t low high. parts.levels t (omega (arith, low, next_reached, before)) ∙ is.levels t (omega (arith, low, next_reached, before)) high;
  }

  cell_is : (events : ColumnEvents) (level : ℕ) → events ≡ events_of k → level ≡ last_from v (take k rest) → cell_at f c j ≡ record { events = events; level = level }
  cell_is events level events_are level_is =
      ap (λ (e : ColumnEvents). let r : ColumnCell = record { events = e; level = (cell_at f c j).level } in r) (cell_events ∙ sym events_are)
      ∙ ap (λ (l : ℕ). let r : ColumnCell = record { events = events; level = l } in r) (cell_level ∙ sym level_is)

  -- the cell of a column, and what is left behind it, by the changes before its end
  pub record IsStep (new : ℕ) (later : List (ℕ × ℕ)) (events : ColumnEvents) : Type 0 where
    pub cell : cell_at f c j ≡ record { events = events; level = new }
    pub left : IsRest f c (j + 1) new later

  pub step : (e count new : ℕ) (now later : List (ℕ × ℕ)) (events : ColumnEvents) → e ≡ end c j → count ≡ prefix_len (λ (x : ℕ × ℕ). nat_lt x.0 e) rest
      → now ≡ take count rest → later ≡ drop count rest → new ≡ last_from v now → events ≡ events_of count → IsStep new later events
  step e count new now later events is_end is_count is_now is_later is_new is_events =
      let same : count ≡ k = is_count ∙ ap (λ m. prefix_len (λ (x : ℕ × ℕ). nat_lt x.0 m) rest) is_end in
      let level : new ≡ last_from v (take k rest) = is_new ∙ ap (last_from v) (is_now ∙ ap (λ m. take m rest) same) in
      let behind : later ≡ drop k rest = is_later ∙ ap (λ m. drop m rest) same in
      record {
        cell = cell_is events new (is_events ∙ ap events_of same) level;
        left = subst (λ (w : ℕ). IsRest f c (j + 1) w later) (sym level) (subst (λ (r : List (ℕ × ℕ)). IsRest f c (j + 1) (last_from v (take k rest)) r) (sym behind) rest_next);
      }

-- one cell more
pub cells_more : (f : ℕ → ℕ) (c : Columns) (j : ℕ) (old new : List ColumnCell) (x : ColumnCell) → new ≡ old ++ x ∷ [] → old ≡ map (cell_at f c) (range_with_len 0 j) → cell_at f c j ≡ x
    → new ≡ map (cell_at f c) (range_with_len 0 (j + 1))
cells_more f c j old new x added done is =
    added ∙ ap (λ l. l ++ x ∷ []) done ∙ ap (λ (y : ColumnCell). map (cell_at f c) (range_with_len 0 j) ++ y ∷ []) (sym is) ∙ sym (map-range_with_len_more (cell_at f c) 0 j j (zero-add j))

-- the changes in a range are those from its first column on
pub rest_first : (wave : Waveform) (c : Columns) → IsWaveform wave → c.from < c.to → IsRest (level_of wave) c 0 (level_of wave c.from) (between c.from c.to wave.changes)
rest_first wave c form some =
    let start : c.from ≡ reached c 0 = omega (arith, some) in
    record {
      form = subst (λ (m : ℕ). AreChanges m (level_of wave c.from) (between c.from c.to wave.changes)) start (AreChanges-between wave c.from c.to form);
      levels = λ t low high. cut_levels wave c.from c.to t form (omega (arith, low, start)) high;
    }

-- the level after changes is that of the last
pub last_from-last : (v : ℕ) (xs : List (ℕ × ℕ)) (d : ℕ × ℕ) → 0 < length xs → (get_or xs (length xs - 1) d).1 ≡ last_from v xs
last_from-last v [] d some = absurd (omega arith)
last_from-last v (x ∷ []) d some = refl
last_from-last v (x ∷ (y ∷ xs)) d some =
    let shorter : length (x ∷ (y ∷ xs)) - 1 ≡ suc (length (y ∷ xs) - 1) = omega arith in
    ap (λ k. (get_or (x ∷ (y ∷ xs)) k d).1) shorter ∙ last_from-last x.1 (y ∷ xs) d (omega arith)
