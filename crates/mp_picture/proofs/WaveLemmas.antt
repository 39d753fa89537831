-- The cells of a wire are those of its wave.
use Rattle.std.proofs.Common.{◌≡◌, ℕ, ◌+◌, ◌-◌, ◌<◌, ◌≤◌, Bool, not, cond, ◌==◌, List, ◌∷◌, Option, Some, None, max, map, zero, suc, refl, ap, ◌∙◌, sym, arith}
use Rattle.std.specs.List.{count_by, range_with_len}
use Rattle.std.proofs.lemmas.List.Sums.{sum_by-cons}
use Rattle.mp_wave.specs.Waveform.{Waveform, level_of}
use Rattle.mp_wave.proofs.ChangesLemmas.{levels_of_wave}
use Rattle.mp_modules.specs.Histories.{has_event}
use Rattle.mp_records.specs.declared.wire_record.WireRecord.{WireRecord}
use Rattle.mp_netlist.specs.Slots.{slot_at}
use Rattle.mp_netlist.specs.Circuit.{Circuit, wire_at}
use Rattle.mp_model.specs.Waves.{level, wave, slot_wave, AreWavesOf}
use Rattle.mp_picture.specs.declared.cell.ColumnCell.{ColumnCell}
use Rattle.mp_picture.specs.declared.columns.Columns.{Columns}
use Rattle.mp_picture.specs.Columns.{begin, end, count}
use Rattle.mp_picture.proofs.ColumnLemmas.{begins_within}
use Rattle.mp_picture.specs.Cells.{cells, cell_at, event_count, events_of}

module _ (f g : ℕ → ℕ) (most : ℕ) (same : (t : ℕ) → t < most → f t ≡ g t) where
  same_event : (t : ℕ) → t < most → has_event f t ≡ has_event g t
  same_event zero below = refl
  same_event (suc t) below =
      ap (λ v. not (v == f (suc t))) (same t (omega (arith, below))) ∙ ap (λ v. not (g t == v)) (same (suc t) below)

  same_count : (n lo : ℕ) → lo + n ≤ most → count_by (has_event f) (range_with_len lo n) ≡ count_by (has_event g) (range_with_len lo n)
  same_count zero lo within = refl
  same_count (suc n) lo within =
      sum_by-cons (λ t. cond (has_event f t) 1 0) lo (range_with_len (lo + 1) n)
      ∙ ap (λ (b : Bool). cond b 1 0 + count_by (has_event f) (range_with_len (lo + 1) n)) (same_event lo (omega (arith, within)))
      ∙ ap (λ k. cond (has_event g lo) 1 0 + k) (same_count n (lo + 1) (omega (arith, within)))
      ∙ sym (sum_by-cons (λ t. cond (has_event g t) 1 0) lo (range_with_len (lo + 1) n))

  same_events : (lo hi : ℕ) → lo ≤ most → hi ≤ most → event_count f lo hi ≡ event_count g lo hi
  same_events lo hi low high = same_count (hi - lo) lo (omega (arith, low, high))

  module _ (c : Columns) (some : c.from < c.to) (within : c.to ≤ most) where
    -- a column that begins behind the range has no units
    same_cell : (j : ℕ) → begin c j < c.to → cell_at f c j ≡ cell_at g c j
    same_cell j inside =
        ap (λ k. let x : ColumnCell = record { events = events_of k; level = f (end c j - 1) } in x)
        (same_events (max (begin c j) (c.from + 1)) (end c j) (omega (arith, inside, some, within)) (omega (arith, within)))
        ∙ ap (λ v. let x : ColumnCell = record { events = (cell_at g c j).events; level = v } in x) (same (end c j - 1) (omega (arith, some, within)))

    same_cells : (n a : ℕ) → ((j : ℕ) → a ≤ j → j < a + n → begin c j < c.to) → map (cell_at f c) (range_with_len a n) ≡ map (cell_at g c) (range_with_len a n)
    same_cells zero a inside = refl
    same_cells (suc n) a inside =
        ap (λ (x : ColumnCell). x ∷ map (cell_at f c) (range_with_len (a + 1) n)) (same_cell a (inside a (omega arith) (omega arith)))
        ∙ ap (λ (xs : List ColumnCell). cell_at g c a ∷ xs) (same_cells n (a + 1) (λ j low high. inside j (omega (arith, low)) (omega (arith, high))))

-- a wave has the cells of its wire
pub wave_cells : (n : Circuit) (w : ℕ) (found : Waveform) (c : Columns) → c.from < c.to → 0 < c.units → c.to ≤ n.horizon → found ≡ wave n w
    → cells (level_of found) c ≡ cells (level n w) c
unfolding cells
wave_cells n w found c some wide within is =
    same_cells (level_of found) (level n w) c.to
    (λ t below. ap (λ (x : Waveform). level_of x t) is ∙ levels_of_wave (level n w) (n.horizon - 1) t (omega (arith, below, within)))
    c some (omega arith) (count c) 0 (λ j low high. begins_within c j some wide (omega (arith, high)))

-- the wave of a wire that stands
pub wave_at : (n : Circuit) (waves : List (Option Waveform)) (w : ℕ) (r : WireRecord) (found : Waveform) → AreWavesOf n waves → wire_at n w ≡ Some r → slot_at waves w ≡ Some found → found ≡ wave n w
wave_at n waves w r found are stands is =
    let all : Some found ≡ slot_wave n w (Some r) = sym is ∙ are w ∙ ap (slot_wave n w) stands in
    cc

-- there is none where none stands
pub no_wire : (n : Circuit) (waves : List (Option Waveform)) (w : ℕ) → AreWavesOf n waves → slot_at waves w ≡ None → wire_at n w ≡ None
no_wire n waves w are none = by (wire_at n w) (sym (are w) ∙ none)
  where
    by : (slot : Option WireRecord) → slot_wave n w slot ≡ None → slot ≡ None
    by None is = refl
    by (Some r) is = cc
