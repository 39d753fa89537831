-- What is late at a bundle.
use Rattle.std.proofs.Common.{◌≡◌, ℕ, ◌+◌, ◌-◌, ◌<◌, ◌==◌, Bool, true, false, not, cond, List, [], ◌∷◌, ◌++◌, length, get_or, map, take, filter, Some, None, option_map, zero, suc, refl, ap, sym, ◌∙◌, arith, append-nil}
use Rattle.std.specs.List.{All, filter_map, cons_option, range_with_len}
use Rattle.std.proofs.lemmas.List.{take_more, map-append}
use Rattle.std.proofs.lemmas.List.Elements.{All-append, filter-append, filter_map-append}
use Rattle.mp_wave.specs.Waveform.{change_after, changes_after}
use Rattle.mp_modules.specs.Histories.{has_event}
use Rattle.mp_records.specs.declared.ids.BundleId.{BundleId}
use Rattle.mp_records.specs.declared.bundle_record.BundleRecord.{BundleRecord}
use Rattle.mp_netlist.specs.Circuit.{Circuit, bundle_at}
use Rattle.mp_model.specs.Waves.{level}
use Rattle.mp_report.proofs.TimeLemmas.{times_more as range_more}
use Rattle.mp_questions.specs.timing.Events.{last_event}
use Rattle.mp_questions.specs.late.Lateness.{late_by, late_units, late_in, late_at, units_behind}
use Rattle.mp_questions.specs.late.Searching.{late_then, late_over}
use Rattle.mp_questions.specs.declared.late.late.Late.{Late}

pub ruleset id_steps = (range_more, map-append)

abbrev pub times : List (ℕ × ℕ) → List ℕ
times changes = map (λ (c : ℕ × ℕ). c.0) changes

-- the changes of a level come at its events
event_times : (f : ℕ → ℕ) (m : ℕ) → times (changes_after f 0 m) ≡ filter (has_event f) (range_with_len 1 m)
event_times f zero = refl
event_times f (suc m) =
    let e : 0 + m ≡ m = omega arith in
    let more : suc m ≡ m + 1 = omega arith in
    let last : 1 + m ≡ suc m = omega arith in
    map-append (λ (c : ℕ × ℕ). c.0) (changes_after f 0 m) (change_after f (0 + m))
    ∙ ap (λ l. l ++ times (change_after f (0 + m))) (event_times f m)
    ∙ ap (λ k. filter (has_event f) (range_with_len 1 m) ++ times (change_after f k)) e
    ∙ ap (λ l. filter (has_event f) (range_with_len 1 m) ++ l) (by (f m == f (suc m)))
    ∙ sym (ap (λ k. filter (has_event f) (range_with_len 1 k)) more ∙ ap (filter (has_event f)) (range_more 1 m) ∙ filter-append (has_event f) (range_with_len 1 m) ((1 + m) ∷ [])
    ∙ ap (λ k. filter (has_event f) (range_with_len 1 m) ++ filter (has_event f) (k ∷ [])) last)
  where
    by : (same : Bool) → times (cond same [] ((suc m, f (suc m)) ∷ [])) ≡ cond (not same) (suc m ∷ []) []
    by true = refl
    by false = refl

-- they are all up to the last one
pub changes_low : (f : ℕ → ℕ) (m end : ℕ) → m < end → All (λ (c : ℕ × ℕ). c.0 < end) (changes_after f 0 m)
changes_low f zero end low = λ i d within. absurd (omega (arith, within))
changes_low f (suc m) end low = All-append (λ (c : ℕ × ℕ). c.0 < end) (changes_after f 0 m) (change_after f (0 + m)) (changes_low f m end (omega (arith, low))) (by (f (0 + m) == f (suc (0 + m))))
  where
    one : All (λ (c : ℕ × ℕ). c.0 < end) ((suc (0 + m), f (suc (0 + m))) ∷ [])
    one zero d within = omega (arith, low)
    one (suc i) d within = absurd (omega (arith, within))

    by : (same : Bool) → All (λ (c : ℕ × ℕ). c.0 < end) (cond same [] ((suc (0 + m), f (suc (0 + m))) ∷ []))
    by true = λ i d within. absurd (omega (arith, within))
    by false = one

-- those at which data are late
module _ (n : Circuit) (k : ℕ) (b : BundleRecord) (at : bundle_at n k ≡ Some b) where
  late_is : (t : ℕ) → late_at n t k ≡ option_map (late_by k t) (late_units n b t)
  late_is t = ap (late_in n t k) at

  kept : (ts : List ℕ) → filter_map (late_then n k b) (filter (has_event (level n b.payload.0)) ts) ≡ filter_map (λ t. late_at n t k) ts
  kept [] = refl
  kept (t ∷ ts) = by (has_event (level n b.payload.0) t) (kept ts) ∙ ap (λ o. cons_option o (filter_map (λ u. late_at n u k) ts)) (sym (late_is t))
    where
      by : (is : Bool) → filter_map (late_then n k b) (filter (has_event (level n b.payload.0)) ts) ≡ filter_map (λ u. late_at n u k) ts
          → filter_map (late_then n k b) (cond is (t ∷ filter (has_event (level n b.payload.0)) ts) (filter (has_event (level n b.payload.0)) ts))
          ≡ cons_option (option_map (late_by k t) (cond is (units_behind n b t (last_event (level n b.request.0) (t - 1))) None)) (filter_map (λ u. late_at n u k) ts)
      by true rest = ap (cons_option (late_then n k b t)) rest
      by false rest = rest

  pub late_over_is : (id : BundleId) → id.0 ≡ k → filter_map (late_then n k b) (times (changes_after (level n b.payload.0) 0 (n.horizon - 1))) ≡ late_over n id
  unfolding late_over
  late_over_is id same =
      ap (filter_map (late_then n k b)) (event_times (level n b.payload.0) (n.horizon - 1)) ∙ kept (range_with_len 1 (n.horizon - 1))
      ∙ ap (λ j. filter_map (λ t. late_at n t j) (range_with_len 1 (n.horizon - 1))) (sym same)

  -- nothing is late where its data never change
  pub quiet_over : (id : BundleId) → id.0 ≡ k → ((t : ℕ) → has_event (level n b.payload.0) t ≡ false) → [] ≡ late_over n id
  quiet_over id same none = sym (ap (filter_map (late_then n k b)) (event_times (level n b.payload.0) (n.horizon - 1) ∙ no_events (range_with_len 1 (n.horizon - 1)))) ∙ late_over_is id same
    where
      no_events : (ts : List ℕ) → filter (has_event (level n b.payload.0)) ts ≡ []
      no_events [] = refl
      no_events (t ∷ ts) = ap (λ x. cond x (t ∷ filter (has_event (level n b.payload.0)) ts) (filter (has_event (level n b.payload.0)) ts)) (none t) ∙ no_events ts

-- nothing is late where no bundle stands
pub none_over : (n : Circuit) (id : BundleId) → None ≡ bundle_at n id.0 → [] ≡ late_over n id
unfolding late_over
none_over n id none = by (range_with_len 1 (n.horizon - 1))
  where
    by : (ts : List ℕ) → [] ≡ filter_map (λ t. late_at n t id.0) ts
    by [] = refl
    by (t ∷ ts) = by ts ∙ ap (λ slot. cons_option (late_in n t id.0 slot) (filter_map (λ u. late_at n u id.0) ts)) none

-- ---- change by change

module _ (n : Circuit) (k : ℕ) (b : BundleRecord) (changes : List (ℕ × ℕ)) (i : ℕ) (within : i < length changes) where
  times_more : times (take (i + 1) changes) ≡ times (take i changes) ++ (get_or changes i (0, 0)).0 ∷ []
  times_more = ap times (take_more changes i (0, 0) within) ∙ map-append (λ (c : ℕ × ℕ). c.0) (take i changes) (get_or changes i (0, 0) ∷ [])

  more : filter_map (late_then n k b) (times (take (i + 1) changes)) ≡ filter_map (late_then n k b) (times (take i changes)) ++ cons_option (late_then n k b (get_or changes i (0, 0)).0) []
  more = ap (filter_map (late_then n k b)) times_more ∙ filter_map-append (late_then n k b) (times (take i changes)) ((get_or changes i (0, 0)).0 ∷ [])

  pub late_more : (t units : ℕ) (found : List Late) → t ≡ (get_or changes i (0, 0)).0 → Some units ≡ units_behind n b t (last_event (level n b.request.0) (t - 1)) → found ≡ filter_map (late_then n k b) (times (take i changes))
      → found ++ late_by k t units ∷ [] ≡ filter_map (late_then n k b) (times (take (i + 1) changes))
  late_more t units found at is so =
      ap (λ l. l ++ late_by k t units ∷ []) so
      ∙ ap (λ o. filter_map (late_then n k b) (times (take i changes)) ++ cons_option (option_map (late_by k t) o) []) is
      ∙ ap (λ u. filter_map (late_then n k b) (times (take i changes)) ++ cons_option (late_then n k b u) []) at ∙ sym more

  pub late_same : (t : ℕ) (found : List Late) → t ≡ (get_or changes i (0, 0)).0 → None ≡ units_behind n b t (last_event (level n b.request.0) (t - 1)) → found ≡ filter_map (late_then n k b) (times (take i changes))
      → found ≡ filter_map (late_then n k b) (times (take (i + 1) changes))
  late_same t found at none so =
      so ∙ sym (append-nil (filter_map (late_then n k b) (times (take i changes))))
      ∙ ap (λ o. filter_map (late_then n k b) (times (take i changes)) ++ cons_option (option_map (late_by k t) o) []) none
      ∙ ap (λ u. filter_map (late_then n k b) (times (take i changes)) ++ cons_option (late_then n k b u) []) at ∙ sym more
