-- The changes that the stimulus of one wire sets.
use Rattle.std.proofs.Common.{◌≡◌, ℕ, zero, suc, ◌+◌, ◌-◌, ◌<◌, ◌≤◌, Bool, true, false, not, cond, List, [], ◌∷◌, Option, Some, None, is_some, unwrap_or, All, nat_lt, refl, sym, ap, ◌∙◌, arith, subst, inl, inr, IsTrue, IfSome}
use Rattle.std.specs.Prelude.{◌==◌, ◌&&◌, option_and_then, slice_index_or}
use Rattle.std.specs.List.{count_by}
use Rattle.std.proofs.lemmas.Bool.{cases_lt, cases_eq, eq-eqb, ne_eqb, ltb-true, and_parts}
use Rattle.std.proofs.lemmas.List.Sums.{sum_by-cons}
use Rattle.mp_wave.specs.Waveform.{level_from}
use Rattle.mp_wave.proofs.WaveformLemmas.{nat_le-true, nat_le-false}
use Rattle.mp_modules.specs.Levels.{fits_width}
use Rattle.mp_records.specs.declared.wire_record.WireRecord.{WireRecord}
use Rattle.mp_records.specs.Stimuli.{is_stimulus as rises_below}
use Rattle.mp_netlist.specs.Circuit.{Circuit, IsCircuit, wire_at, stimulus_at}
use Rattle.mp_netlist.specs.Drivers.{driver, stimulus_driver}
use Rattle.mp_netlist.proofs.DriverLemmas.{stimulus_drives, driven_by, finds_ports}
use Rattle.mp_model.specs.Levels.{initial_of, stimulus_level, driven_level}
use Rattle.mp_model.specs.Evaluations.{AreRising}
use Rattle.mp_model.specs.Waves.{level, state}
use Rattle.mp_model.proofs.BehaviourLemmas.{satisfies}
use Rattle.mp_model.proofs.TrackLemmas.{level_from-now}
use Rattle.mp_modules.specs.automata.Codes.{bit}
use Rattle.mp_simulation.specs.bits.Changes.{change_at}
use Rattle.mp_simulation.specs.bits.WholeRuns.{is_stimulus}
use Rattle.mp_simulation.specs.run.Stimuli.{set_changes}

-- ---- the changes of one stimulus

-- how many changes are at a time
abbrev pub timed : ℕ → List (ℕ × ℕ) → ℕ
timed u changes = count_by (λ (c : ℕ × ℕ). c.0 == u) changes

pub plus_none : (a b : ℕ) → a ≡ 0 → a + b ≡ b
plus_none a b none = omega arith

pub timed_cons : (u : ℕ) (x : ℕ × ℕ) (xs : List (ℕ × ℕ)) → timed u (x ∷ xs) ≡ bit (x.0 == u) + timed u xs
timed_cons u x xs = sum_by-cons (λ (c : ℕ × ℕ). cond (c.0 == u) 1 0) x xs

chosen_times : (u : ℕ) (x : ℕ × ℕ) (same : Bool) (xs : List (ℕ × ℕ)) → timed u (cond same xs (x ∷ xs)) ≡ bit (not same && (x.0 == u)) + timed u xs
chosen_times u x true xs = omega arith
chosen_times u x false xs = timed_cons u x xs

pub none_listed : (c b : Bool) → b ≡ false → bit (c && b) ≡ 0
none_listed true b is = ap bit is
none_listed false b is = refl

-- before a list that rises, nothing is listed
none_before : (start before u : ℕ) (changes : List (ℕ × ℕ)) → AreRising before changes → u ≤ before → timed u (set_changes start changes) ≡ 0
none_before start before u [] rising low = refl
none_before start before u (c ∷ changes) rising low =
    let later = rising.0 in
    chosen_times u c (start == c.1) (set_changes c.1 changes)
    ∙ plus_none (bit (not (start == c.1) && (c.0 == u))) (timed u (set_changes c.1 changes)) (none_listed (not (start == c.1)) (c.0 == u) (ne_eqb c.0 u (λ e. omega arith)))
    ∙ none_before c.1 c.0 u changes rising.1 (omega arith)

listed_here : (same : Bool) (k : ℕ) → k ≡ 0 → bit (not same && true) + k ≡ bit (not same)
listed_here true k none = omega arith
listed_here false k none = omega arith

-- a time is listed where the level changes
pub toggles_change : (start before k : ℕ) (changes : List (ℕ × ℕ)) → AreRising before changes →
    timed (k + 1) (set_changes start changes) ≡ bit (not (level_from start changes k == level_from start changes (k + 1)))
toggles_change start before k [] rising = ap (λ b. bit (not b)) (sym (eq-eqb start start refl))
toggles_change start before k (c ∷ changes) rising = elim (cases_lt k c.0) as (λ _. timed (k + 1) (set_changes start (c ∷ changes)) ≡ bit (not (level_from start (c ∷ changes) k == level_from start (c ∷ changes) (k + 1)))) [
  | inr le ↦
      let now = nat_le-true c.0 (k + 1) (omega arith) in
      let was = nat_le-true c.0 k le in
      chosen_times (k + 1) c (start == c.1) (set_changes c.1 changes)
      ∙ plus_none (bit (not (start == c.1) && (c.0 == k + 1))) (timed (k + 1) (set_changes c.1 changes)) (none_listed (not (start == c.1)) (c.0 == k + 1) (ne_eqb c.0 (k + 1) (λ e. omega arith)))
      ∙ toggles_change c.1 c.0 k changes rising.1
      ∙ sym (ap (λ b. bit (not (cond b (level_from c.1 changes k) start == level_from start (c ∷ changes) (k + 1)))) was
      ∙ ap (λ b. bit (not (level_from c.1 changes k == cond b (level_from c.1 changes (k + 1)) start))) now)
  | inl less ↦ elim (cases_eq c.0 (k + 1)) as (λ _. timed (k + 1) (set_changes start (c ∷ changes)) ≡ bit (not (level_from start (c ∷ changes) k == level_from start (c ∷ changes) (k + 1)))) [
    | inl here ↦
        let now = nat_le-true c.0 (k + 1) (omega arith) in
        let was = nat_le-false c.0 k less in
        chosen_times (k + 1) c (start == c.1) (set_changes c.1 changes)
        ∙ ap (λ b. bit (not (start == c.1) && b) + timed (k + 1) (set_changes c.1 changes)) (eq-eqb c.0 (k + 1) here)
        ∙ listed_here (start == c.1) (timed (k + 1) (set_changes c.1 changes)) (none_before c.1 c.0 (k + 1) changes rising.1 (omega arith))
        ∙ sym (ap (λ b. bit (not (cond b (level_from c.1 changes k) start == level_from start (c ∷ changes) (k + 1)))) was
        ∙ ap (λ b. bit (not (start == cond b (level_from c.1 changes (k + 1)) start))) now
        ∙ ap (λ v. bit (not (start == v))) (level_from-now c.1 c.0 (k + 1) changes rising.1 (omega arith)))
    | inr other ↦
        let now = nat_le-false c.0 (k + 1) (omega arith) in
        let was = nat_le-false c.0 k less in
        chosen_times (k + 1) c (start == c.1) (set_changes c.1 changes)
        ∙ plus_none (bit (not (start == c.1) && (c.0 == k + 1))) (timed (k + 1) (set_changes c.1 changes)) (none_listed (not (start == c.1)) (c.0 == k + 1) (ne_eqb c.0 (k + 1) other))
        ∙ none_before c.1 c.0 (k + 1) changes rising.1 (omega arith)
        ∙ sym (ap (λ b. bit (not (cond b (level_from c.1 changes k) start == level_from start (c ∷ changes) (k + 1)))) was
        ∙ ap (λ b. bit (not (start == cond b (level_from c.1 changes (k + 1)) start))) now
        ∙ ap (λ b. bit (not b)) (eq-eqb start start refl))
  ]
]

-- a change that is set has the level of its time
pub set_levels : (start before : ℕ) (changes : List (ℕ × ℕ)) → AreRising before changes → All (λ (c : ℕ × ℕ). (before < c.0) × (level_from start changes c.0 ≡ c.1)) (set_changes start changes)
set_levels start before [] rising = λ k d within. absurd (omega arith)
set_levels start before (c ∷ changes) rising = by (start == c.1) (λ k d within. later (slice_index_or (set_changes c.1 changes) k d) (set_levels c.1 c.0 changes rising.1 k d within))
  where
    later : (e : ℕ × ℕ) → (c.0 < e.0) × (level_from c.1 changes e.0 ≡ e.1) → (before < e.0) × (level_from start (c ∷ changes) e.0 ≡ e.1)
    later e is =
        let first = rising.0 in
        let second = is.0 in
        let past = nat_le-true c.0 e.0 (omega arith) in
        (omega arith, ap (λ b. cond b (level_from c.1 changes e.0) start) past ∙ is.1)

    here : (before < c.0) × (level_from start (c ∷ changes) c.0 ≡ c.1)
    here =
        let now = nat_le-true c.0 c.0 (omega arith) in
        (rising.0, ap (λ b. cond b (level_from c.1 changes c.0) start) now ∙ level_from-now c.1 c.0 c.0 changes rising.1 (omega arith))

    by : (same : Bool) → All (λ (e : ℕ × ℕ). (before < e.0) × (level_from start (c ∷ changes) e.0 ≡ e.1)) (set_changes c.1 changes) →
        All (λ (e : ℕ × ℕ). (before < e.0) × (level_from start (c ∷ changes) e.0 ≡ e.1)) (cond same (set_changes c.1 changes) (c ∷ set_changes c.1 changes))
    by true rest k d within = rest k d within
    by false rest zero d within = here
    by false rest (suc k) d within = rest k d (omega arith)

-- ---- the stimulus of a wire

stimulus_rises : (horizon width before : ℕ) (changes : List (ℕ × ℕ)) → rises_below horizon width before changes ≡ true → AreRising before changes
unfolding rises_below
stimulus_rises horizon width before [] is = tt
stimulus_rises horizon width before (c ∷ changes) is =
    let first = and_parts (nat_lt before c.0 && nat_lt c.0 horizon && fits_width width c.1) (rises_below horizon width c.0 changes) is in
    let second = and_parts (nat_lt before c.0 && nat_lt c.0 horizon) (fits_width width c.1) first.0 in
    let third = and_parts (nat_lt before c.0) (nat_lt c.0 horizon) second.0 in
    (ltb-true before c.0 third.0, stimulus_rises horizon width c.0 changes first.1)

pub rises_at : (n : Circuit) → IsCircuit n → (w : ℕ) (changes : List (ℕ × ℕ)) → stimulus_at n w ≡ Some changes → AreRising 0 changes
rises_at n ok w changes is = by (wire_at n w) refl is
  where
    inside : (r : WireRecord) (set : Option (List (ℕ × ℕ))) → IfSome set (λ cs. IsTrue (rises_below n.horizon r.width 0 cs)) → set ≡ Some changes → AreRising 0 changes
    inside r None valid e = cc
    inside r (Some cs) valid e = let same : cs ≡ changes = cc in subst (AreRising 0) same (stimulus_rises n.horizon r.width 0 cs valid)

    by : (slot : Option WireRecord) → wire_at n w ≡ slot → option_and_then (λ (r : WireRecord). r.stimulus) slot ≡ Some changes → AreRising 0 changes
    by None at e = cc
    by (Some r) at e = inside r r.stimulus (ok.wires_ok w r at).stimulus e

-- the changes of a wire that its stimulus sets
abbrev pub times_of : Circuit → ℕ → List (ℕ × ℕ)
times_of n w = set_changes (initial_of (wire_at n w)) (unwrap_or (stimulus_at n w) [])

pub no_stimulus : (n : Circuit) → IsCircuit n → (w : ℕ) → stimulus_at n w ≡ None → is_stimulus (driver n w) ≡ false
no_stimulus n ok w none = elim (driven_by n w) as (λ _. is_stimulus (driver n w) ≡ false) [
  | inl drives ↦ ap is_stimulus (finds_ports n ok drives.0 drives.1 w drives.2)
  | inr is ↦ ap is_stimulus (is ∙ ap stimulus_driver none)
]

pub not_set : (c : Bool) (s : Bool) → s ≡ false → bit (c && s) ≡ 0
not_set true s is = ap bit is
not_set false s is = refl

set_bit : (c s : Bool) → s ≡ true → bit c ≡ bit (c && s)
set_bit true s is = ap bit (sym is)
set_bit false s is = refl

pub times_change : (n : Circuit) → IsCircuit n → (w u : ℕ) → 0 < u → timed u (times_of n w) ≡ bit (change_at n w u && is_stimulus (driver n w))
times_change n ok w zero some = absurd (omega arith)
times_change n ok w (suc k) some = by (stimulus_at n w) refl
  where
    initial : ℕ
    initial = initial_of (wire_at n w)

    by : (set : Option (List (ℕ × ℕ))) → stimulus_at n w ≡ set → timed (suc k) (set_changes (initial_of (wire_at n w)) (unwrap_or set [])) ≡ bit (change_at n w (suc k) && is_stimulus (driver n w))
    by None is = sym (not_set (change_at n w (suc k)) (is_stimulus (driver n w)) (no_stimulus n ok w is))
    by (Some changes) is =
        let drives = stimulus_drives n ok w (ap is_some is) in
        let levels : (t : ℕ) → level n w t ≡ level_from (initial_of (wire_at n w)) changes t =
        λ t. (satisfies n ok).levels w t ∙ ap (λ d. driven_level d n (state n) w t) drives ∙ ap (λ s. stimulus_level s (initial_of (wire_at n w)) t) is in
        let next : k + 1 ≡ suc k = omega arith in
        let past : suc k - 1 ≡ k = omega arith in
        let change : change_at n w (suc k) ≡ not (level_from (initial_of (wire_at n w)) changes k == level_from (initial_of (wire_at n w)) changes (suc k)) =
        ap (λ t. not (level n w t == level n w (suc k))) past ∙ ap (λ v. not (v == level n w (suc k))) (levels k) ∙ ap (λ v. not (level_from (initial_of (wire_at n w)) changes k == v)) (levels (suc k)) in
        subst (λ j. timed j (set_changes (initial_of (wire_at n w)) changes) ≡ bit (not (level_from (initial_of (wire_at n w)) changes k == level_from (initial_of (wire_at n w)) changes j))) next
        (toggles_change (initial_of (wire_at n w)) 0 k changes (rises_at n ok w changes is))
        ∙ ap bit (sym change)
        ∙ set_bit (change_at n w (suc k)) (is_stimulus (driver n w)) (ap is_stimulus drives)
