-- What a delayed copy is to have of a wave.
use Rattle.std.proofs.Common.{◌≡◌, ℕ, ◌+◌, ◌-◌, ◌<◌, ◌≤◌, Bool, true, false, not, List, [], ◌∷◌, All, cond, nat_lt, refl, ap, sym, ◌∙◌, arith, inl, inr}
use Rattle.std.specs.Prelude.{◌==◌, ◌&&◌, slice_index_or}
use Rattle.std.specs.List.{count_by}
use Rattle.std.proofs.lemmas.Bool.{cases_lt, cases_eq, lt-ltb, le-ltb, eq-eqb, ne_eqb, and_right}
use Rattle.std.proofs.lemmas.List.Elements.{All-map}
use Rattle.mp_wave.specs.Waveform.{Waveform, IsWaveform, level_of, between, later_than}
use Rattle.mp_netlist.specs.Circuit.{Circuit, wire_at}
use Rattle.mp_model.specs.Levels.{initial_of}
use Rattle.mp_model.specs.Waves.{level}
use Rattle.mp_modules.specs.automata.Codes.{bit}
use Rattle.mp_simulation.specs.bits.Changes.{change_at, late_change}
use Rattle.mp_simulation.specs.units.DataLevels.{late_level, IsLevelAt}
use Rattle.mp_simulation.proofs.lemmas.units.LevelWheelLemmas.{HoldsOf}
use Rattle.mp_simulation.proofs.lemmas.run.StimulusLemmas.{timed, timed_cons, plus_none}
use Rattle.mp_active.specs.declared.steps.copying.Copied.{Copied}
use Rattle.mp_active.specs.steps.Putting.{entry_of}
use Rattle.mp_active.specs.steps.Ahead.{is_entry_of}
use Rattle.mp_active.specs.steps.Copying.{delayed, in_flight}
use Rattle.mp_active.proofs.lemmas.steps.PutLemmas.{all_between}
use Rattle.mp_active.proofs.lemmas.steps.CopyPutLemmas.{delayed_ahead}
use Rattle.mp_active.proofs.lemmas.steps.OldChangeLemmas.{timed_wave, levels_in, all_kept, timed_between, counted_entries}

none_timed : (b : Bool) → ◌≡◌ {A = ℕ} 0 (cond b 0 0)
none_timed true = refl
none_timed false = refl

no_times : (a b : Bool) → ◌≡◌ {A = ℕ} (cond a 0 (cond b 0 0)) 0
no_times true b = refl
no_times false true = refl
no_times false false = refl

same_later : (a d u : ℕ) → d ≤ u → (a + d == u) ≡ (a == u - d)
same_later a d u low = elim (cases_eq a (u - d)) as (λ _. (a + d == u) ≡ (a == u - d)) [
  | inl is ↦ eq-eqb (a + d) u (omega (arith, is, low)) ∙ sym (eq-eqb a (u - d) is)
  | inr other ↦ ne_eqb (a + d) u (λ e. other (omega (arith, e, low))) ∙ sym (ne_eqb a (u - d) other)
]

-- a change so much later is at a time where it was so much before
timed_step : (d u : ℕ) (c : ℕ × ℕ) (cs : List (ℕ × ℕ)) → bit (c.0 + d == u) + cond (nat_lt u d) 0 (timed (u - d) cs) ≡ cond (nat_lt u d) 0 (timed (u - d) (c ∷ cs))
timed_step d u c cs = elim (cases_lt u d) as (λ _. bit (c.0 + d == u) + cond (nat_lt u d) 0 (timed (u - d) cs) ≡ cond (nat_lt u d) 0 (timed (u - d) (c ∷ cs))) [
  | inl low ↦
      plus_none (bit (c.0 + d == u)) (cond (nat_lt u d) 0 (timed (u - d) cs)) (ap bit (ne_eqb (c.0 + d) u (λ e. let no : ⊥ = omega (arith, e, low) in no)))
      ∙ ap (λ b. cond b 0 (timed (u - d) cs)) (lt-ltb u d low) ∙ sym (ap (λ b. cond b 0 (timed (u - d) (c ∷ cs))) (lt-ltb u d low))
  | inr high ↦
      ap (λ b. bit (c.0 + d == u) + cond b 0 (timed (u - d) cs)) (le-ltb u d high)
      ∙ ap (λ b. bit b + timed (u - d) cs) (same_later c.0 d u high)
      ∙ sym (timed_cons (u - d) c cs)
      ∙ sym (ap (λ b. cond b 0 (timed (u - d) (c ∷ cs))) (le-ltb u d high))
]

timed_delayed : (d u : ℕ) (cs : List (ℕ × ℕ)) → timed u (delayed d cs) ≡ cond (nat_lt u d) 0 (timed (u - d) cs)
timed_delayed d u [] = none_timed (nat_lt u d)
timed_delayed d u (c ∷ cs) = timed_cons u (c.0 + d, c.1) (delayed d cs) ∙ ap (λ j. bit (c.0 + d == u) + j) (timed_delayed d u cs) ∙ timed_step d u c cs

-- so much later a copy has the level of its wire
pub late_at : (n : Circuit) (w d u : ℕ) → late_level n (w, d) (u + d) ≡ level n w u
late_at n w d u = ap (λ b. cond b (initial_of (wire_at n w)) (level n w (u + d - d))) (le-ltb (u + d) d (omega arith)) ∙ ap (level n w) (let e : u + d - d ≡ u = omega arith in e)

module _ (n : Circuit) (w now : ℕ) (wave : Waveform) (form : IsWaveform wave) (agree : (u : ℕ) → u ≤ now → level_of wave u ≡ level n w u) where
  timed_change : (v : ℕ) → 0 < v → v ≤ now → timed v wave.changes ≡ bit (change_at n w v)
  timed_change v some low =
      let e : v ≡ v - 1 + 1 = omega (arith, some) in
      ap (λ u. timed u wave.changes) e
      ∙ timed_wave wave form (v - 1)
      ∙ ap (λ u. bit (not (level_of wave (v - 1) == level_of wave u))) (sym e)
      ∙ ap (λ x. bit (not (x == level_of wave v))) (agree (v - 1) (omega (arith, low)))
      ∙ ap (λ x. bit (not (level n w (v - 1) == x))) (agree v low)

  -- what comes of the changes that the number before the copy has had, and the copy not yet
  known_by : (sooner d k v : ℕ) → sooner ≤ now → sooner < d → v ≡ now + 1 + k - d → d < now + 1 + k →
      cond (nat_lt v (now - sooner + 1)) (timed v wave.changes) 0 ≡ bit (change_at n w v && nat_lt k (d - sooner))
  known_by sooner d k v had later is after = elim (cases_lt k (d - sooner)) as (λ _. cond (nat_lt v (now - sooner + 1)) (timed v wave.changes) 0 ≡ bit (change_at n w v && nat_lt k (d - sooner))) [
    | inl low ↦
        ap (λ b. cond b (timed v wave.changes) 0) (lt-ltb v (now - sooner + 1) (omega (arith, had, later, is, after, low)))
        ∙ timed_change v (omega (arith, is, after)) (omega (arith, had, later, is, after, low))
        ∙ sym (ap bit (both (change_at n w v) (nat_lt k (d - sooner)) (lt-ltb k (d - sooner) low)))
    | inr high ↦
        ap (λ b. cond b (timed v wave.changes) 0) (le-ltb v (now - sooner + 1) (omega (arith, had, later, is, after, high)))
        ∙ sym (ap bit (and_right (change_at n w v) (nat_lt k (d - sooner)) (le-ltb k (d - sooner) high)))
  ]
    where
      both : (a b : Bool) → b ≡ true → (a && b) ≡ a
      both true b is = is
      both false b is = refl

  timed_flight : (sooner d k : ℕ) → sooner ≤ now → sooner < d →
      timed (now + 1 + k) (delayed d (between (now - d) (now - sooner + 1) wave.changes)) ≡ bit (late_change n (w, d) (now + 1 + k) && nat_lt k (d - sooner))
  timed_flight sooner d k had later =
      timed_delayed d (now + 1 + k) (between (now - d) (now - sooner + 1) wave.changes)
      ∙ ap (cond (nat_lt (now + 1 + k) d) 0) (timed_between (now - d) (now - sooner + 1) (now + 1 + k - d) wave.changes)
      ∙ by (now + 1 + k - d) refl
    where
      by : (v : ℕ) → v ≡ now + 1 + k - d →
          cond (nat_lt (now + 1 + k) d) 0 (cond (nat_lt v (now - sooner + 1)) (cond (nat_lt (now - d) v) (timed v wave.changes) 0) 0) ≡ bit (late_change n (w, d) (now + 1 + k) && nat_lt k (d - sooner))
      by v is = elim (cases_lt d (now + 1 + k)) as (λ _.
          cond (nat_lt (now + 1 + k) d) 0 (cond (nat_lt v (now - sooner + 1)) (cond (nat_lt (now - d) v) (timed v wave.changes) 0) 0) ≡ bit (late_change n (w, d) (now + 1 + k) && nat_lt k (d - sooner))) [
            | inl after ↦
                ap (λ b. cond b 0 (cond (nat_lt v (now - sooner + 1)) (cond (nat_lt (now - d) v) (timed v wave.changes) 0) 0)) (le-ltb (now + 1 + k) d (omega (arith, after)))
                ∙ ap (λ b. cond (nat_lt v (now - sooner + 1)) (cond b (timed v wave.changes) 0) 0) (lt-ltb (now - d) v (omega (arith, is, after)))
                ∙ known_by sooner d k v had later is after
                ∙ ap (λ u. bit (change_at n w u && nat_lt k (d - sooner))) is
                ∙ sym (ap (λ b. bit (cond b (change_at n w (now + 1 + k - d)) false && nat_lt k (d - sooner))) (lt-ltb d (now + 1 + k) after))
            | inr early ↦
                ap (λ b. cond (nat_lt (now + 1 + k) d) 0 (cond (nat_lt v (now - sooner + 1)) (cond b (timed v wave.changes) 0) 0)) (le-ltb (now - d) v (omega (arith, is, early)))
                ∙ no_times (nat_lt (now + 1 + k) d) (nat_lt v (now - sooner + 1))
                ∙ sym (ap (λ b. bit (cond b (change_at n w (now + 1 + k - d)) false && nat_lt k (d - sooner))) (le-ltb d (now + 1 + k) early))
          ]

  -- a copy gets each of these changes once, and no other number gets any
  pub counted_flight : (copy : Copied) (x k : ℕ) → copy.sooner ≤ now → copy.sooner < copy.delay →
      count_by (is_entry_of k x) (in_flight wave copy now) ≡ cond (copy.number == x) (bit (late_change n (w, copy.delay) (now + 1 + k) && nat_lt k (copy.delay - copy.sooner))) 0
  counted_flight copy x k had later =
      counted_entries copy.number now k x (delayed copy.delay (between (now - copy.delay) (now - copy.sooner + 1) wave.changes))
      (λ j e low. (delayed_ahead copy.sooner copy.delay now (copy.delay - copy.sooner) wave.changes had later (omega arith) j e low).later)
      ∙ ap (λ j. cond (copy.number == x) j 0) (timed_flight copy.sooner copy.delay k had later)

  -- with its level
  pub held_flight : (source : ℕ → ℕ × ℕ) (copy : Copied) → copy.sooner ≤ now → source copy.number ≡ (w, copy.delay) →
      All (HoldsOf (λ k c. IsLevelAt n source (now + 1 + k) c)) (in_flight wave copy now)
  held_flight source copy had own =
      let d = copy.delay in
      let cs = between (now - d) (now - copy.sooner + 1) wave.changes in
      All-map (HoldsOf (λ k c. IsLevelAt n source (now + 1 + k) c)) (entry_of copy.number now) (delayed d cs)
      (All-map (λ c. HoldsOf (λ k c. IsLevelAt n source (now + 1 + k) c) (entry_of copy.number now c)) (λ (c : ℕ × ℕ). (c.0 + d, c.1)) cs (λ j e low.
      let c : ℕ × ℕ = slice_index_or cs j e in
      let is = all_between (now - d) (now - copy.sooner + 1) wave.changes j e low in
      let first = is.0 in
      let last = is.1 in
      let has = all_kept (λ (c : ℕ × ℕ). level_of wave c.0 ≡ c.1) (λ v. nat_lt v (now - copy.sooner + 1)) (later_than (now - d) wave.changes)
      (all_kept (λ (c : ℕ × ℕ). level_of wave c.0 ≡ c.1) (λ v. nat_lt (now - d) v) wave.changes (levels_in wave form)) j e low in
      let when : now + 1 + (c.0 + d - now - 1) ≡ c.0 + d = omega (arith, first) in
      sym has
      ∙ agree c.0 (omega (arith, last))
      ∙ sym (late_at n w d c.0)
      ∙ ap (late_level n (w, d)) (sym when)
      ∙ ap (λ (v : ℕ × ℕ). late_level n v (now + 1 + (c.0 + d - now - 1))) (sym own)))
