-- Events of levels, and the changes of waves.
use Rattle.std.proofs.Common.{◌≡◌, ◌≢◌, ℕ, ◌+◌, ◌-◌, ◌<◌, ◌≤◌, ◌==◌, Bool, true, false, not, cond, List, [], ◌∷◌, ◌++◌, length, Option, Some, None, option_map, nat_lt, filter, slice_get, zero, suc, refl, ap, sym, subst, ◌∙◌, arith, inl, inr, append-nil}
use Rattle.std.proofs.lemmas.Bool.{cases_lt, eq-eqb, ne_eqb}
use Rattle.std.proofs.lemmas.List.{length-append, length-map}
use Rattle.std.proofs.lemmas.List.Filters.{length-filter_both}
use Rattle.std.proofs.lemmas.List.Elements.{filter-append}
use Rattle.std.proofs.lemmas.Option.{same_Some}
use Rattle.mp_wave.specs.Waveform.{Waveform, change_after, changes_after, earlier_than, between, level_of}
use Rattle.mp_wave.proofs.ChangesLemmas.{levels_of_wave, AreChanges-changes_after}
use Rattle.mp_wave.proofs.PrefixLemmas.{all_later, nat_lt-true, nat_lt-false}
use Rattle.mp_modules.specs.Histories.{has_event}
use Rattle.mp_records.specs.declared.ids.WireId.{WireId}
use Rattle.mp_records.specs.declared.ports.Input.{Input}
use Rattle.mp_records.specs.declared.wire_record.WireRecord.{WireRecord}
use Rattle.mp_netlist.specs.declared.driver.Driver.TheVariants.{Nothing}
use Rattle.mp_netlist.specs.Slots.{slot_at}
use Rattle.mp_netlist.specs.Circuit.{Circuit, IsCircuit, wire_at}
use Rattle.mp_netlist.specs.Drivers.{driver}
use Rattle.mp_netlist.proofs.DriverLemmas.{leaves_no_driver}
use Rattle.mp_model.specs.Levels.{initial_of, input_by, driven_level}
use Rattle.mp_model.specs.Waves.{level, state, wave, slot_wave, AreWavesOf}
use Rattle.mp_model.proofs.BehaviourLemmas.{satisfies}
use Rattle.mp_model.proofs.InputLemmas.{input_is}
use Rattle.mp_questions.specs.declared.causes.input_event.InputEvent.{InputEvent}
use Rattle.mp_questions.specs.declared.causes.wire_change.WireChange.{WireChange}
use Rattle.mp_questions.specs.causes.Changes.{change_at, change_if, last_change}
use Rattle.mp_questions.specs.timing.Events.{last_event}
use Rattle.mp_questions.specs.causes.Causes.{hears, event_at, events_at}

-- ---- events of a level

-- an event is a difference from the unit before
pub event_by : (f : ℕ → ℕ) (t : ℕ) → 0 < t → has_event f t ≡ not (f (t - 1) == f t)
event_by f zero some = absurd (omega (arith, some))
event_by f (suc s) some = let e : s ≡ suc s - 1 = omega arith in ap (λ k. not (f k == f (suc s))) e

pub no_event_at : (f : ℕ → ℕ) (t : ℕ) → f (t - 1) ≡ f t → has_event f t ≡ false
no_event_at f zero same = refl
no_event_at f (suc s) same =
    let e : suc s - 1 ≡ s = omega arith in
    ap not (eq-eqb (f s) (f (suc s)) (ap f (sym e) ∙ same))

-- a level that stays has none
pub steady_level : (f : ℕ → ℕ) (v : ℕ) → ((t : ℕ) → f t ≡ v) → (t : ℕ) → has_event f t ≡ false
steady_level f v same t = no_event_at f t (same (t - 1) ∙ sym (same t))

-- an event lies after time 0
pub event_later : (f : ℕ → ℕ) (t : ℕ) → has_event f t ≡ true → 0 < t
event_later f zero has = let no : ⊥ = cc in absurd no
event_later f (suc s) has = omega arith

-- levels that agree up to a time have an event there together
pub same_event : (f g : ℕ → ℕ) (t : ℕ) → ((u : ℕ) → u ≤ t → f u ≡ g u) → has_event f t ≡ has_event g t
same_event f g zero same = refl
same_event f g (suc s) same = ap (λ v. not (v == f (suc s))) (same s (omega arith)) ∙ ap (λ v. not (g s == v)) (same (suc s) (omega arith))

-- ---- events at inputs

-- an input hears what its wire does, later by its delay
pub hears_is : (n : Circuit) → IsCircuit n → (t : ℕ) (i : Input) → hears n t i ≡ has_event (level n i.wire.0) (t - i.delay)
hears_is n ok zero i = let e : 0 - i.delay ≡ 0 = omega arith in sym (ap (has_event (level n i.wire.0)) e)
hears_is n ok (suc s) i = elim (cases_lt s i.delay) as (λ _. hears n (suc s) i ≡ has_event (level n i.wire.0) (suc s - i.delay)) [
  | inl early ↦
      let now : suc s - i.delay ≡ 0 = omega (arith, early) in
      let before : s - i.delay ≡ suc s - i.delay = omega (arith, early) in
      ap not (eq-eqb (input_by n (level n) i s) (input_by n (level n) i (suc s)) (input_is n ok i s ∙ ap (level n i.wire.0) before ∙ sym (input_is n ok i (suc s))))
      ∙ sym (ap (has_event (level n i.wire.0)) now)
  | inr heard ↦
      let e : suc s - i.delay ≡ suc (s - i.delay) = omega (arith, heard) in
      ap (λ v. not (v == input_by n (level n) i (suc s))) (input_is n ok i s)
      ∙ ap (λ v. not (level n i.wire.0 (s - i.delay) == v)) (input_is n ok i (suc s) ∙ ap (level n i.wire.0) e)
      ∙ sym (ap (has_event (level n i.wire.0)) e)
]

-- ---- waves of wires

-- the wave of a wire is that of its levels
pub wave_is : (n : Circuit) (waves : List (Option Waveform)) (w : ℕ) (found : Waveform) → AreWavesOf n waves → slot_at waves w ≡ Some found → found ≡ wave n w
wave_is n waves w found are at = by (wire_at n w) (sym (are w) ∙ at)
  where
    by : (slot : Option WireRecord) → slot_wave n w slot ≡ Some found → found ≡ wave n w
    by None e = cc
    by (Some r) e = cc

pub wave_level : (n : Circuit) (waves : List (Option Waveform)) (w : ℕ) (found : Waveform) → AreWavesOf n waves → slot_at waves w ≡ Some found → (t : ℕ) → t < n.horizon → level_of found t ≡ level n w t
wave_level n waves w found are at t below =
    ap (λ (x : Waveform). level_of x t) (wave_is n waves w found are at) ∙ levels_of_wave (level n w) (n.horizon - 1) t (omega (arith, below))

-- a wire that nothing drives keeps its level
pub undriven_level : (n : Circuit) → IsCircuit n → (w t : ℕ) → driver n w ≡ Nothing → level n w t ≡ initial_of (wire_at n w)
undriven_level n ok w t none = (satisfies n ok).levels w t ∙ ap (λ d. driven_level d n (state n) w t) none

-- where there is no wave there is no event
pub no_wave : (n : Circuit) → IsCircuit n → (waves : List (Option Waveform)) (w : ℕ) → AreWavesOf n waves → slot_at waves w ≡ None → (t : ℕ) → has_event (level n w) t ≡ false
no_wave n ok waves w are none t =
    steady_level (level n w) (initial_of (wire_at n w)) (λ u. undriven_level n ok w u (leaves_no_driver n ok w (by (wire_at n w) (sym (are w) ∙ none)))) t
  where
    by : (slot : Option WireRecord) → slot_wave n w slot ≡ None → slot ≡ None
    by None e = refl
    by (Some r) e = cc

-- ---- the change at a time

pub no_change : (n : Circuit) (wire : WireId) (t : ℕ) → has_event (level n wire.0) t ≡ false → None ≡ change_if n wire t
no_change n wire t none = rw none refl

pub a_change : (n : Circuit) (wire : WireId) (t v : ℕ) → has_event (level n wire.0) t ≡ true → v ≡ level n wire.0 t → Some (record { wire = wire; time = t; level = v }) ≡ change_if n wire t
a_change n wire t v some is = rw (some, is) refl

-- ---- the last change at or before a time

-- the changes of a level up to a time are those that are earlier than the next unit
all_earlier : (f : ℕ → ℕ) (t end : ℕ) → t < end → earlier_than end (changes_after f 0 t) ≡ changes_after f 0 t
all_earlier f zero end below = refl
all_earlier f (suc t) end below =
    filter-append (λ (c : ℕ × ℕ). nat_lt c.0 end) (changes_after f 0 t) (change_after f (0 + t))
    ∙ ap (λ xs. xs ++ earlier_than end (change_after f (0 + t))) (all_earlier f t end (omega (arith, below)))
    ∙ ap (λ xs. changes_after f 0 t ++ xs) (by (f (0 + t) == f (suc (0 + t))))
  where
    by : (same : Bool) → earlier_than end (cond same [] ((suc (0 + t), f (suc (0 + t))) ∷ [])) ≡ cond same [] ((suc (0 + t), f (suc (0 + t))) ∷ [])
    by true = refl
    by false = let less = nat_lt-true (suc (0 + t)) end (omega (arith, below)) in rw less refl

pub earlier_changes : (f : ℕ → ℕ) (t k : ℕ) → earlier_than (t + 1) (changes_after f 0 (t + k)) ≡ changes_after f 0 t
earlier_changes f t zero = let e : t + 0 ≡ t = omega arith in ap (λ m. earlier_than (t + 1) (changes_after f 0 m)) e ∙ all_earlier f t (t + 1) (omega arith)
earlier_changes f t (suc k) =
    let e : t + suc k ≡ suc (t + k) = omega arith in
    ap (λ m. earlier_than (t + 1) (changes_after f 0 m)) e
    ∙ filter-append (λ (c : ℕ × ℕ). nat_lt c.0 (t + 1)) (changes_after f 0 (t + k)) (change_after f (0 + (t + k)))
    ∙ ap (λ xs. xs ++ earlier_than (t + 1) (change_after f (0 + (t + k)))) (earlier_changes f t k)
    ∙ ap (λ xs. changes_after f 0 t ++ xs) (by (f (0 + (t + k)) == f (suc (0 + (t + k))))) ∙ append-nil (changes_after f 0 t)
  where
    by : (same : Bool) → earlier_than (t + 1) (cond same [] ((suc (0 + (t + k)), f (suc (0 + (t + k)))) ∷ [])) ≡ []
    by true = refl
    by false = let more = nat_lt-false (suc (0 + (t + k))) (t + 1) (omega arith) in rw more refl

abbrev pub last_of : List (ℕ × ℕ) → Option (ℕ × ℕ)
last_of xs = slice_get xs (length xs - 1)

pub last_more : (xs : List (ℕ × ℕ)) (x : ℕ × ℕ) → last_of (xs ++ x ∷ []) ≡ Some x
last_more xs x = let e : length (xs ++ x ∷ []) - 1 ≡ length xs = omega (arith, length-append xs (x ∷ [])) in ap (slice_get (xs ++ x ∷ [])) e ∙ at_end xs
  where
    at_end : (ys : List (ℕ × ℕ)) → slice_get (ys ++ x ∷ []) (length ys) ≡ Some x
    at_end [] = refl
    at_end (y ∷ ys) = at_end ys

abbrev pub change_of : (ℕ → ℕ) → ℕ → ℕ × ℕ
change_of f u = (u, f u)

-- the last change up to a time is the last event
pub last_changes : (f : ℕ → ℕ) (t : ℕ) → last_of (changes_after f 0 t) ≡ option_map (change_of f) (last_event f t)
last_changes f zero = refl
last_changes f (suc t) =
    let e : 0 + t ≡ t = omega arith in
    ap (λ k. last_of (changes_after f 0 t ++ change_after f k)) e ∙ by (f t == f (suc t)) (last_changes f t)
  where
    by : (same : Bool) → last_of (changes_after f 0 t) ≡ option_map (change_of f) (last_event f t) → last_of (changes_after f 0 t ++ cond same [] ((suc t, f (suc t)) ∷ [])) ≡ option_map (change_of f) (cond (not same) (Some (suc t)) (last_event f t))
    by true before = ap last_of (append-nil (changes_after f 0 t)) ∙ before
    by false before = last_more (changes_after f 0 t) (suc t, f (suc t))

-- of a wave too
pub last_of_wave : (f : ℕ → ℕ) (most t : ℕ) → t ≤ most → last_of (between 0 (t + 1) (changes_after f 0 most)) ≡ option_map (change_of f) (last_event f t)
last_of_wave f most t within =
    let e : most ≡ t + (most - t) = omega (arith, within) in
    ap (λ xs. last_of (earlier_than (t + 1) xs)) (all_later 0 0 (f 0) (changes_after f 0 most) (omega arith) (AreChanges-changes_after f 0 most))
    ∙ ap (λ m. last_of (earlier_than (t + 1) (changes_after f 0 m))) e
    ∙ ap last_of (earlier_changes f t (most - t)) ∙ last_changes f t

-- ---- the last event

-- what is known of it
pub record IsLast (f : ℕ → ℕ) (t u : ℕ) : Type 0 where
  pub event : has_event f u ≡ true
  pub within : u ≤ t

pub last_event_is : (f : ℕ → ℕ) (t u : ℕ) → last_event f t ≡ Some u → IsLast f t u
last_event_is f zero u is = cc
last_event_is f (suc t) u is = by (has_event f (suc t)) refl is (last_event_is f t u)
  where
    by : (b : Bool) → has_event f (suc t) ≡ b → cond b (Some (suc t)) (last_event f t) ≡ Some u → (last_event f t ≡ Some u → IsLast f t u) → IsLast f (suc t) u
    by true has e earlier = let same : suc t ≡ u = cc in record { event = subst (λ k. has_event f k ≡ true) same has; within = omega (arith, same) }
    by false has e earlier = let before = earlier e in record { event = before.event; within = omega (arith, before.within) }

-- without events there is none
pub no_last : (f : ℕ → ℕ) → ((t : ℕ) → has_event f t ≡ false) → (t : ℕ) → last_event f t ≡ None
no_last f none zero = refl
no_last f none (suc t) = let no = none (suc t) in rw no (no_last f none t)

-- ---- what the calls of the program tell

-- a wave whose level stays has no change of its wire, and one whose level differs has one
pub wave_stays : (n : Circuit) → IsCircuit n → (waves : List (Option Waveform)) (wire : WireId) (found : Waveform) (t : ℕ) → AreWavesOf n waves → slot_at waves wire.0 ≡ Some found → t < n.horizon
    → level_of found (t - 1) ≡ level_of found t → None ≡ change_if n wire t
wave_stays n ok waves wire found t are at below same =
    no_change n wire t (no_event_at (level n wire.0) t (sym (wave_level n waves wire.0 found are at (t - 1) (omega (arith, below))) ∙ same ∙ wave_level n waves wire.0 found are at t below))

pub wave_changes : (n : Circuit) → IsCircuit n → (waves : List (Option Waveform)) (wire : WireId) (found : Waveform) (t v : ℕ) → AreWavesOf n waves → slot_at waves wire.0 ≡ Some found → t < n.horizon → 0 < t
    → level_of found (t - 1) ≢ level_of found t → v ≡ level_of found t → Some (record { wire = wire; time = t; level = v }) ≡ change_if n wire t
wave_changes n ok waves wire found t v are at below some differ is =
    let f = level n wire.0 in
    let before = wave_level n waves wire.0 found are at (t - 1) (omega (arith, below)) in
    let now = wave_level n waves wire.0 found are at t below in
    a_change n wire t v (event_by f t some ∙ ap not (ne_eqb (f (t - 1)) (f t) (λ e. differ (before ∙ e ∙ sym now)))) (is ∙ now)

pub heard_none : (n : Circuit) → IsCircuit n → (t : ℕ) (i : Input) → None ≡ change_if n i.wire (t - i.delay) → None ≡ cond (hears n t i) (Some (event_at n t i)) None
heard_none n ok t i none = by (has_event (level n i.wire.0) (t - i.delay)) (hears_is n ok t i) none
  where
    by : (b : Bool) → hears n t i ≡ b → None ≡ cond b (Some (change_at n i.wire (t - i.delay))) None → None ≡ cond (hears n t i) (Some (event_at n t i)) None
    by true has e = cc
    by false has e = rw has refl

pub heard_some : (n : Circuit) → IsCircuit n → (t : ℕ) (i : Input) (c : WireChange) → Some c ≡ change_if n i.wire (t - i.delay) → Some (record { change = c; delay = i.delay }) ≡ cond (hears n t i) (Some (event_at n t i)) None
heard_some n ok t i c some = by (has_event (level n i.wire.0) (t - i.delay)) (hears_is n ok t i) some
  where
    by : (b : Bool) → hears n t i ≡ b → Some c ≡ cond b (Some (change_at n i.wire (t - i.delay))) None → Some (record { change = c; delay = i.delay }) ≡ cond (hears n t i) (Some (event_at n t i)) None
    by true has e = rw has (ap (λ (x : WireChange). Some (let h : InputEvent = record { change = x; delay = i.delay } in h)) (same_Some c (change_at n i.wire (t - i.delay)) e))
    by false has e = cc

-- the last change in a wave
abbrev as_change : WireId → ℕ × ℕ → WireChange
as_change wire p = record { wire = wire; time = p.0; level = p.1 }

pub last_found : (n : Circuit) → IsCircuit n → (waves : List (Option Waveform)) (wire : WireId) (found : Waveform) (t : ℕ) (o : Option (ℕ × ℕ)) → AreWavesOf n waves → slot_at waves wire.0 ≡ Some found → t < n.horizon
    → last_of (between 0 (t + 1) found.changes) ≡ o → option_map (as_change wire) o ≡ last_change n wire t
last_found n ok waves wire found t o are at below is =
    let f = level n wire.0 in
    let e : last_of (between 0 (t + 1) found.changes) ≡ option_map (change_of f) (last_event f t)
    = ap (λ (x : Waveform). last_of (between 0 (t + 1) x.changes)) (wave_is n waves wire.0 found are at) ∙ last_of_wave f (n.horizon - 1) t (omega (arith, below)) in
    ap (option_map (as_change wire)) (sym is ∙ e) ∙ by (last_event f t)
  where
    by : (u : Option ℕ) → option_map (as_change wire) (option_map (change_of (level n wire.0)) u) ≡ option_map (change_at n wire) u
    by None = refl
    by (Some u) = refl

pub no_last_change : (n : Circuit) → IsCircuit n → (waves : List (Option Waveform)) (wire : WireId) (t : ℕ) → AreWavesOf n waves → slot_at waves wire.0 ≡ None → None ≡ last_change n wire t
no_last_change n ok waves wire t are none = sym (ap (option_map (change_at n wire)) (no_last (level n wire.0) (no_wave n ok waves wire.0 are none) t))

-- ---- the events at some inputs

pub events_short : (n : Circuit) (t : ℕ) (inputs : List Input) → length (events_at n t inputs) ≤ length inputs
events_short n t inputs = omega (arith, length-map (filter (hears n t) inputs) (event_at n t), length-filter_both (hears n t) (λ i. not (hears n t i)) (λ i. refl) inputs)

abbrev listed : Option InputEvent → List InputEvent
listed None = []
listed (Some e) = e ∷ []
