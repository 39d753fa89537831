-- The last change of a wire from one time on and up to another.
use Rattle.std.proofs.Common.{◌≡◌, ℕ, ◌+◌, ◌-◌, ◌<◌, ◌≤◌, Bool, true, false, cond, List, length, max, take, Option, Some, None, option_map, nat_lt, zero, suc, refl, ap, sym, ◌∙◌, inl, inr, arith}
use Rattle.std.proofs.lemmas.Bool.{cases_lt, lt-ltb, le-ltb}
use Rattle.std.proofs.lemmas.List.{take_more}
use Rattle.mp_wave.specs.Faults.{pair_at}
use Rattle.mp_wave.specs.Waveform.{Waveform, changes_after, earlier_than}
use Rattle.mp_modules.specs.declared.kind.Kind.{Kind}
use Rattle.mp_modules.specs.Histories.{has_event}
use Rattle.mp_records.specs.declared.ports.Input.{Input}
use Rattle.mp_netlist.specs.Slots.{slot_at}
use Rattle.mp_netlist.specs.Circuit.{Circuit, IsCircuit}
use Rattle.mp_model.specs.Waves.{level, AreWavesOf}
use Rattle.mp_questions.specs.declared.causes.wire_change.WireChange.{WireChange}
use Rattle.mp_questions.specs.causes.Changes.{change_at}
use Rattle.mp_questions.specs.timing.Events.{last_event}
use Rattle.mp_questions.specs.causes.Causes.{hears, event_at}
use Rattle.mp_questions.proofs.lemmas.causes.EventLemmas.{change_of, earlier_changes, last_of, last_more, last_changes, last_event_is, no_last, no_wave, wave_is, hears_is, event_later}
use Rattle.mp_questions.specs.late.Sources.{has_memory}
use Rattle.mp_questions.specs.late.Searching.{from_on, source_at}
use Rattle.mp_questions.proofs.lemmas.late.SourceLemmas.{with_memory, without_memory}

-- an event is at 1 or later
pub from_one : (f : ℕ → ℕ) (t : ℕ) → from_on 1 (last_event f t) ≡ last_event f t
from_one f t = by (last_event f t) refl
  where
    by : (o : Option ℕ) → last_event f t ≡ o → from_on 1 o ≡ o
    by None is = refl
    by (Some u) is =
        let last = last_event_is f t u is in
        let later = event_later f u last.event in
        ap (λ x. let o : Option ℕ = cond x None (Some u) in o) (le-ltb u 1 (omega (arith, later)))

-- ---- of a wire

abbrev time_in : Option (ℕ × ℕ) → Option ℕ
time_in o = option_map (λ (c : ℕ × ℕ). c.0) o

-- the last of the changes of a wave up to a time is its last event
module _ (n : Circuit) (waves : List (Option Waveform)) (w : ℕ) (found : Waveform) (t : ℕ) (are : AreWavesOf n waves) (at : slot_at waves w ≡ Some found) (below : t < n.horizon)
    (changes : List (ℕ × ℕ)) (same : changes ≡ found.changes) (count : ℕ) (early : take count changes ≡ earlier_than (t + 1) changes) where
  last_of_these : last_event (level n w) t ≡ time_in (last_of (take count changes))
  last_of_these =
      let f = level n w in
      let e : n.horizon - 1 ≡ t + (n.horizon - 1 - t) = omega (arith, below) in
      sym (ap time_in (ap last_of early ∙ ap (λ xs. last_of (earlier_than (t + 1) xs)) (same ∙ ap (λ (x : Waveform). x.changes) (wave_is n waves w found are at))
      ∙ ap (λ m. last_of (earlier_than (t + 1) (changes_after f 0 m))) e ∙ ap last_of (earlier_changes f t (n.horizon - 1 - t)) ∙ last_changes f t) ∙ by (last_event f t))
    where
      by : (u : Option ℕ) → time_in (option_map (change_of (level n w)) u) ≡ u
      by None = refl
      by (Some u) = refl

  -- there is none
  pub none_upto : (from : ℕ) → count ≡ 0 → None ≡ from_on from (last_event (level n w) t)
  none_upto from none = sym (ap (from_on from) last_of_these ∙ ap (λ k. from_on from (time_in (last_of (take k changes)))) none)

  module _ (from time : ℕ) (some : 0 < count) (within : count ≤ length changes) (is : time ≡ (pair_at changes (count - 1)).0) where
    last_is : Some time ≡ last_event (level n w) t
    last_is =
        let e : count ≡ count - 1 + 1 = omega (arith, some) in
        ap (λ k. Some k) is
        ∙ sym (last_of_these ∙ ap (λ k. time_in (last_of (take k changes))) e ∙ ap (λ xs. time_in (last_of xs)) (take_more changes (count - 1) (0, 0) (omega (arith, some, within)))
        ∙ ap time_in (last_more (take (count - 1) changes) (pair_at changes (count - 1))))

    pub last_before : time < from → None ≡ from_on from (last_event (level n w) t)
    last_before less = sym (ap (λ b. let o : Option ℕ = cond b None (Some time) in o) (lt-ltb time from less)) ∙ ap (from_on from) last_is

    pub last_found : from ≤ time → Some time ≡ from_on from (last_event (level n w) t)
    last_found le = sym (ap (λ b. let o : Option ℕ = cond b None (Some time) in o) (le-ltb time from le)) ∙ ap (from_on from) last_is

pub no_found : (n : Circuit) → IsCircuit n → (waves : List (Option Waveform)) (w from t : ℕ) → AreWavesOf n waves → slot_at waves w ≡ None → None ≡ from_on from (last_event (level n w) t)
no_found n ok waves w from t are none = sym (ap (from_on from) (no_last (level n w) (no_wave n ok waves w are none) t))

-- ---- of an input

abbrev pub change_time : Option WireChange → Option ℕ
change_time o = option_map (λ (c : WireChange). c.time) o

pub event_is_last : (f : ℕ → ℕ) (u : ℕ) → has_event f u ≡ true → last_event f u ≡ Some u
event_is_last f zero has = let never : ⊥ = cc in absurd never
event_is_last f (suc u) has = ap (λ b. cond b (Some (suc u)) (last_event f u)) has

earlier_out : (f : ℕ → ℕ) (end u : ℕ) → u < end → from_on end (last_event f u) ≡ None
earlier_out f end u below = by (last_event f u) refl
  where
    by : (o : Option ℕ) → last_event f u ≡ o → from_on end o ≡ None
    by None is = refl
    by (Some v) is =
        let last = last_event_is f u v is in
        let less : nat_lt v end ≡ true = lt-ltb v end (omega (arith, last.within, below)) in
        ap (λ b. let o : Option ℕ = cond b None (Some v) in o) less

quiet_is_earlier : (f : ℕ → ℕ) (from u : ℕ) → has_event f u ≡ false → from_on (max from u) (last_event f u) ≡ None
quiet_is_earlier f from zero none = refl
quiet_is_earlier f from (suc u) none = ap (λ b. from_on (max from (suc u)) (cond b (Some (suc u)) (last_event f u))) none ∙ earlier_out f (max from (suc u)) u (omega arith)

at_time : (from t : ℕ) → from_on (max from t) (Some t) ≡ from_on from (Some t)
at_time from t = ap (λ b. let o : Option ℕ = cond b None (Some t) in o) same
  where
    same : nat_lt t (max from t) ≡ nat_lt t from
    same = elim (cases_lt t from) as (λ _. nat_lt t (max from t) ≡ nat_lt t from) [
      | inl early ↦ lt-ltb t (max from t) (omega (arith, early)) ∙ sym (lt-ltb t from early)
      | inr late ↦ le-ltb t (max from t) (omega (arith, late)) ∙ sym (le-ltb t from late)
    ]

-- with memory the last change counts
pub source_with_memory : (n : Circuit) (kind : Kind) (u from : ℕ) (i : Input) → has_memory kind ≡ true → from_on from (last_event (level n i.wire.0) (u - i.delay)) ≡ from_on from (change_time (source_at n kind u i))
source_with_memory n kind u from i keeps = ap (from_on from) (by (last_event (level n i.wire.0) (u - i.delay)) ∙ ap change_time (with_memory n u kind i keeps))
  where
    by : (o : Option ℕ) → o ≡ change_time (option_map (change_at n i.wire) o)
    by None = refl
    by (Some t) = refl

-- without it an event
pub source_without : (n : Circuit) → IsCircuit n → (kind : Kind) (u from : ℕ) (i : Input) → has_memory kind ≡ false
    → from_on (max from (u - i.delay)) (last_event (level n i.wire.0) (u - i.delay)) ≡ from_on from (change_time (source_at n kind u i))
source_without n ok kind u from i forgets = by (has_event (level n i.wire.0) (u - i.delay)) refl ∙ sym (ap (λ o. from_on from (change_time o)) (without_memory n u kind i forgets))
  where
    by : (b : Bool) → has_event (level n i.wire.0) (u - i.delay) ≡ b → from_on (max from (u - i.delay)) (last_event (level n i.wire.0) (u - i.delay)) ≡ from_on from (change_time (cond (hears n u i) (Some (event_at n u i).change) None))
    by true has =
        ap (from_on (max from (u - i.delay))) (event_is_last (level n i.wire.0) (u - i.delay) has) ∙ at_time from (u - i.delay)
        ∙ sym (ap (λ b. from_on from (change_time (cond b (Some (event_at n u i).change) None))) (hears_is n ok u i ∙ has))
    by false none =
        quiet_is_earlier (level n i.wire.0) from (u - i.delay) none
        ∙ sym (ap (λ b. from_on from (change_time (cond b (Some (event_at n u i).change) None))) (hears_is n ok u i ∙ none))
