-- Which modules hear of entries.
use Rattle.std.proofs.Common.{◌≡◌, ℕ, ◌+◌, ◌<◌, Bool, false, cond, List, [], ◌∷◌, ◌++◌, length, take, refl, sym, ap, subst, ◌∙◌, arith, inl, inr, slice_index_or}
use Rattle.std.specs.Prelude.{◌==◌}
use Rattle.std.specs.List.{Contains}
use Rattle.std.proofs.lemmas.Bool.{cases_lt, cases_Bool, eq-eqb, eqb-true}
use Rattle.std.proofs.lemmas.List.{take_more, append_assoc}
use Rattle.std.proofs.lemmas.List.Elements.{Contains-append_left, Contains-push, Contains-push_cases}
use Rattle.std.proofs.lemmas.List.Sums.{sum_by-append, sum_by-cons}
use Rattle.mp_records.specs.declared.ids.ModuleId.{ModuleId}
use Rattle.mp_kernel.specs.declared.events.fanout_entry.FanoutEntry.{FanoutEntry}
use Rattle.mp_kernel.specs.events.Adding.{event_for, events_for}
use Rattle.mp_depend.specs.Hearing.{AreHearing}

abbrev named : ℕ → ModuleId
named m = record { 0 = m }

none_in : (m : ℕ) → Contains [] (named m) → ⊥
none_in m found = let low = found.1 in let no : ⊥ = omega (arith, low) in no

pub events_append : (m : ℕ) (es fs : List FanoutEntry) → events_for m (es ++ fs) ≡ events_for m es + events_for m fs
events_append m es fs = sum_by-append (event_for m) es fs

events_push : (m : ℕ) (es : List FanoutEntry) (e : FanoutEntry) → events_for m (es ++ e ∷ []) ≡ events_for m es + event_for m e
events_push m es e = let sum = events_append m es (e ∷ []) in let one = sum_by-cons (event_for m) e [] in let none : events_for m [] ≡ 0 = refl in omega arith

event_own : (m : ℕ) (e : FanoutEntry) → e.module ≡ m → event_for m e ≡ e.event
event_own m e own = ap (λ b. cond b e.event 0) (eq-eqb e.module m own)

event_of : (m : ℕ) (e : FanoutEntry) → 0 < event_for m e → e.module ≡ m
event_of m e some = elim (cases_Bool (e.module == m)) as (λ _. e.module ≡ m) [
  | inl is ↦ eqb-true e.module m is
  | inr other ↦ let none = ap (λ b. cond b e.event 0) other in let no : ⊥ = omega (arith, some, none) in absurd no
]

pub hearing_none : (active : ℕ → Bool) → AreHearing active [] []
hearing_none active m = (λ found. absurd (none_in m found), λ hears. let some = hears.1 in let no : ⊥ = omega (arith, some) in absurd no)

pub hearing_more : (active : ℕ → Bool) (es : List FanoutEntry) (e : FanoutEntry) (joining : List ModuleId) → 0 < e.event → active e.module ≡ false → AreHearing active es joining →
    AreHearing active (es ++ e ∷ []) (joining ++ record { 0 = e.module } ∷ [])
hearing_more active es e joining some asleep are m = (there, here)
  where
    there : Contains (joining ++ named e.module ∷ []) (named m) → (active m ≡ false) × (0 < events_for m (es ++ e ∷ []))
    there found = elim (Contains-push_cases joining (named e.module) (named m) found) as (λ _. (active m ≡ false) × (0 < events_for m (es ++ e ∷ []))) [
      | inl was ↦ let before = (are m).0 was in let sum = events_push m es e in (before.0, let more = before.1 in omega (arith, sum, more))
      | inr is ↦
          let own : e.module ≡ m = ap (λ (id : ModuleId). id.0) is in
          let sum = events_push m es e in
          let one = event_own m e own in
          (subst (λ k. active k ≡ false) own asleep, omega (arith, sum, one, some))
    ]

    here : (active m ≡ false) × (0 < events_for m (es ++ e ∷ [])) → Contains (joining ++ named e.module ∷ []) (named m)
    here hears = elim (cases_lt 0 (events_for m es)) as (λ _. Contains (joining ++ named e.module ∷ []) (named m)) [
      | inl before ↦ Contains-append_left joining (named e.module ∷ []) (named m) ((are m).1 (hears.0, before))
      | inr none ↦
          let sum = events_push m es e in
          let more = hears.1 in
          let own = event_of m e (omega (arith, sum, more, none)) in
          subst (λ k. Contains (joining ++ named e.module ∷ []) (named k)) own (Contains-push joining (named e.module))
    ]

-- one entry more is gone through
pub hearing_next : (active : ℕ → Bool) (before entries : List FanoutEntry) (i : ℕ) (d : FanoutEntry) (joining new : List ModuleId) → i < length entries → AreHearing active (before ++ take i entries) joining →
    ((es : List FanoutEntry) → AreHearing active es joining → AreHearing active (es ++ slice_index_or entries i d ∷ []) new) → AreHearing active (before ++ take (i + 1) entries) new
hearing_next active before entries i d joining new within are step =
    subst (λ (es : List FanoutEntry). AreHearing active es new)
    (append_assoc before (take i entries) (slice_index_or entries i d ∷ []) ∙ ap (λ (es : List FanoutEntry). before ++ es) (sym (take_more entries i d within)))
    (step (before ++ take i entries) are)
