-- Events are added, one after the other.
use Rattle.std.proofs.Common.{◌≡◌, ◌≢◌, ℕ, ◌+◌, ◌%◌, ◌<◌, Bool, true, false, cond, List, [], ◌∷◌, ◌++◌, length, refl, sym, ap, ◌∙◌, arith, eq-eqb, get_or-set_same, get_or-set_other, subst}
use Rattle.std.specs.Prelude.{◌==◌, slice_set, slice_index_or}
use Rattle.std.proofs.lemmas.Bool.{eqb-true, eqb-false}
use Rattle.std.proofs.lemmas.List.{get_or_default, get_or_append_left, get_or-append-add, length-append}
use Rattle.std.proofs.lemmas.List.Sums.{sum_by-append}
use Rattle.mp_modules.specs.declared.automata.automaton_state.AutomatonState.{AutomatonState}
use Rattle.mp_kernel.specs.declared.events.fanout_entry.FanoutEntry.{FanoutEntry}
use Rattle.mp_kernel.specs.events.Adding.{state_at, event_for, events_for, AreAdded, listed, IsAdding}

some_in : (l : FanoutEntry) (rest : List FanoutEntry) → 0 < length (l ∷ rest)
some_in l rest = omega arith

pub placed_head : {states : List AutomatonState} {due : List ℕ} {l : FanoutEntry} {rest : List FanoutEntry} → IsAdding states due (l ∷ rest) → l.module < length states
placed_head {l = l} {rest = rest} h = h.placed 0 l (some_in l rest)

event_head : {states : List AutomatonState} {due : List ℕ} {l : FanoutEntry} {rest : List FanoutEntry} → IsAdding states due (l ∷ rest) → 0 < l.event
event_head {l = l} {rest = rest} h = h.events 0 l (some_in l rest)

pub added_one : (m : ℕ) (l : FanoutEntry) → events_for m (l ∷ []) ≡ event_for m l
added_one m l = omega arith

at_set : (states : List AutomatonState) (i m : ℕ) (v : AutomatonState) (t : Bool) → i < length states → (i == m) ≡ t →
    state_at (slice_set states i v) m ≡ cond t v.0 (state_at states m)
at_set states i m v true within is =
    let same : i ≡ m = eqb-true i m is in
    subst (λ k. state_at (slice_set states i v) k ≡ v.0) same (ap (λ (s : AutomatonState). s.0) (get_or-set_same states i v (record { 0 = 0 }) within))
at_set states i m v false within is =
    let other : m ≢ i = λ e. eqb-false i m is (sym e) in
    ap (λ (s : AutomatonState). s.0) (get_or-set_other states i m v (record { 0 = 0 }) other)

-- a number within its sixteen
pub rises : (s e : ℕ) → s < 2112 → s % 16 + e < 16 → s + e < 2112
rises s e low room = omega arith

pub rest_of : (s e : ℕ) → s % 16 + e < 16 → (s + e) % 16 ≡ s % 16 + e
rest_of s e room = omega arith

-- one event more, at the entry's module
pub record AddsOne (states new : List AutomatonState) (l : FanoutEntry) : Type 0 where
  pub is : new ≡ slice_set states l.module (record { 0 = state_at states l.module + l.event })

listed_more : (m x : ℕ) (due : List ℕ) → listed m (due ++ x ∷ []) ≡ listed m due + cond (x == m) 1 0
listed_more m x due = sum_by-append _ due (x ∷ []) ∙ omega arith

now_at : (states new : List AutomatonState) (l : FanoutEntry) (m : ℕ) (t : Bool) → AddsOne states new l → l.module < length states → (l.module == m) ≡ t →
    state_at new m ≡ state_at states m + cond t l.event 0
now_at states new l m true h within is =
    let same : l.module ≡ m = eqb-true l.module m is in
    ap (λ xs. state_at xs m) h.is ∙ at_set states l.module m _ true within is ∙ ap (λ k. state_at states k + l.event) same
now_at states new l m false h within is =
    ap (λ xs. state_at xs m) h.is ∙ at_set states l.module m _ false within is ∙ omega arith

step_low : (s x d : ℕ) → x ≡ s + d → s % 16 + d < 16 → s < 2112 → x < 2112
step_low s x d is room low = omega arith

step_room : (x : ℕ) → x % 16 + 0 < 16
step_room x = omega arith

first_once : (s x e n : ℕ) → x ≡ s + e → 0 < e → e < 16 → s % 16 ≡ 0 → n ≡ cond (s % 16 == 0) 0 1 → n + 1 ≡ cond (x % 16 == 0) 0 1
first_once s x e n is some room none once =
    let was : (s % 16 == 0) ≡ true = eq-eqb _ _ none in
    let now : (x % 16 == 0) ≡ false = grind arith in
    let none_yet : n ≡ 0 = once ∙ ap (λ b. cond b 0 1) was in
    rw now (omega arith)

-- what the entry adds to the module m
abbrev share : Bool → FanoutEntry → ℕ
share mine l = cond mine l.event 0

room_of : (states : List AutomatonState) (l : FanoutEntry) (m : ℕ) (t : Bool) → (l.module == m) ≡ t →
    state_at states m % 16 + events_for m (l ∷ []) < 16 → state_at states m % 16 + share t l < 16
room_of states l m t is room =
    let one : events_for m (l ∷ []) ≡ share t l = added_one m l ∙ ap (λ b. cond b l.event 0) is in omega arith

once_at : (states new : List AutomatonState) (due : List ℕ) (l : FanoutEntry) (m : ℕ) (t : Bool) → IsAdding states due (l ∷ []) → AddsOne states new l →
    state_at states l.module % 16 ≡ 0 → (l.module == m) ≡ t → listed m (due ++ l.module ∷ []) ≡ cond (state_at new m % 16 == 0) 0 1
once_at states new due l m true h is first mine =
    let same : l.module ≡ m = eqb-true l.module m mine in
    let here : state_at states m % 16 ≡ 0 = subst (λ k. state_at states k % 16 ≡ 0) same first in
    let room = room_of states l m true mine (h.room m) in
    listed_more m l.module due ∙ ap (λ b. listed m due + cond b 1 0) mine ∙
    first_once (state_at states m) (state_at new m) l.event (listed m due) (now_at states new l m true is (placed_head h) mine) (event_head h) (omega arith) here (h.once m)
once_at states new due l m false h is first other =
    let same : state_at new m ≡ state_at states m = now_at states new l m false is (placed_head h) other ∙ omega arith in
    listed_more m l.module due ∙ ap (λ b. listed m due + cond b 1 0) other ∙ (let same_count : listed m due + 0 ≡ listed m due = omega arith in same_count) ∙
    h.once m ∙ ap (λ s. cond (s % 16 == 0) 0 1) (sym same)

pub added_first : (states new : List AutomatonState) (due : List ℕ) (l : FanoutEntry) → IsAdding states due (l ∷ []) → AddsOne states new l →
    state_at states l.module % 16 ≡ 0 → IsAdding new (due ++ l.module ∷ []) []
added_first states new due l h is first = record {
  placed = λ k d none. absurd (omega arith);
  events = λ k d none. absurd (omega arith);
  low = λ m. step_low (state_at states m) (state_at new m) (share (l.module == m) l) (now_at states new l m (l.module == m) is (placed_head h) refl)
      (room_of states l m (l.module == m) refl (h.room m)) (h.low m);
  room = λ m. step_room (state_at new m);
  once = λ m. once_at states new due l m (l.module == m) h is first refl;
}

-- an element, whatever stands for none
pub found : (states : List AutomatonState) (i : ℕ) (s : AutomatonState) → i < length states → s ≡ slice_index_or states i s → s.0 ≡ state_at states i
found states i s within is = ap (λ (k : AutomatonState). k.0) (is ∙ get_or_default states i s (record { 0 = 0 }) within)

-- what `add_event` makes of the entry's module
pub adds : (states : List AutomatonState) (l : FanoutEntry) (s new : AutomatonState) → l.module < length states → s ≡ slice_index_or states l.module s →
    new.0 ≡ s.0 + l.event → AddsOne states (slice_set states l.module new) l
adds states l s new within is added =
    let sum : new.0 ≡ state_at states l.module + l.event = added ∙ ap (λ k. k + l.event) (found states l.module s within is) in
    record { is = ap (λ (k : ℕ). slice_set states l.module (let state : AutomatonState = record { 0 = k } in state)) sum }

pub fits : (states : List AutomatonState) (due : List ℕ) (l : FanoutEntry) (s : AutomatonState) → IsAdding states due (l ∷ []) → s ≡ slice_index_or states l.module s →
    s.0 + l.event < 2112
fits states due l s h is =
    let here = found states l.module s (placed_head h) is in
    let room = room_of states l l.module true (eq-eqb l.module l.module refl) (h.room l.module) in
    let low = h.low l.module in
    omega arith

pub added_append : (m : ℕ) (xs ys : List FanoutEntry) → events_for m (xs ++ ys) ≡ events_for m xs + events_for m ys
added_append m xs ys = sum_by-append (event_for m) xs ys

-- one list after the other
pub added_both : {states now new : List AutomatonState} (xs ys : List FanoutEntry) → AreAdded states now xs → AreAdded now new ys → AreAdded states new (xs ++ ys)
added_both xs ys before then = record {
  each = λ m. let b = before.each m in let t = then.each m in let e = added_append m xs ys in omega arith;
}

in_front : (xs ys : List FanoutEntry) (k : ℕ) → k < length xs → k < length (xs ++ ys)
in_front xs ys k within = let e = length-append xs ys in omega arith

behind : (xs ys : List FanoutEntry) (k : ℕ) → k < length ys → length xs + k < length (xs ++ ys)
behind xs ys k within = let e = length-append xs ys in omega arith

next_room : (s x d r : ℕ) → x ≡ s + d → s % 16 + (d + r) < 16 → x % 16 + r < 16
next_room s x d r is room = omega arith

pub front : (states : List AutomatonState) (due : List ℕ) (xs ys : List FanoutEntry) → IsAdding states due (xs ++ ys) → IsAdding states due xs
front states due xs ys h = record {
  placed = λ k d within. subst (λ (x : FanoutEntry). x.module < length states) (get_or_append_left xs ys d k within) (h.placed k d (in_front xs ys k within));
  events = λ k d within. subst (λ (x : FanoutEntry). 0 < x.event) (get_or_append_left xs ys d k within) (h.events k d (in_front xs ys k within));
  low = h.low;
  room = λ m. let r = h.room m in let e = added_append m xs ys in omega arith;
  once = h.once;
}

pub back : (states new : List AutomatonState) (due new_due : List ℕ) (xs ys : List FanoutEntry) → IsAdding states due (xs ++ ys) → AreAdded states new xs →
    IsAdding new new_due [] → length new ≡ length states → IsAdding new new_due ys
back states new due new_due xs ys h added is same = record {
  placed = λ k d within. rw same (subst (λ (x : FanoutEntry). x.module < length states) (get_or-append-add xs ys k d) (h.placed (length xs + k) d (behind xs ys k within)));
  events = λ k d within. subst (λ (x : FanoutEntry). 0 < x.event) (get_or-append-add xs ys k d) (h.events (length xs + k) d (behind xs ys k within));
  low = is.low;
  room = λ m. next_room (state_at states m) (state_at new m) (events_for m xs) (events_for m ys) (added.each m)
      (let r = h.room m in let e = added_append m xs ys in omega arith);
  once = is.once;
}
