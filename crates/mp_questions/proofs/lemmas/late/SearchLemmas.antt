-- What is still to be looked at.
use Rattle.std.proofs.Common.{◌≡◌, ℕ, ◌+◌, ◌-◌, ◌/◌, ◌%◌, ◌<◌, ◌≤◌, ◌^◌, ◌==◌, ◌||◌, ◌&&◌, Bool, true, false, cond, List, [], ◌∷◌, ◌++◌, length, get_or, take, max, All, Option, Some, None, option_map, IfSome, nat_lt, zero, suc, refl, ap, sym, subst, ◌∙◌, arith}
use Rattle.std.specs.List.{list_any, cons_option, filter_map}
use Rattle.std.specs.BTreeSet.{insert_key}
use Rattle.std.specs.Ordering.{nat_cmp, match_ordering}
use Rattle.std.specs.declared.cmp.Ordering.TheVariants.{Less, Equal, Greater}
use Rattle.std.proofs.lemmas.Bool.{eqb-true, eq-eqb, ltb-true}
use Rattle.std.proofs.lemmas.Option.{same_Some}
use Rattle.std.proofs.lemmas.List.{take_more}
use Rattle.std.proofs.lemmas.List.Elements.{filter_map-append}
use Rattle.std.proofs.lemmas.List.Folds.{list_any-append}
use Rattle.std.proofs.lemmas.Map.Views.{All-insert_key}
use Rattle.mp_modules.specs.declared.kind.Kind.{Kind}
use Rattle.mp_records.specs.declared.ids.WireId.{WireId}
use Rattle.mp_records.specs.declared.ports.Input.{Input}
use Rattle.mp_netlist.specs.Circuit.{Circuit, IsCircuit}
use Rattle.mp_model.specs.Waves.{level}
use Rattle.mp_questions.specs.declared.causes.wire_change.WireChange.{WireChange}
use Rattle.mp_questions.specs.causes.Changes.{change_at, last_change}
use Rattle.mp_questions.specs.timing.Events.{last_event}
use Rattle.mp_questions.specs.causes.Causes.{DrivingPort, Cause, Start, Events, driving_port, hears, event_at, events_at, cause_by, cause_of}
use Rattle.mp_questions.specs.late.Sources.{has_memory, sources, sources_by}
use Rattle.mp_questions.specs.late.Lateness.{is_outside, is_excused}
use Rattle.mp_questions.specs.late.Searching.{wire_numbers, key, change_by, any_excused, source_at, from_on, with_key}
use Rattle.mp_questions.proofs.lemmas.late.SourceLemmas.{excused_step, early_unexcused, source_before}
use Rattle.mp_questions.proofs.lemmas.late.LastLemmas.{change_time}

-- ---- choices

or_again : (a b : Bool) → (a || b) ≡ (a || (a || b))
or_again true b = refl
or_again false b = refl

or_swap : (a b c : Bool) → (a || (b || c)) ≡ (b || (a || c))
or_swap true true c = refl
or_swap true false c = refl
or_swap false b c = refl

pub or_false : (a : Bool) → (a || false) ≡ a
or_false true = refl
or_false false = refl

pub or_true : (a : Bool) → (a || true) ≡ true
or_true true = refl
or_true false = refl

pub and_false : (a : Bool) → (a && false) ≡ false
and_false true = refl
and_false false = refl

pub or_later : (a b c : Bool) → ((a || b) || c) ≡ (a || (b || c))
or_later true b c = refl
or_later false b c = refl

pub or_comm : (a b : Bool) → (a || b) ≡ (b || a)
or_comm true true = refl
or_comm true false = refl
or_comm false true = refl
or_comm false false = refl

-- ---- keys in order

-- one of the keys passes a test, after one was inserted
pub any_insert : (p : ℕ → Bool) (ks : List ℕ) (k : ℕ) → list_any p (insert_key nat_cmp ks k) ≡ (p k || list_any p ks)
any_insert p [] k = refl
any_insert p (x ∷ xs) k = by (any_insert p xs k) (nat_lt k x) (k == x) (eqb-true k x)
  where
    by : list_any p (insert_key nat_cmp xs k) ≡ (p k || list_any p xs) → (less same : Bool) → (same ≡ true → k ≡ x) → list_any p (match_ordering (cond less Less (cond same Equal Greater)) (k ∷ x ∷ xs) (x ∷ xs) (x ∷ insert_key nat_cmp xs k)) ≡ (p k || (p x || list_any p xs))
    by rest true same is = refl
    by rest false true is = or_again (p x) (list_any p xs) ∙ ap (λ y. p y || (p x || list_any p xs)) (sym (is refl))
    by rest false false is = ap (λ b. p x || b) rest ∙ or_swap (p x) (p k) (list_any p xs)

pub any_last : (p : ℕ → Bool) (ks : List ℕ) (k : ℕ) → list_any p (ks ++ k ∷ []) ≡ (p k || list_any p ks)
any_last p ks k = list_any-append p ks (k ∷ []) ∙ ap (λ b. list_any p ks || b) (or_false (p k)) ∙ or_comm (list_any p ks) (p k)

pub less_is : (a b : ℕ) → nat_cmp a b ≡ Less → a < b
less_is a b e = by (nat_lt a b) (ltb-true a b) e
  where
    other : (same : Bool) → cond same Equal Greater ≡ Less → ⊥
    other true x = cc
    other false x = cc

    by : (less : Bool) → (less ≡ true → a < b) → cond less Less (cond (a == b) Equal Greater) ≡ Less → a < b
    by true is x = is refl
    by false is x = absurd (other (a == b) x)

-- a number that is above all of them
abbrev pub above : List ℕ → ℕ
above [] = 0
above (k ∷ ks) = max (k + 1) (above ks)

pub above_within : (end : ℕ) (ks : List ℕ) → All (λ k. k < end) ks → above ks ≤ end
above_within end [] below = omega arith
above_within end (k ∷ ks) below = let first : k < end = below 0 k (omega arith) in let rest = above_within end ks (λ i d within. below (suc i) d (omega (arith, within))) in omega (arith, first, rest)

pub above_last : (ks : List ℕ) (k : ℕ) → k < above (ks ++ k ∷ [])
above_last [] k = omega arith
above_last (x ∷ xs) k = let rest = above_last xs k in omega (arith, rest)

pub last_below : (end : ℕ) (ks : List ℕ) (k : ℕ) → All (λ q. q < end) (ks ++ k ∷ []) → k < end
last_below end [] k all = all 0 k (omega arith)
last_below end (x ∷ xs) k all = last_below end xs k (λ i d within. all (suc i) d (omega (arith, within)))

-- ---- changes by number

pub key_time : (t w : ℕ) → w < 2 ^ 32 → key t w / wire_numbers ≡ t
key_time t w low = omega arith

pub key_wire : (t w : ℕ) → w < 2 ^ 32 → key t w % wire_numbers ≡ w
key_wire t w low = omega arith

-- the level of a change doesn't matter
pub excused_level : (n : Circuit) → IsCircuit n → (w r : ℕ) (c : WireChange) → is_excused n w r (change_at n c.wire c.time) ≡ is_excused n w r c
excused_level n ok w r c = excused_step n ok w r (change_at n c.wire c.time) ∙ sym (excused_step n ok w r c)

pub excused_key : (n : Circuit) → IsCircuit n → (w r t : ℕ) (wire : WireId) → wire.0 < 2 ^ 32 → is_excused n w r (change_by n (key t wire.0)) ≡ is_excused n w r (change_at n wire t)
excused_key n ok w r t wire low =
    let a : key t wire.0 / wire_numbers ≡ t = key_time t wire.0 low in
    let b : key t wire.0 % wire_numbers ≡ wire.0 = key_wire t wire.0 low in
    ap (λ x. is_excused n w r (change_at n (record { 0 = x }) (key t wire.0 / wire_numbers))) b ∙ ap (λ x. is_excused n w r (change_at n wire x)) a

-- ---- whether a change is an excuse

module _ (n : Circuit) (ok : IsCircuit n) (w r : ℕ) (wire : WireId) (t : ℕ) where
  abbrev change : WireChange
  change = change_at n wire t

  -- the request itself
  pub is_request : wire.0 ≡ w → t ≡ r → is_excused n w r change ≡ true
  is_request same at =
      let a : (wire.0 == w) ≡ true = eq-eqb wire.0 w same in
      let b : (t == r) ≡ true = eq-eqb t r at in
      excused_step n ok w r change
      ∙ ap (λ x. ((x && t == r) || (nat_lt r t && is_outside (cause_of n change))) || list_any (is_excused n w r) (sources n change)) a
      ∙ ap (λ x. (x || (nat_lt r t && is_outside (cause_of n change))) || list_any (is_excused n w r) (sources n change)) b

  module _ (other : (wire.0 == w && t == r) ≡ false) where
    by_cause : (cause : Cause) → cause_of n change ≡ cause → is_excused n w r change ≡ ((nat_lt r t && is_outside cause) || list_any (is_excused n w r) (sources_by n t cause))
    by_cause cause is =
        excused_step n ok w r change ∙ ap (λ x. (x || (nat_lt r t && is_outside (cause_of n change))) || list_any (is_excused n w r) (sources n change)) other
        ∙ ap (λ (c : Cause). (nat_lt r t && is_outside c) || list_any (is_excused n w r) (sources_by n t c)) is

    -- it comes from a port
    pub from_port : (g : DrivingPort) → driving_port n wire.0 ≡ Some g → is_excused n w r change ≡ list_any (is_excused n w r) (sources_by n t (cause_by n t (Some g)))
    from_port g at = by_cause (cause_by n t (Some g)) (ap (cause_by n t) at) ∙ ap (λ b. (nat_lt r t && b) || list_any (is_excused n w r) (sources_by n t (cause_by n t (Some g)))) (inside (t == g.delay)) ∙ by (nat_lt r t)
      where
        inside : (b : Bool) → is_outside (cond b (Start g) (Events g (events_at n (t - g.delay) g.part.inputs))) ≡ false
        inside true = refl
        inside false = refl

        by : (b : Bool) → ((b && false) || list_any (is_excused n w r) (sources_by n t (cause_by n t (Some g)))) ≡ list_any (is_excused n w r) (sources_by n t (cause_by n t (Some g)))
        by true = refl
        by false = refl

-- ---- one change more to look at

abbrev some_of : Option WireChange → List WireChange
some_of o = cons_option o []

-- a source at an input is a change of its wire
pub source_wire : (n : Circuit) (kind : Kind) (u : ℕ) (i : Input) (c : WireChange) → source_at n kind u i ≡ Some c → c.wire ≡ i.wire
source_wire n kind u i c is = by (has_memory kind) is
  where
    last : (o : Option ℕ) → option_map (change_at n i.wire) o ≡ Some c → c.wire ≡ i.wire
    last None e = let never : ⊥ = cc in absurd never
    last (Some t) e = sym (ap (λ (x : WireChange). x.wire) (same_Some (change_at n i.wire t) c e))

    heard : (b : Bool) → cond b (Some (event_at n u i).change) None ≡ Some c → c.wire ≡ i.wire
    heard true e = sym (ap (λ (x : WireChange). x.wire) (same_Some (event_at n u i).change c e))
    heard false e = let never : ⊥ = cc in absurd never

    by : (b : Bool) → cond b (last_change n i.wire (u - i.delay)) (cond (hears n u i) (Some (event_at n u i).change) None) ≡ Some c → c.wire ≡ i.wire
    by true e = last (last_event (level n i.wire.0) (u - i.delay)) e
    by false e = heard (hears n u i) e

-- a time that isn't before another is kept
from_on_time : (r t : ℕ) → Some r ≡ from_on r (Some t) → t ≡ r
from_on_time r t is = by (nat_lt t r) is
  where
    by : (b : Bool) → Some r ≡ cond b None (Some t) → t ≡ r
    by true e = let never : ⊥ = cc in absurd never
    by false e = sym (same_Some r t e)

module _ (n : Circuit) (ok : IsCircuit n) (w r : ℕ) where
  abbrev any : List ℕ → Bool
  any keys = any_excused n w r keys

  pub pushed : (keys : List ℕ) (wire : WireId) (o : Option WireChange) (found : Option ℕ) → wire.0 < 2 ^ 32 → found ≡ from_on r (change_time o) → ((c : WireChange) → o ≡ Some c → c.wire ≡ wire)
      → any (with_key keys wire.0 found) ≡ (any keys || list_any (is_excused n w r) (some_of o))
  pushed keys wire None found low is same = ap (λ f. any (with_key keys wire.0 f)) is ∙ sym (or_false (any keys))
  pushed keys wire (Some c) found low is same = ap (λ f. any (with_key keys wire.0 f)) is ∙ by (nat_lt c.time r) refl
    where
      at : is_excused n w r (change_at n wire c.time) ≡ is_excused n w r c
      at = ap (λ v. is_excused n w r (change_at n v c.time)) (sym (same c refl)) ∙ excused_level n ok w r c

      by : (early : Bool) → nat_lt c.time r ≡ early → any (with_key keys wire.0 (cond early None (Some c.time))) ≡ (any keys || (is_excused n w r c || false))
      by true early =
          sym (or_false (any keys)) ∙ ap (λ b. any keys || (b || false)) (sym (early_unexcused n ok w r c (ltb-true c.time r early)))
      by false late =
          any_insert (λ k. is_excused n w r (change_by n k)) keys (key c.time wire.0)
          ∙ ap (λ b. b || any keys) (excused_key n ok w r c.time wire low ∙ at) ∙ or_comm (is_excused n w r c) (any keys) ∙ ap (λ b. any keys || b) (sym (or_false (is_excused n w r c)))

  -- the inputs one after the other
  pub input_more : (kind : Kind) (u i : ℕ) (inputs : List Input) (input : Input) (old now new : Bool) → i < length inputs → input ≡ get_or inputs i input
      → now ≡ (old || list_any (is_excused n w r) (filter_map (source_at n kind u) (take i inputs)))
      → new ≡ (now || list_any (is_excused n w r) (some_of (source_at n kind u input)))
      → new ≡ (old || list_any (is_excused n w r) (filter_map (source_at n kind u) (take (i + 1) inputs)))
  input_more kind u i inputs input old now new within at so more =
      let excused = is_excused n w r in
      let source = source_at n kind u in
      let upto = filter_map source (take i inputs) in
      more ∙ ap (λ b. b || list_any excused (some_of (source input))) so
      ∙ or_later old (list_any excused upto) (list_any excused (some_of (source input)))
      ∙ ap (λ b. old || b) (sym (list_any-append excused upto (some_of (source input)))
      ∙ ap (λ j. list_any excused (upto ++ some_of (source j))) at
      ∙ sym (ap (list_any excused) (ap (filter_map source) (take_more inputs i input within) ∙ filter_map-append source (take i inputs) (get_or inputs i input ∷ []))))

  any_behind : (o : Option WireChange) (cs : List WireChange) → list_any (is_excused n w r) cs ≡ true → list_any (is_excused n w r) (cons_option o cs) ≡ true
  any_behind None cs some = some
  any_behind (Some c) cs some = ap (λ b. is_excused n w r c || b) some ∙ or_true (is_excused n w r c)

  -- where one of them is the request, there is an excuse
  pub request_among : (kind : Kind) (u k : ℕ) (inputs : List Input) (d : Input) → k < length inputs → (get_or inputs k d).wire.0 ≡ w → Some r ≡ from_on r (change_time (source_at n kind u (get_or inputs k d)))
      → list_any (is_excused n w r) (filter_map (source_at n kind u) inputs) ≡ true
  request_among kind u k [] d within same is = absurd (omega (arith, within))
  request_among kind u (suc k) (i ∷ is) d within same at =
      any_behind (source_at n kind u i) (filter_map (source_at n kind u) is) (request_among kind u k is d (omega (arith, within)) same at)
  request_among kind u zero (i ∷ is) d within same at = by (source_at n kind u i) refl at
    where
      by : (o : Option WireChange) → source_at n kind u i ≡ o → Some r ≡ from_on r (change_time o) → list_any (is_excused n w r) (cons_option o (filter_map (source_at n kind u) is)) ≡ true
      by None none e = let never : ⊥ = cc in absurd never
      by (Some c) some e =
          let time = from_on_time r c.time e in
          let here = ap (λ (v : WireId). v.0) (source_wire n kind u i c some) ∙ same in
          ap (λ b. b || list_any (is_excused n w r) (filter_map (source_at n kind u) is)) (sym (excused_level n ok w r c) ∙ is_request n ok w r c.wire c.time here time)

-- they come before
pub pushed_below : (keys : List ℕ) (w t end : ℕ) (found : Option ℕ) → w < 2 ^ 32 → key t 0 ≤ end → IfSome found (λ u. u < t) → All (λ k. k < end) keys → All (λ k. k < end) (with_key keys w found)
pushed_below keys w t end None low bound less all = all
pushed_below keys w t end (Some u) low bound less all = All-insert_key nat_cmp (key u w) (λ k. k < end) keys all (omega (arith, low, bound, less))

-- what a source from a time on is
pub source_time : (n : Circuit) → IsCircuit n → (kind : Kind) (t d r : ℕ) (i : Input) (found : Option ℕ) → 0 < d → found ≡ from_on r (change_time (source_at n kind (t - d) i)) → IfSome found (λ u. u < t)
source_time n ok kind t d r i found some is = by (source_at n kind (t - d) i) refl is
  where
    kept : (b : Bool) (c : WireChange) → c.time < t → found ≡ cond b None (Some c.time) → IfSome found (λ u. u < t)
    kept true c less e = let P : Option ℕ → Type 0 = (λ o. IfSome o (λ u. u < t)) in subst P (sym e) tt
    kept false c less e = let P : Option ℕ → Type 0 = (λ o. IfSome o (λ u. u < t)) in subst P (sym e) less

    by : (o : Option WireChange) → source_at n kind (t - d) i ≡ o → found ≡ from_on r (change_time o) → IfSome found (λ u. u < t)
    by None at e = let P : Option ℕ → Type 0 = (λ o. IfSome o (λ u. u < t)) in subst P (sym e) tt
    by (Some c) at e = kept (nat_lt c.time r) c (source_before n ok kind t d i c some at).1 e
