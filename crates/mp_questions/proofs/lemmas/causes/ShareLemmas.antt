-- The shares of a chain, step by step, and what they add up to.
use Rattle.std.proofs.Common.{◌≡◌, ℕ, ◌+◌, ◌*◌, ◌-◌, ◌<◌, ◌≤◌, ◌^◌, ◌==◌, Bool, true, false, not, cond, List, [], ◌∷◌, length, drop, get_or, add-one, drop-cons, map, filter, nat_lt, Option, Some, None, zero, suc, refl, ap, sym, subst, ◌∙◌, arith, inl, inr, zero-add}
use Rattle.std.specs.List.{sum_by, range_with_len}
use Rattle.std.proofs.lemmas.Bool.{cases_eq, eq-eqb, ne_eqb, ltb-false}
use Rattle.std.proofs.lemmas.List.{same_lists}
use Rattle.std.proofs.lemmas.List.Filters.{length-filter_both, sum_by-filter_both}
use Rattle.std.proofs.lemmas.List.FromFn.{length-map-range_with_len, get_or-map-range_with_len}
use Rattle.std.proofs.lemmas.List.Sums.{sum_by-cons}
use Rattle.std.proofs.lemmas.Option.{same_Some}
use Rattle.mp_netlist.specs.Circuit.{Circuit, IsCircuit}
use Rattle.mp_model.proofs.SlotLemmas.{slot_within}
use Rattle.mp_questions.specs.declared.causes.wire_change.WireChange.{WireChange}
use Rattle.mp_questions.specs.declared.causes.module_share.ModuleShare.{ModuleShare}
use Rattle.mp_questions.specs.timing.Ranges.{read_time}
use Rattle.mp_questions.specs.causes.Causes.{DrivingPort, Cause, Outside, Start, Events, driving_port, events_at, cause_by, cause_of, followed, port_of}
use Rattle.mp_questions.specs.causes.Chains.{chain_from, chain, begin_by, begin_of}
use Rattle.mp_questions.specs.causes.Shares.{time_of, units_of, is_port_of, is_step_in, steps_in, share, shares, has_steps, by_units}
use Rattle.mp_questions.specs.causes.Noting.{HasRoom, noted}
use Rattle.mp_questions.specs.causes.Paths.{path}
use Rattle.mp_questions.specs.causes.Laws.{AddsUp}
use Rattle.mp_questions.proofs.lemmas.causes.ChainLemmas.{HasTime, followed_time, last_change_is, chain_is, IsPortOf, port_is}
use Rattle.mp_questions.proofs.lemmas.causes.OrderLemmas.{sum_by_units}

-- ---- how long and how many steps there are

-- the units of all steps come to the time at most
pub units_bound : (n : Circuit) → IsCircuit n → (k : ℕ) (next : Option WireChange) → HasTime next → sum_by (units_of n) (chain_from n k next) ≤ time_of next
units_bound n ok zero next has = omega arith
units_bound n ok (suc k) None has = omega arith
units_bound n ok (suc k) (Some c) has =
    let next = followed (cause_of n c) in
    let f = followed_time n ok c has next refl in
    omega (arith, sum_by-cons (units_of n) c (chain_from n k next), units_bound n ok k next f.0, f.1)

pub steps_bound : (n : Circuit) → IsCircuit n → (k : ℕ) (next : Option WireChange) → HasTime next → length (chain_from n k next) ≤ time_of next
steps_bound n ok zero next has = omega arith
steps_bound n ok (suc k) None has = omega arith
steps_bound n ok (suc k) (Some c) has =
    let next = followed (cause_of n c) in
    let f = followed_time n ok c has next refl in
    omega (arith, steps_bound n ok k next f.0, f.1)

-- those in one module too
pub units_in : (n : Circuit) (m : ℕ) (changes : List WireChange) → sum_by (units_of n) (steps_in n m changes) ≤ sum_by (units_of n) changes
units_in n m changes = omega (arith, sum_by-filter_both (is_step_in n m) (λ c. not (is_step_in n m c)) (λ c. refl) (units_of n) changes)

pub steps_few : (n : Circuit) (m : ℕ) (changes : List WireChange) → length (steps_in n m changes) ≤ length changes
steps_few n m changes = omega (arith, length-filter_both (is_step_in n m) (λ c. not (is_step_in n m c)) (λ c. refl) changes)

-- ---- a step more

-- what is noted of a module, and what its steps are that come yet, make up its share
pub record IsShareOf (n : Circuit) (all left : List WireChange) (m : ℕ) (s : ModuleShare) : Type 0 where
  pub id : s.id.0 ≡ m
  pub units : s.units + sum_by (units_of n) (steps_in n m left) ≡ sum_by (units_of n) (steps_in n m all)
  pub steps : s.steps + length (steps_in n m left) ≡ length (steps_in n m all)

-- a step is noted of its module, and leaves the others
pub noted_more : (n : Circuit) (all left : List WireChange) (c : WireChange) (m : ℕ) (s : ModuleShare) → IsShareOf n all (c ∷ left) m s → IsShareOf n all left m (noted (is_step_in n m c) (units_of n c) s)
noted_more n all left c m s of = by (is_step_in n m c) refl
  where
    by : (b : Bool) → is_step_in n m c ≡ b → IsShareOf n all left m (noted b (units_of n c) s)
    by true is =
        let first : steps_in n m (c ∷ left) ≡ c ∷ steps_in n m left = rw is refl in
        let u : sum_by (units_of n) (steps_in n m (c ∷ left)) ≡ units_of n c + sum_by (units_of n) (steps_in n m left) = ap (sum_by (units_of n)) first ∙ sum_by-cons (units_of n) c (steps_in n m left) in
        let k : length (steps_in n m (c ∷ left)) ≡ suc (length (steps_in n m left)) = ap length first in
        record { id = of.id; units = omega (arith, of.units, u); steps = omega (arith, of.steps, k) }
    by false is =
        let none : steps_in n m (c ∷ left) ≡ steps_in n m left = rw is refl in
        record { id = of.id; units = ap (λ cs. s.units + sum_by (units_of n) cs) (sym none) ∙ of.units; steps = ap (λ cs. s.steps + length cs) (sym none) ∙ of.steps }

-- when all is noted, these are the shares
pub shares_are : (n : Circuit) (all : List WireChange) (list : List ModuleShare) → length list ≡ length n.modules
    → ((m : ℕ) (d : ModuleShare) → m < length n.modules → IsShareOf n all [] m (get_or list m d)) → list ≡ shares n all
shares_are n all list long each =
    same_lists list (shares n all) (long ∙ sym (length-map-range_with_len (share n all) 0 (length n.modules)))
    (λ k d within. let low : k < length n.modules = omega (arith, within, long) in
    whole k (get_or list k d) (each k d low) ∙ sym (get_or-map-range_with_len (share n all) 0 (length n.modules) k k d low (zero-add k)))
  where
    whole : (m : ℕ) (s : ModuleShare) → IsShareOf n all [] m s → s ≡ share n all m
    whole m s of =
        let a : s.units ≡ sum_by (units_of n) (steps_in n m all) = omega (arith, of.units) in
        let b : s.steps ≡ length (steps_in n m all) = omega (arith, of.steps) in
        ap (λ k. let t : ModuleShare = record { id = record { 0 = k }; units = s.units; steps = s.steps } in t) of.id
        ∙ ap (λ k. let t : ModuleShare = record { id = record { 0 = m }; units = k; steps = s.steps } in t) a
        ∙ ap (λ k. let t : ModuleShare = record { id = record { 0 = m }; units = sum_by (units_of n) (steps_in n m all); steps = k } in t) b

-- ---- they add up

-- the number of the module that a change comes from is one of the netlist's
module_within : (n : Circuit) (c : WireChange) (g : DrivingPort) → port_of (cause_of n c) ≡ Some g → g.id.0 < length n.modules
module_within n c g is = by (driving_port n c.wire.0) refl is
  where
    tested : (h : DrivingPort) → IsPortOf n c.wire.0 h → (b : Bool) → port_of (cond b (Start h) (Events h (events_at n (c.time - h.delay) h.part.inputs))) ≡ Some g → g.id.0 < length n.modules
    tested h of true e = let within = slot_within n.modules h.id.0 h.part of.stands in let same : h.id.0 ≡ g.id.0 = ap (λ (p : DrivingPort). p.id.0) (same_Some h g e) in omega (arith, within, same)
    tested h of false e = let within = slot_within n.modules h.id.0 h.part of.stands in let same : h.id.0 ≡ g.id.0 = ap (λ (p : DrivingPort). p.id.0) (same_Some h g e) in omega (arith, within, same)

    by : (o : Option DrivingPort) → driving_port n c.wire.0 ≡ o → port_of (cause_by n c.time o) ≡ Some g → g.id.0 < length n.modules
    by None at e = cc
    by (Some h) at e = tested h (port_is n c.wire.0 h at) (c.time == h.delay) e

-- how many of these numbers are the module's: one if it is among them
abbrev once : ℕ → ℕ → ℕ → ℕ
once g u m = cond (g == m) u 0

sum_past : (g u a k : ℕ) → g < a → sum_by (once g u) (range_with_len a k) ≡ 0
sum_past g u a zero low = refl
sum_past g u a (suc k) low =
    let no : (g == a) ≡ false = ne_eqb g a (λ e. omega (arith, e, low)) in
    let none : once g u a ≡ 0 = rw no refl in
    omega (arith, sum_by-cons (once g u) a (range_with_len (a + 1) k), none, sum_past g u (a + 1) k (omega (arith, low)))

sum_once : (g u a k : ℕ) → a ≤ g → g < a + k → sum_by (once g u) (range_with_len a k) ≡ u
sum_once g u a zero low high = absurd (omega (arith, low, high))
sum_once g u a (suc k) low high = elim (cases_eq g a) as (λ _. sum_by (once g u) (range_with_len a (suc k)) ≡ u) [
  | inl here ↦
      let is : (g == a) ≡ true = eq-eqb g a here in
      let one : once g u a ≡ u = rw is refl in
      omega (arith, sum_by-cons (once g u) a (range_with_len (a + 1) k), one, sum_past g u (a + 1) k (omega (arith, here)))
  | inr later ↦
      let no : (g == a) ≡ false = ne_eqb g a later in
      let none : once g u a ≡ 0 = rw no refl in
      omega (arith, sum_by-cons (once g u) a (range_with_len (a + 1) k), none, sum_once g u (a + 1) k (omega (arith, low, later)) (omega (arith, high)))
]

-- the units of a change that comes from a module
abbrev pub in_port : ℕ → Option DrivingPort → ℕ
in_port u None = 0
in_port u (Some g) = u

-- the same, where units are told of each change
abbrev pub ported : (WireChange → ℕ) → Circuit → WireChange → ℕ
ported u n c = in_port (u c) (port_of (cause_of n c))

abbrev pub units_at : (WireChange → ℕ) → Circuit → List WireChange → ℕ → ℕ
units_at u n changes m = sum_by u (steps_in n m changes)

-- with a change more each module has as much, and that of the change its units more
one_module : (u : WireChange → ℕ) (n : Circuit) (c : WireChange) (changes : List WireChange) (m : ℕ) → units_at u n (c ∷ changes) m ≡ cond (is_step_in n m c) (u c) 0 + units_at u n changes m
one_module u n c changes m = by (is_step_in n m c)
  where
    by : (b : Bool) → sum_by u (cond b (c ∷ steps_in n m changes) (steps_in n m changes)) ≡ cond b (u c) 0 + units_at u n changes m
    by true = sum_by-cons u c (steps_in n m changes)
    by false = omega arith

pub sum_same : (f g : ℕ → ℕ) (a k : ℕ) → ((m : ℕ) → f m ≡ g m) → sum_by f (range_with_len a k) ≡ sum_by g (range_with_len a k)
sum_same f g a zero same = refl
sum_same f g a (suc k) same = omega (arith, sum_by-cons f a (range_with_len (a + 1) k), sum_by-cons g a (range_with_len (a + 1) k), same a, sum_same f g (a + 1) k same)

sum_both : (f g : ℕ → ℕ) (a k : ℕ) → sum_by (λ m. f m + g m) (range_with_len a k) ≡ sum_by f (range_with_len a k) + sum_by g (range_with_len a k)
sum_both f g a zero = refl
sum_both f g a (suc k) =
    omega (arith, sum_by-cons (λ m. f m + g m) a (range_with_len (a + 1) k), sum_by-cons f a (range_with_len (a + 1) k), sum_by-cons g a (range_with_len (a + 1) k), sum_both f g (a + 1) k)

sum_none : (f : ℕ → ℕ) (a k : ℕ) → ((m : ℕ) → f m ≡ 0) → sum_by f (range_with_len a k) ≡ 0
sum_none f a zero none = refl
sum_none f a (suc k) none = omega (arith, sum_by-cons f a (range_with_len (a + 1) k), none a, sum_none f (a + 1) k none)

change_once : (u : WireChange → ℕ) (n : Circuit) (c : WireChange) → sum_by (λ m. cond (is_step_in n m c) (u c) 0) (range_with_len 0 (length n.modules)) ≡ ported u n c
change_once u n c = by (port_of (cause_of n c)) refl
  where
    by : (o : Option DrivingPort) → port_of (cause_of n c) ≡ o → sum_by (λ m. cond (is_port_of m o) (u c) 0) (range_with_len 0 (length n.modules)) ≡ in_port (u c) o
    by None at = sum_none (λ m. 0) 0 (length n.modules) (λ m. refl)
    by (Some g) at = sum_once g.id.0 (u c) 0 (length n.modules) (omega arith) (omega (arith, module_within n c g at))

-- all modules together have the units of all changes that come from a module
pub all_modules : (u : WireChange → ℕ) (n : Circuit) (changes : List WireChange) → sum_by (units_at u n changes) (range_with_len 0 (length n.modules)) ≡ sum_by (ported u n) changes
all_modules u n [] = sum_none (units_at u n []) 0 (length n.modules) (λ m. refl)
all_modules u n (c ∷ changes) =
    let one = λ (m : ℕ). cond (is_step_in n m c) (u c) 0 in
    sum_same (units_at u n (c ∷ changes)) (λ m. one m + units_at u n changes m) 0 (length n.modules) (one_module u n c changes)
    ∙ sum_both one (units_at u n changes) 0 (length n.modules)
    ∙ ap (λ k. k + sum_by (units_at u n changes) (range_with_len 0 (length n.modules))) (change_once u n c)
    ∙ ap (λ k. ported u n c + k) (all_modules u n changes)
    ∙ sym (sum_by-cons (ported u n) c changes)

shares_sum : (n : Circuit) (changes : List WireChange) (a k : ℕ) → sum_by (λ (s : ModuleShare). s.units) (map (share n changes) (range_with_len a k)) ≡ sum_by (units_at (units_of n) n changes) (range_with_len a k)
shares_sum n changes a zero = refl
shares_sum n changes a (suc k) =
    omega (
      arith,
      sum_by-cons (λ (s : ModuleShare). s.units) (share n changes a) (map (share n changes) (range_with_len (a + 1) k)),
      sum_by-cons (units_at (units_of n) n changes) a (range_with_len (a + 1) k),
      shares_sum n changes (a + 1) k,
    )

-- a share without steps has no units
no_units : (n : Circuit) (changes : List WireChange) (m : ℕ) → has_steps (share n changes m) ≡ false → (share n changes m).units ≡ 0
no_units n changes m none = by (steps_in n m changes) none
  where
    by : (cs : List WireChange) → nat_lt 0 (length cs) ≡ false → sum_by (units_of n) cs ≡ 0
    by [] e = refl
    by (c ∷ cs) e = absurd (omega (arith, ltb-false 0 (length (c ∷ cs)) e))

kept_sum : (n : Circuit) (changes : List WireChange) (a k : ℕ) → sum_by (λ (s : ModuleShare). s.units) (filter has_steps (map (share n changes) (range_with_len a k)))
    ≡ sum_by (λ (s : ModuleShare). s.units) (map (share n changes) (range_with_len a k))
kept_sum n changes a zero = refl
kept_sum n changes a (suc k) = by (has_steps (share n changes a)) refl (kept_sum n changes (a + 1) k)
  where
    others : List ModuleShare
    others = map (share n changes) (range_with_len (a + 1) k)

    by : (b : Bool) → has_steps (share n changes a) ≡ b → sum_by (λ (s : ModuleShare). s.units) (filter has_steps others) ≡ sum_by (λ (s : ModuleShare). s.units) others
        → sum_by (λ (s : ModuleShare). s.units) (cond b (share n changes a ∷ filter has_steps others) (filter has_steps others)) ≡ sum_by (λ (s : ModuleShare). s.units) (share n changes a ∷ others)
    by true has later =
        omega (arith, sum_by-cons (λ (s : ModuleShare). s.units) (share n changes a) (filter has_steps others), sum_by-cons (λ (s : ModuleShare). s.units) (share n changes a) others, later)
    by false has later = omega (arith, sum_by-cons (λ (s : ModuleShare). s.units) (share n changes a) others, later, no_units n changes a has)

-- ---- from the begin of a chain to its end

alone : (n : Circuit) (c : WireChange) (found : Cause) → cause_of n c ≡ found → followed found ≡ None → begin_by c found + in_port (units_of n c) (port_of found) ≡ c.time
alone n c Outside is none = omega arith
alone n c (Start g) is none = let e : time_of (followed (cause_of n c)) ≡ 0 = ap (λ f. time_of (followed f)) is in omega (arith, e)
alone n c (Events g es) is none = let e : time_of (followed (cause_of n c)) ≡ 0 = ap (λ f. time_of (followed f)) is ∙ ap time_of none in omega (arith, e)

from_module : (n : Circuit) (c d : WireChange) (found : Cause) → cause_of n c ≡ found → followed found ≡ Some d → d.time < c.time → d.time + in_port (units_of n c) (port_of found) ≡ c.time
from_module n c d Outside is goes less = cc
from_module n c d (Start g) is goes less = cc
from_module n c d (Events g es) is goes less = let e : time_of (followed (cause_of n c)) ≡ d.time = ap (λ f. time_of (followed f)) is ∙ ap time_of goes in omega (arith, e, less)

chain_sum : (n : Circuit) → IsCircuit n → (k : ℕ) (c : WireChange) → 0 < c.time → c.time ≤ k → begin_of n (chain_from n k (Some c)) + sum_by (ported (units_of n) n) (chain_from n k (Some c)) ≡ c.time
chain_sum n ok zero c some le = absurd (omega (arith, some, le))
chain_sum n ok (suc k) c some le = by (followed (cause_of n c)) refl (λ d has less. chain_sum n ok k d has less)
  where
    last : (j : ℕ) → followed (cause_of n c) ≡ None → begin_of n (c ∷ chain_from n j None) + sum_by (ported (units_of n) n) (c ∷ chain_from n j None) ≡ c.time
    last zero none = omega (arith, sum_by-cons (ported (units_of n) n) c [], alone n c (cause_of n c) refl none)
    last (suc j) none = omega (arith, sum_by-cons (ported (units_of n) n) c [], alone n c (cause_of n c) refl none)

    more : (j : ℕ) (d : WireChange) → followed (cause_of n c) ≡ Some d → 0 < d.time → d.time < c.time → d.time ≤ j → begin_of n (chain_from n j (Some d)) + sum_by (ported (units_of n) n) (chain_from n j (Some d)) ≡ d.time
        → begin_of n (c ∷ chain_from n j (Some d)) + sum_by (ported (units_of n) n) (c ∷ chain_from n j (Some d)) ≡ c.time
    more zero d goes has less within later = absurd (omega (arith, has, within))
    more (suc j) d goes has less within later = omega (arith, sum_by-cons (ported (units_of n) n) c (chain_from n (suc j) (Some d)), from_module n c d (cause_of n c) refl goes less, later)

    by : (next : Option WireChange) → followed (cause_of n c) ≡ next → ((d : WireChange) → 0 < d.time → d.time ≤ k → begin_of n (chain_from n k (Some d)) + sum_by (ported (units_of n) n) (chain_from n k (Some d)) ≡ d.time)
        → begin_of n (c ∷ chain_from n k next) + sum_by (ported (units_of n) n) (c ∷ chain_from n k next) ≡ c.time
    by None at later = last k at
    by (Some d) at later =
        let f = followed_time n ok c some (Some d) at in
        more k d at f.0 f.1 (omega (arith, f.1, le)) (later d f.0 (omega (arith, f.1, le)))

pub adds_up : AddsUp
unfolding path
adds_up n ok moment c is =
    let t = read_time n.horizon moment.time in
    let changes = chain n moment.wire t in
    let last = last_change_is n moment.wire t c is in
    let sum : sum_by (λ (s : ModuleShare). s.units) (by_units (filter has_steps (shares n changes))) ≡ sum_by (ported (units_of n) n) changes
    = sum_by_units (λ (s : ModuleShare). s.units) (filter has_steps (shares n changes)) ∙ kept_sum n changes 0 (length n.modules) ∙ shares_sum n changes 0 (length n.modules) ∙ all_modules (units_of n) n changes in
    let total : begin_of n changes + sum_by (ported (units_of n) n) changes ≡ c.time
    = subst (λ cs. begin_of n cs + sum_by (ported (units_of n) n) cs ≡ c.time) (sym (chain_is n ok moment.wire t (Some c) is)) (chain_sum n ok c.time c last.from (omega arith)) in
    ap (λ k. begin_of n changes + k) sum ∙ total

-- ---- changes that are noted one by one

-- the units of some changes are few where these are
units_few : (n : Circuit) (changes : List WireChange) → ((k : ℕ) (d : WireChange) → k < length changes → (get_or changes k d).time < 2 ^ 31) → sum_by (units_of n) changes ≤ length changes * 2 ^ 31
units_few n [] early = omega arith
units_few n (c ∷ changes) early =
    omega (arith, sum_by-cons (units_of n) c changes, units_few n changes (λ k d low. early (suc k) d (omega (arith, low))), early 0 c (omega arith))

-- so what is noted of a module has room for another step
pub noted_room : (n : Circuit) (all left : List WireChange) (m : ℕ) (s : ModuleShare) → length all < 2 ^ 32 → ((k : ℕ) (d : WireChange) → k < length all → (get_or all k d).time < 2 ^ 31) → IsShareOf n all left m s
    → HasRoom (2 ^ 32) s
noted_room n all left m s few early of =
    record {
      units = omega (arith, of.units, units_in n m all, units_few n all early, few);
      steps = omega (arith, of.steps, steps_few n m all, few);
    }

pub room_enough : (u : ℕ) (s : ModuleShare) → u < 2 ^ 32 → HasRoom (2 ^ 32) s → HasRoom u s
room_enough u s low room = record { units = omega (arith, room.units, low); steps = room.steps }

-- one of them more
pub noted_next : (n : Circuit) (all : List WireChange) (i m : ℕ) (c : WireChange) (s : ModuleShare) → i < length all → IsShareOf n all (drop i all) m s
    → IsShareOf n all (drop (i + 1) all) m (noted (is_step_in n m (get_or all i c)) (units_of n (get_or all i c)) s)
noted_next n all i m c s low of =
    let first : drop i all ≡ get_or all i c ∷ drop (i + 1) all = rw (add-one, drop-cons all i c) refl in
    noted_more n all (drop (i + 1) all) (get_or all i c) m s (subst (λ l. IsShareOf n all l m s) first of)

dropped : (all : List WireChange) (i : ℕ) → length all ≤ i → drop i all ≡ []
dropped [] zero past = refl
dropped [] (suc i) past = refl
dropped (c ∷ cs) zero past = absurd (omega (arith, past))
dropped (c ∷ cs) (suc i) past = dropped cs i (omega (arith, past))

-- when all are noted, these are their shares
pub all_noted : (n : Circuit) (all : List WireChange) (i : ℕ) (list : List ModuleShare) → length all ≤ i → length list ≡ length n.modules
    → ((m : ℕ) (d : ModuleShare) → m < length n.modules → IsShareOf n all (drop i all) m (get_or list m d)) → list ≡ shares n all
all_noted n all i list past long each = shares_are n all list long (λ m d low. subst (λ l. IsShareOf n all l m (get_or list m d)) (dropped all i past) (each m d low))
