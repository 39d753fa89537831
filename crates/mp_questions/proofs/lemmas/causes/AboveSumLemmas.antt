-- What the shares of a chain above a time add up to.
use Rattle.std.proofs.Common.{◌≡◌, ℕ, ◌+◌, ◌<◌, ◌≤◌, ◌&&◌, Bool, true, false, cond, List, [], ◌∷◌, length, map, max, nat_lt, Option, Some, None, zero, suc, refl, ap, sym, subst, ◌∙◌, arith}
use Rattle.std.specs.List.{sum_by, range_with_len}
use Rattle.std.proofs.lemmas.Bool.{ltb-false}
use Rattle.std.proofs.lemmas.List.Sums.{sum_by-cons}
use Rattle.mp_netlist.specs.Circuit.{Circuit, IsCircuit}
use Rattle.mp_questions.specs.declared.causes.wire_change.WireChange.{WireChange}
use Rattle.mp_questions.specs.declared.causes.module_share.ModuleShare.{ModuleShare}
use Rattle.mp_questions.specs.timing.Ranges.{read_time}
use Rattle.mp_questions.specs.causes.Causes.{Cause, Outside, Start, Events, cause_of, followed, port_of}
use Rattle.mp_questions.specs.causes.Chains.{chain_from, chain, begin_by, begin_of}
use Rattle.mp_questions.specs.causes.Shares.{time_of, is_step_in, steps_in, units_above, steps_above, share_above, shares_above}
use Rattle.mp_questions.specs.causes.Laws.{AddsUpAbove}
use Rattle.mp_questions.proofs.lemmas.causes.ChainLemmas.{followed_time, last_change_is, chain_is}
use Rattle.mp_questions.proofs.lemmas.causes.ShareLemmas.{all_modules, in_port, ported, sum_same, units_at}

module _ (n : Circuit) (from : ℕ) where
  abbrev u : WireChange → ℕ
  u = units_above n from

  -- a change that isn't above the time has no units above it
  none_below : (c : WireChange) → nat_lt from c.time ≡ false → u c ≡ 0
  none_below c low = omega (arith, ltb-false from c.time low)

  steps_same : (changes : List WireChange) (m : ℕ) → sum_by u (steps_above n from m changes) ≡ units_at u n changes m
  steps_same [] m = refl
  steps_same (c ∷ changes) m = by (steps_above n from m changes) (steps_in n m changes) (nat_lt from c.time) refl (is_step_in n m c) (steps_same changes m)
    where
      by : (above later : List WireChange) (a : Bool) → nat_lt from c.time ≡ a → (b : Bool) → sum_by u above ≡ sum_by u later
          → sum_by u (cond (a && b) (c ∷ above) above) ≡ sum_by u (cond b (c ∷ later) later)
      by above later true is true same = omega (arith, sum_by-cons u c above, sum_by-cons u c later, same)
      by above later true is false same = same
      by above later false is true same = omega (arith, sum_by-cons u c later, none_below c is, same)
      by above later false is false same = same

  shares_sum : (changes : List WireChange) (a k : ℕ) → sum_by (λ (s : ModuleShare). s.units) (map (share_above n from changes) (range_with_len a k)) ≡ sum_by (λ m. sum_by u (steps_above n from m changes)) (range_with_len a k)
  shares_sum changes a zero = refl
  shares_sum changes a (suc k) =
      omega (
        arith,
        sum_by-cons (λ (s : ModuleShare). s.units) (share_above n from changes a) (map (share_above n from changes) (range_with_len (a + 1) k)),
        sum_by-cons (λ m. sum_by u (steps_above n from m changes)) a (range_with_len (a + 1) k),
        shares_sum changes (a + 1) k,
      )

  all_shares : (changes : List WireChange) → sum_by (λ (s : ModuleShare). s.units) (shares_above n from changes) ≡ sum_by (ported u n) changes
  all_shares changes =
      shares_sum changes 0 (length n.modules)
      ∙ sum_same (λ m. sum_by u (steps_above n from m changes)) (units_at u n changes) 0 (length n.modules) (steps_same changes)
      ∙ all_modules u n changes

  -- ---- from the begin of a chain to its end

  alone : (c : WireChange) (found : Cause) → cause_of n c ≡ found → followed found ≡ None → max from (begin_by c found) + in_port (u c) (port_of found) ≡ max from c.time
  alone c Outside is none = omega arith
  alone c (Start g) is none = let e : time_of (followed (cause_of n c)) ≡ 0 = ap (λ f. time_of (followed f)) is in omega (arith, e)
  alone c (Events g es) is none = let e : time_of (followed (cause_of n c)) ≡ 0 = ap (λ f. time_of (followed f)) is ∙ ap time_of none in omega (arith, e)

  from_module : (c d : WireChange) (found : Cause) → cause_of n c ≡ found → followed found ≡ Some d → d.time < c.time → max from d.time + in_port (u c) (port_of found) ≡ max from c.time
  from_module c d Outside is goes less = cc
  from_module c d (Start g) is goes less = cc
  from_module c d (Events g es) is goes less = let e : time_of (followed (cause_of n c)) ≡ d.time = ap (λ f. time_of (followed f)) is ∙ ap time_of goes in omega (arith, e, less)

  chain_sum : IsCircuit n → (k : ℕ) (c : WireChange) → 0 < c.time → c.time ≤ k → max from (begin_of n (chain_from n k (Some c))) + sum_by (ported u n) (chain_from n k (Some c)) ≡ max from c.time
  chain_sum ok zero c some le = absurd (omega (arith, some, le))
  chain_sum ok (suc k) c some le = by (followed (cause_of n c)) refl (λ d has less. chain_sum ok k d has less)
    where
      last : (j : ℕ) → followed (cause_of n c) ≡ None → max from (begin_of n (c ∷ chain_from n j None)) + sum_by (ported u n) (c ∷ chain_from n j None) ≡ max from c.time
      last zero none = omega (arith, sum_by-cons (ported u n) c [], alone c (cause_of n c) refl none)
      last (suc j) none = omega (arith, sum_by-cons (ported u n) c [], alone c (cause_of n c) refl none)

      more : (j : ℕ) (d : WireChange) → followed (cause_of n c) ≡ Some d → 0 < d.time → d.time < c.time → d.time ≤ j
          → max from (begin_of n (chain_from n j (Some d))) + sum_by (ported u n) (chain_from n j (Some d)) ≡ max from d.time
          → max from (begin_of n (c ∷ chain_from n j (Some d))) + sum_by (ported u n) (c ∷ chain_from n j (Some d)) ≡ max from c.time
      more zero d goes has less within later = absurd (omega (arith, has, within))
      more (suc j) d goes has less within later = omega (arith, sum_by-cons (ported u n) c (chain_from n (suc j) (Some d)), from_module c d (cause_of n c) refl goes less, later)

      by : (next : Option WireChange) → followed (cause_of n c) ≡ next
          → ((d : WireChange) → 0 < d.time → d.time ≤ k → max from (begin_of n (chain_from n k (Some d))) + sum_by (ported u n) (chain_from n k (Some d)) ≡ max from d.time)
          → max from (begin_of n (c ∷ chain_from n k next)) + sum_by (ported u n) (c ∷ chain_from n k next) ≡ max from c.time
      by None at later = last k at
      by (Some d) at later =
          let f = followed_time n ok c some (Some d) at in
          more k d at f.0 f.1 (omega (arith, f.1, le)) (later d f.0 (omega (arith, f.1, le)))

pub adds_up_above : AddsUpAbove
adds_up_above n ok moment from c is =
    let t = read_time n.horizon moment.time in
    let changes = chain n moment.wire t in
    let last = last_change_is n moment.wire t c is in
    ap (λ k. max from (begin_of n changes) + k) (all_shares n from changes)
    ∙ subst (λ cs. max from (begin_of n cs) + sum_by (ported (units_above n from) n) cs ≡ max from c.time) (sym (chain_is n ok moment.wire t (Some c) is)) (chain_sum n from ok c.time c last.from (omega arith))
