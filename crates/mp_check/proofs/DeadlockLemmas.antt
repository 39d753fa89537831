-- Ports that wait for each other, one after the other.
use Rattle.std.proofs.Common.{Bool, ◌≡◌, ◌≢◌, ℕ, ◌+◌, ◌^◌, ◌/◌, ◌%◌, ◌<◌, ◌≤◌, ◌==◌, true, false, cond, List, [], ◌∷◌, ◌++◌, All, length, get_or, map, filter, Option, Some, None, zero, suc, refl, ap, sym, subst, ◌∙◌, append_assoc, inl, inr, arith}
use Rattle.std.specs.Prelude.{not}
use Rattle.std.specs.List.{list_all, range_with_len}
use Rattle.std.proofs.lemmas.Bool.{and_parts, cases_lt, eq-eqb, ne_eqb}
use Rattle.std.proofs.lemmas.List.{get_or_past, length-map}
use Rattle.std.proofs.lemmas.List.FromFn.{get_or-range_with_len, length-range_with_len}
use Rattle.mp_netlist.specs.Circuit.{Circuit, IsCircuit, module_at}
use Rattle.mp_holding.specs.sets.Marks.{is_marked}
use Rattle.mp_holding.proofs.lemmas.sets.ClosedLemmas.{true_false}
use Rattle.mp_check.specs.Dead.{AreDead, dead, port_numbers, port_slots}
use Rattle.mp_check.specs.Waiting.{AreWaiting, wait_of, wait_in, waiting}
use Rattle.mp_check.specs.Ways.{begins_round, least, way}
use Rattle.mp_check.specs.Doubling.{next_in}
use Rattle.mp_check.specs.Deadlocks.{port_after, next_port, waits_to, deadlock_from, deadlocks}
use Rattle.mp_check.specs.declared.wait.Wait.{Wait}
use Rattle.mp_check.proofs.AwaitedLemmas.{waiting_is_dead}
use Rattle.mp_check.proofs.PortLemmas.{slots_few}

-- ---- what they wait for, so far

module _ (n : Circuit) (first : ℕ) (xs whole : List Wait) where
  pub waits_last : (count : ℕ) (next : Option Wait) (w : Wait) → 0 < count → next ≡ Some w → w.next ≡ first → xs ++ waits_to n first count next ≡ whole → xs ++ w ∷ [] ≡ whole
  waits_last zero next w some is round so = absurd (omega (arith, some))
  waits_last (suc count) next w some is round so =
      let test : (w.next == first) ≡ true = eq-eqb w.next first round in
      ap (λ b. xs ++ w ∷ cond b [] (waits_to n first count (wait_of n w.next))) (sym test) ∙ ap (λ o. xs ++ waits_to n first (suc count) o) (sym is) ∙ so

  pub waits_more : (count rest : ℕ) (next : Option Wait) (w : Wait) → count ≡ suc rest → next ≡ Some w → w.next ≢ first → xs ++ waits_to n first count next ≡ whole → (xs ++ w ∷ []) ++ waits_to n first rest (wait_of n w.next) ≡ whole
  waits_more count rest next w some is other so =
      let test : (w.next == first) ≡ false = ne_eqb w.next first other in
      append_assoc xs (w ∷ []) (waits_to n first rest (wait_of n w.next))
      ∙ ap (λ b. xs ++ w ∷ cond b [] (waits_to n first rest (wait_of n w.next))) (sym test) ∙ ap (λ o. xs ++ waits_to n first (suc rest) o) (sym is) ∙ ap (λ k. xs ++ waits_to n first k next) (sym some) ∙ so

-- ---- the next ports

-- past the last number there is no port
no_wait : (n : Circuit) (k : ℕ) → port_slots n ≤ k → wait_of n k ≡ None
unfolding wait_of
no_wait n k past =
    let out : length n.modules ≤ k / port_numbers = omega (arith, past) in
    let none : wait_in n (k / port_numbers) (k % port_numbers) (module_at n (k / port_numbers)) ≡ None = ap (wait_in n (k / port_numbers) (k % port_numbers)) (get_or_past n.modules (k / port_numbers) None out) in
    ap (λ (o : Option Wait). cond (waiting n k) o None) none ∙ either (waiting n k)
  where
    either : (b : Bool) → cond b (let o : Option Wait = None in o) None ≡ None
    either true = refl
    either false = refl

map_at : {A B : Type 0} (f : A → B) (xs : List A) (k : ℕ) (d : A) (e : B) → k < length xs → get_or (map f xs) k e ≡ f (get_or xs k d)
map_at f [] k d e within = absurd (omega (arith, within))
map_at f (x ∷ xs) zero d e within = refl
map_at f (x ∷ xs) (suc k) d e within = map_at f xs k d e (omega (arith, within))

module _ (n : Circuit) (next : List ℕ) (are : next ≡ map (next_port n) (range_with_len 0 (port_slots n))) where
  pub next_count : length next ≡ port_slots n
  next_count = ap length are ∙ length-map (range_with_len 0 (port_slots n)) (next_port n) ∙ length-range_with_len 0 (port_slots n)

  pub next_few : IsCircuit n → length next < 2 ^ 32
  next_few ok = omega (arith, next_count, slots_few n ok)

  pub next_fit : All (λ k. k ≤ port_slots n) next → All (λ k. k ≤ length next) next
  next_fit within = subst (λ (most : ℕ). All (λ k. k ≤ most) next) (sym next_count) within

  next_is : (k : ℕ) → next_in next k ≡ next_port n k
  next_is k = elim (cases_lt k (port_slots n)) as (λ _. next_in next k ≡ next_port n k) [
    | inl within ↦
        let below : k < length (range_with_len 0 (port_slots n)) = omega (arith, within, length-range_with_len 0 (port_slots n)) in
        let at : get_or (range_with_len 0 (port_slots n)) k 0 ≡ k = get_or-range_with_len 0 (port_slots n) k 0 within ∙ zero_plus k in
        ap (λ l. get_or l k (length next)) are ∙ map_at (next_port n) (range_with_len 0 (port_slots n)) k 0 (length next) below ∙ ap (next_port n) at
    | inr past ↦ get_or_past next k (length next) (omega (arith, past, next_count)) ∙ next_count ∙ sym (ap (port_after (port_slots n)) (no_wait n k past))
  ]
    where
      zero_plus : (k : ℕ) → 0 + k ≡ k
      zero_plus k = omega arith

  same_next : next_in next ≡ next_port n
  same_next = λ i. (λ (k : ℕ). next_is k i)

  pub deadlocks_are : (firsts : List ℕ) → firsts ≡ filter (begins_round (next_in next) (length next)) (range_with_len 0 (length next)) → map (deadlock_from n) firsts ≡ deadlocks n
  unfolding deadlocks
  deadlocks_are firsts is =
      ap (map (deadlock_from n)) (is ∙ ap (λ f. filter (begins_round f (length next)) (range_with_len 0 (length next))) same_next
      ∙ ap (λ c. filter (begins_round (next_port n) c) (range_with_len 0 c)) next_count)

-- ---- nobody waits

filter_none : (p : ℕ → Bool) (from count : ℕ) → ((k : ℕ) → k < from + count → p k ≡ false) → filter p (range_with_len from count) ≡ []
filter_none p from zero none = refl
filter_none p from (suc count) none =
    ap (λ b. cond b (from ∷ filter p (range_with_len (from + 1) count)) (filter p (range_with_len (from + 1) count))) (none from (omega arith))
    ∙ filter_none p (from + 1) count (λ k low. none k (omega (arith, low)))

least_none : (next : ℕ → ℕ) (most count k : ℕ) → ((j : ℕ) → next j ≡ most) → k ≡ most → least most (way next count k) ≡ most
least_none next most zero k none is = refl
least_none next most (suc count) k none is = let rest = least_none next most count (next k) none (none k) in omega (arith, rest, is)

pub nobody_waits : (n : Circuit) → ((k : ℕ) → waiting n k ≡ false) → [] ≡ deadlocks n
unfolding deadlocks wait_of
nobody_waits n none = sym (ap (map (deadlock_from n)) (filter_none (begins_round (next_port n) (port_slots n)) 0 (port_slots n) begins))
  where
    next_none : (k : ℕ) → next_port n k ≡ port_slots n
    next_none k = ap (λ b. port_after (port_slots n) (cond b (wait_in n (k / port_numbers) (k % port_numbers) (module_at n (k / port_numbers))) None)) (none k)

    begins : (k : ℕ) → k < 0 + port_slots n → begins_round (next_port n) (port_slots n) k ≡ false
    begins k low =
        let most : least (port_slots n) (way (next_port n) (port_slots n) (next_port n k)) ≡ port_slots n =
        least_none (next_port n) (port_slots n) (port_slots n) (next_port n k) next_none (next_none k) in
        ne_eqb (least (port_slots n) (way (next_port n) (port_slots n) (next_port n k))) k (λ same. omega (arith, most, same, low))

-- no mark is set
pub unmarked_at : (marks : List Bool) → list_all not marks ≡ true → (k : ℕ) → is_marked marks k ≡ false
unmarked_at [] all k = refl
unmarked_at (mark ∷ marks) all zero = by mark (and_parts (not mark) (list_all not marks) all).0
  where
    by : (b : Bool) → not b ≡ true → b ≡ false
    by false is = refl
    by true is = sym is
unmarked_at (mark ∷ marks) all (suc k) = unmarked_at marks (and_parts (not mark) (list_all not marks) all).1 k

pub nobody_waits_unmarked : (n : Circuit) (marks : List Bool) → AreWaiting n marks → list_all not marks ≡ true → [] ≡ deadlocks n
nobody_waits_unmarked n marks are all = nobody_waits n (λ k. sym (are k) ∙ unmarked_at marks all k)

pub nobody_is_dead : (n : Circuit) (marks : List Bool) → AreDead n marks → list_all not marks ≡ true → [] ≡ deadlocks n
nobody_is_dead n marks are all = nobody_waits n (λ k. by k (waiting n k) refl)
  where
    by : (k : ℕ) (b : Bool) → waiting n k ≡ b → b ≡ false
    by k false is = refl
    by k true is = absurd (true_false (dead n k) (waiting_is_dead n k is) (sym (are k) ∙ unmarked_at marks all k))
