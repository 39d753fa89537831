-- What the ports of a deadlock wait for.
use Rattle.std.proofs.Common.{◌≡◌, ℕ, ◌/◌, ◌%◌, ◌==◌, ◌⊎◌, inl, inr, Bool, true, false, cond, List, [], ◌∷◌, Option, Some, None, zero, suc, refl, ap, sym, subst, ◌∙◌, arith, Contains, filter}
use Rattle.std.specs.Prelude.{slice_get, option_map, option_and_then}
use Rattle.std.specs.List.{range_with_len}
use Rattle.std.proofs.lemmas.Option.{none-some, same_Some}
use Rattle.mp_records.specs.declared.ids.WireId.{WireId}
use Rattle.mp_records.specs.declared.ids.ModuleId.{ModuleId}
use Rattle.mp_records.specs.declared.module_record.ModuleRecord.{ModuleRecord}
use Rattle.mp_records.specs.declared.ports.Input.{Input}
use Rattle.mp_netlist.specs.declared.driver.Driver.{Driver}
use Rattle.mp_netlist.specs.declared.driver.Driver.TheVariants.{Nothing, Stimulus, Port}
use Rattle.mp_netlist.specs.Circuit.{Circuit, module_at}
use Rattle.mp_netlist.specs.Drivers.{driver}
use Rattle.mp_model.specs.Waves.{state}
use Rattle.mp_model.proofs.MemberLemmas.{contains_cases, map_contains}
use Rattle.mp_holding.proofs.lemmas.sets.ClosedLemmas.{true_false}
use Rattle.mp_check.specs.Dead.{dead, last_unit, port_numbers, port_number, port_slots}
use Rattle.mp_check.specs.Ways.{begins_round}
use Rattle.mp_check.specs.Waiting.{awaited, first_wait, has_driver, is_port_in, port_by, wait_for, wait_in, wait_of, waiting}
use Rattle.mp_check.specs.Deadlocks.{next_port, waits_to, deadlock_from, deadlocks}
use Rattle.mp_check.specs.declared.wait.Wait.{Wait}
use Rattle.mp_check.proofs.AwaitedLemmas.{waiting_is_dead}

module _ (n : Circuit) where
  -- what stands in the list is waited for by a port
  in_round : (first count : ℕ) (found : Option Wait) (w : Wait) (j : ℕ) → wait_of n j ≡ found → Contains (waits_to n first count found) w → (i : ℕ) × (wait_of n i ≡ Some w)
  in_round first zero found w j is h = absurd (omega (arith, h.1))
  in_round first (suc count) None w j is h = absurd (omega (arith, h.1))
  in_round first (suc count) (Some v) w j is h =
      among (contains_cases w v (cond (v.next == first) [] (waits_to n first count (wait_of n v.next))) h) (in_round first count (wait_of n v.next) w v.next refl)
    where
      behind : (b : Bool) → Contains (cond b [] (waits_to n first count (wait_of n v.next))) w
          → (Contains (waits_to n first count (wait_of n v.next)) w → (i : ℕ) × (wait_of n i ≡ Some w)) → (i : ℕ) × (wait_of n i ≡ Some w)
      behind true at further = absurd (omega (arith, at.1))
      behind false at further = further at

      among : (v ≡ w) ⊎ Contains (cond (v.next == first) [] (waits_to n first count (wait_of n v.next))) w
          → (Contains (waits_to n first count (wait_of n v.next)) w → (i : ℕ) × (wait_of n i ≡ Some w)) → (i : ℕ) × (wait_of n i ≡ Some w)
      among (inl same) further = (j, is ∙ ap Some same)
      among (inr later) further = behind (v.next == first) later further

  pub waits_of_deadlock : (waits : List Wait) → Contains (deadlocks n) waits → (w : Wait) → Contains waits w → (i : ℕ) × (wait_of n i ≡ Some w)
  unfolding deadlocks
  waits_of_deadlock waits h w at =
      let begins = begins_round (next_port n) (port_slots n) in
      let found = map_contains (deadlock_from n) waits (filter begins (range_with_len 0 (port_slots n))) h in
      let k = found.0 in
      in_round k (port_slots n) (wait_of n k) w k refl (subst (λ (l : List Wait). Contains l w) (sym found.2) at)

  -- a dead port drives the wire that is waited for
  pub record HasWire (w : Wait) : Type 0 where
    pub other : ModuleId
    pub port : ℕ
    pub drives : driver n w.wire.0 ≡ Port other port
    pub is_dead : dead n (port_number other.0 port) ≡ true

  cond_some : {A : Type 0} (b : Bool) (x y : Option A) (z : A) → cond b x y ≡ Some z → ((b ≡ true) × (x ≡ Some z)) ⊎ (y ≡ Some z)
  cond_some true x y z is = inl (refl, is)
  cond_some false x y z is = inr is

  driven : (m : ℕ) (v : WireId) (w : Wait) (d : Driver) → driver n v.0 ≡ d → has_driver (waiting n) d ≡ true
      → option_map (λ k. (let x : Wait = record { waiter = record { 0 = m }; wire = v; next = k } in x)) (port_by d) ≡ Some w → HasWire w
  driven m v w Nothing is has waits = absurd (none-some w waits)
  driven m v w Stimulus is has waits = absurd (none-some w waits)
  driven m v w (Port k s) is has waits =
      let whole : (let x : Wait = record { waiter = record { 0 = m }; wire = v; next = port_number k.0 s } in x) ≡ w = same_Some {A = Wait} _ w waits in
      let same : v ≡ w.wire = ap (λ (x : Wait). x.wire) whole in
      record { other = k; port = s; drives = subst (λ (x : WireId). driver n x.0 ≡ Port k s) same is; is_dead = waiting_is_dead n (port_number k.0 s) has }

  of_list : (m : ℕ) (r : ModuleRecord) (w : Wait) (inputs : List ℕ) → first_wait n m r inputs ≡ Some w → HasWire w
  of_list m r w [] is = absurd (none-some w is)
  of_list m r w (q ∷ qs) is =
      by (slice_get r.inputs q)
      (cond_some (is_port_in n (waiting n) (slice_get r.inputs q)) (option_and_then (λ (i : Input). wait_for n m i.wire) (slice_get r.inputs q)) (first_wait n m r qs) w is)
      (of_list m r w qs)
    where
      by : (slot : Option Input) → ((is_port_in n (waiting n) slot ≡ true) × (option_and_then (λ (i : Input). wait_for n m i.wire) slot ≡ Some w)) ⊎ (first_wait n m r qs ≡ Some w)
          → (first_wait n m r qs ≡ Some w → HasWire w) → HasWire w
      by None (inl here) later = absurd (true_false false here.0 refl)
      by (Some i) (inl here) later = driven m i.wire w (driver n i.wire.0) refl here.0 here.1
      by slot (inr rest) later = later rest

  of_slot : (m p : ℕ) (w : Wait) (slot : Option ModuleRecord) → wait_in n m p slot ≡ Some w → HasWire w
  of_slot m p w None is = absurd (none-some w is)
  of_slot m p w (Some r) is = of_list m r w (awaited n r (state n m (last_unit n)) p) is

  pub wire_of_wait : (k : ℕ) (w : Wait) → wait_of n k ≡ Some w → HasWire w
  unfolding wait_of
  wire_of_wait k w is = by (cond_some (waiting n k) (wait_in n (k / port_numbers) (k % port_numbers) (module_at n (k / port_numbers))) None w is)
    where
      by : ((waiting n k ≡ true) × (wait_in n (k / port_numbers) (k % port_numbers) (module_at n (k / port_numbers)) ≡ Some w)) ⊎ ((let o : Option Wait = None in o) ≡ Some w) → HasWire w
      by (inl here) = of_slot (k / port_numbers) (k % port_numbers) w (module_at n (k / port_numbers)) here.1
      by (inr never) = absurd (none-some w never)
