-- Dead ports keep each other, and each set of ports that keeps its members is of dead ports.
use Rattle.std.proofs.Common.{◌≡◌, ℕ, ◌+◌, ◌-◌, ◌*◌, ◌/◌, ◌%◌, ◌<◌, ◌≤◌, ◌&&◌, ◌⊎◌, inl, inr, Bool, true, false, List, [], ◌∷◌, Option, Some, None, is_some, refl, ap, sym, subst, ◌∙◌, arith}
use Rattle.std.specs.Prelude.{slice_get}
use Rattle.std.specs.List.{list_any}
use Rattle.std.proofs.lemmas.Bool.{and_parts}
use Rattle.std.proofs.lemmas.Option.{same_Some}
use Rattle.mp_records.specs.declared.module_record.ModuleRecord.{ModuleRecord}
use Rattle.mp_records.specs.declared.ports.Input.{Input}
use Rattle.mp_records.specs.Outputs.{output_at, delay_of}
use Rattle.mp_netlist.specs.declared.driver.Driver.{Driver}
use Rattle.mp_netlist.specs.declared.driver.Driver.TheVariants.{Nothing, Stimulus, Port}
use Rattle.mp_netlist.specs.Circuit.{Circuit, module_at}
use Rattle.mp_netlist.specs.Drivers.{driver}
use Rattle.mp_netlist.proofs.TableLemmas.{slot_within}
use Rattle.mp_model.specs.Waves.{level, state}
use Rattle.mp_holding.specs.Holding.{holding_sets}
use Rattle.mp_holding.specs.sets.ClosedSets.{is_in, is_closed}
use Rattle.mp_holding.specs.sets.Laws.{IsWithin, KeepsMore}
use Rattle.mp_holding.proofs.lemmas.sets.ClosedLemmas.{true_false, and_true, or_first, or_second, or_cases, all_at, union_is_closed, has_closed_sets}
use Rattle.mp_check.specs.Dead.{dead, port_numbers, port_slots, is_kept, is_kept_at, is_quiet, is_still, is_still_in, is_driven_within, are_still, last_unit}

module _ (n : Circuit) where
  module _ (set other : ℕ → Bool) (within : IsWithin set other) where
    driven_grows : (d : Driver) → is_driven_within set d ≡ true → is_driven_within other d ≡ true
    driven_grows Nothing is = is
    driven_grows Stimulus is = is
    driven_grows (Port m p) is = within (port_numbers * m.0 + p) is

    still_grows : (i : Option Input) → is_still_in n set i ≡ true → is_still_in n other i ≡ true
    still_grows None is = is
    still_grows (Some i) is =
        let parts = and_parts (is_still n (level n i.wire.0) (last_unit n - i.delay)) (is_driven_within set (driver n i.wire.0)) is in
        and_true (is_still n (level n i.wire.0) (last_unit n - i.delay)) (is_driven_within other (driver n i.wire.0)) parts.0 (driven_grows (driver n i.wire.0) parts.1)

    all_grow : (r : ModuleRecord) (inputs : List ℕ) → are_still n set r inputs ≡ true → are_still n other r inputs ≡ true
    all_grow r [] is = refl
    all_grow r (q ∷ qs) is =
        let parts = and_parts (is_still_in n set (slice_get r.inputs q)) (are_still n set r qs) is in
        and_true (is_still_in n other (slice_get r.inputs q)) (are_still n other r qs) (still_grows (slice_get r.inputs q) parts.0) (all_grow r qs parts.1)

    any_grows : (r : ModuleRecord) (sets : List (List ℕ)) → list_any (are_still n set r) sets ≡ true → list_any (are_still n other r) sets ≡ true
    any_grows r [] is = is
    any_grows r (s ∷ sets) is = by (or_cases (are_still n set r s) (list_any (are_still n set r) sets) is) (any_grows r sets)
      where
        by : (are_still n set r s ≡ true) ⊎ (list_any (are_still n set r) sets ≡ true) → (list_any (are_still n set r) sets ≡ true → list_any (are_still n other r) sets ≡ true)
            → list_any (are_still n other r) (s ∷ sets) ≡ true
        by (inl here) later = or_first (are_still n other r s) (list_any (are_still n other r) sets) (all_grow r s here)
        by (inr rest) later = or_second (are_still n other r s) (list_any (are_still n other r) sets) (later rest)

    slot_grows : (m p : ℕ) (slot : Option ModuleRecord) → is_kept_at n set m p slot ≡ true → is_kept_at n other m p slot ≡ true
    slot_grows m p None is = is
    slot_grows m p (Some r) is =
        let sets = holding_sets r.kind r.params (state n m (last_unit n)) p in
        let out = is_some (output_at r p).wire && is_quiet n m p (delay_of r p) in
        let parts = and_parts out (list_any (are_still n set r) sets) is in
        and_true out (list_any (are_still n other r) sets) parts.0 (any_grows r sets parts.1)

  pub kept_grows : KeepsMore (is_kept n)
  unfolding is_kept
  kept_grows set other within k is = slot_grows set other within (k / port_numbers) (k % port_numbers) (module_at n (k / port_numbers)) is

  -- what a port that is kept has
  pub record IsKept (set : ℕ → Bool) (m p : ℕ) : Type 0 where
    pub part : ModuleRecord
    pub stands : module_at n m ≡ Some part
    pub wired : is_some (output_at part p).wire ≡ true
    pub quiet : is_quiet n m p (delay_of part p) ≡ true
    pub held : list_any (are_still n set part) (holding_sets part.kind part.params (state n m (last_unit n)) p) ≡ true

  kept_in : (set : ℕ → Bool) (m p : ℕ) (slot : Option ModuleRecord) → module_at n m ≡ slot → is_kept_at n set m p slot ≡ true → IsKept set m p
  kept_in set m p None at is = absurd (true_false false is refl)
  kept_in set m p (Some r) at is =
      let wired = is_some (output_at r p).wire in
      let quiet = is_quiet n m p (delay_of r p) in
      let held = list_any (are_still n set r) (holding_sets r.kind r.params (state n m (last_unit n)) p) in
      let parts = and_parts (wired && quiet) held is in
      let out = and_parts wired quiet parts.0 in
      record { part = r; stands = at; wired = out.0; quiet = out.1; held = parts.1 }

  pub kept_of : (set : ℕ → Bool) (k : ℕ) → is_kept n set k ≡ true → IsKept set (k / port_numbers) (k % port_numbers)
  unfolding is_kept
  kept_of set k is = kept_in set (k / port_numbers) (k % port_numbers) (module_at n (k / port_numbers)) refl is

  pub kept_low : (set : ℕ → Bool) (k : ℕ) → is_kept n set k ≡ true → k < port_slots n
  kept_low set k is =
      let kept = kept_of set k is in
      let within = slot_within n.modules (k / port_numbers) (ap is_some kept.stands) in
      omega (arith, within)

  -- a port is kept by what holds it, where it stands on a wire and is quiet
  module _ (set : ℕ → Bool) (m p : ℕ) (r : ModuleRecord) where
    abbrev held : Bool
    held = list_any (are_still n set r) (holding_sets r.kind r.params (state n m (last_unit n)) p)

    pub kept_if_held : is_some (output_at r p).wire ≡ true → is_quiet n m p (delay_of r p) ≡ true → held ≡ is_kept_at n set m p (Some r)
    kept_if_held wired quiet = sym (ap (λ b. (b && is_quiet n m p (delay_of r p)) && held) wired ∙ ap (λ b. b && held) quiet)

    pub not_unwired : is_some (output_at r p).wire ≡ false → false ≡ is_kept_at n set m p (Some r)
    not_unwired bare = sym (ap (λ b. (b && is_quiet n m p (delay_of r p)) && held) bare)

    pub not_loud : is_some (output_at r p).wire ≡ true → is_quiet n m p (delay_of r p) ≡ false → false ≡ is_kept_at n set m p (Some r)
    not_loud wired loud = sym (ap (λ b. (b && is_quiet n m p (delay_of r p)) && held) wired ∙ ap (λ b. b && held) loud)

  pub unkept_past : (set : ℕ → Bool) (k : ℕ) → port_slots n ≤ k → is_kept n set k ≡ false
  unkept_past set k past = by (is_kept n set k) refl
    where
      by : (b : Bool) → is_kept n set k ≡ b → b ≡ false
      by true is = let low = kept_low set k is in absurd (omega (arith, low, past))
      by false is = refl

  -- a dead port stands on a wire and is quiet
  module _ (m p : ℕ) (r : ModuleRecord) (at : module_at n m ≡ Some r) (low : p < port_numbers) (set : ℕ → Bool) (is : is_kept n set (port_numbers * m + p) ≡ true) where
    there : IsKept set m p
    there =
        let first : (port_numbers * m + p) / port_numbers ≡ m = omega (arith, low) in
        let second : (port_numbers * m + p) % port_numbers ≡ p = omega (arith, low) in
        subst (λ q. IsKept set m q) second (subst (λ k. IsKept set k ((port_numbers * m + p) % port_numbers)) first (kept_of set (port_numbers * m + p) is))

    same : there.part ≡ r
    same = same_Some {A = ModuleRecord} there.part r (sym there.stands ∙ at)

    pub kept_wired : is_some (output_at r p).wire ≡ true
    kept_wired = subst (λ (x : ModuleRecord). is_some (output_at x p).wire ≡ true) same there.wired

    pub kept_quiet : is_quiet n m p (delay_of r p) ≡ true
    kept_quiet = subst (λ (x : ModuleRecord). is_quiet n m p (delay_of x p) ≡ true) same there.quiet

  -- ---- the law

  pub dead_is_kept : IsWithin (dead n) (is_kept n (dead n))
  dead_is_kept = union_is_closed (is_kept n) (port_slots n) kept_grows

  pub kept_are_dead : (set : List ℕ) → is_closed (is_kept n) set ≡ true → IsWithin (is_in set) (dead n)
  kept_are_dead set closed =
      has_closed_sets (is_kept n) (port_slots n) kept_grows set (λ k at. kept_low (is_in set) k (all_at (is_kept n (is_in set)) set k closed at)) closed
