-- What drives the wires of a netlist that is picked from another, and what its levels, inputs and states come from.
use Rattle.std.proofs.Common.{◌≡◌, ◌⊎◌, ℕ, ◌-◌, ◌<◌, ◌≤◌, true, false, cond, nat_lt, List, [], ◌∷◌, Option, Some, None, is_some, map, suc, refl, ap, sym, subst, ◌∙◌, arith, inl, inr}
use Rattle.std.specs.Prelude.{Contains}
use Rattle.std.proofs.lemmas.Bool.{cases_lt, lt-ltb, le-ltb}
use Rattle.mp_wave.specs.Waveform.{level_from, changes_after}
use Rattle.mp_wave.proofs.ChangesLemmas.{level_from-changes_after}
use Rattle.mp_modules.specs.declared.memory.Memory.{Memory}
use Rattle.mp_modules.specs.Memories.{output_of}
use Rattle.mp_records.specs.declared.ids.ModuleId.{ModuleId}
use Rattle.mp_records.specs.declared.ports.Input.{Input}
use Rattle.mp_records.specs.declared.wire_record.WireRecord.{WireRecord}
use Rattle.mp_records.specs.declared.module_record.ModuleRecord.{ModuleRecord}
use Rattle.mp_records.specs.Outputs.{delay_of}
use Rattle.mp_netlist.specs.declared.driver.Driver.{Driver}
use Rattle.mp_netlist.specs.declared.driver.Driver.TheVariants.{Nothing, Stimulus, Port}
use Rattle.mp_netlist.specs.Circuit.{Circuit, IsCircuit, Drives, wire_at, module_at, stimulus_at, stimulus_in}
use Rattle.mp_netlist.specs.Drivers.{driver, is_port, stimulus_driver}
use Rattle.mp_netlist.proofs.DriverLemmas.{finds_ports, finds_only_ports, driven_by, driven_stands, stimulus_drives}
use Rattle.mp_model.specs.Levels.{initial_of, input_by, inputs_by, port_level, driven_level, level_by, stimulus_level}
use Rattle.mp_model.proofs.HistoryLemmas.{late}
use Rattle.mp_partition.specs.regions.Regions.{set_on_slot}
use Rattle.mp_near.specs.laws.Picking.{Picking, has_wire, placed_input, placed, IsPicking, HasPicked}
use Rattle.mp_near.proofs.lemmas.laws.PlacedLemmas.{at_seat, delay_placed, slot_given, slot_own, initial_there, initial_placed, module_there, drives_there, drives_here, reads_picked}

-- the level at a port rests on the states of its module alone
pub port_by : (f g : ℕ → ℕ → Memory) (slot : Option ModuleRecord) (m p initial t : ℕ) → ((u : ℕ) → f m u ≡ g m u) → port_level f slot m p initial t ≡ port_level g slot m p initial t
port_by f g None m p initial t same = refl
port_by f g (Some r) m p initial t same = ap (λ (s : Memory). cond (nat_lt t (delay_of r p)) initial (output_of s p)) (same (t - delay_of r p))

module _ (n s : Circuit) (pick : Picking) (levels : ℕ → ℕ → ℕ) (is : IsPicking n pick) (has : HasPicked n s pick levels) where
  -- the inputs of a module, where picked wires have the same levels
  pub same_inputs : (k : ℕ) (r : ModuleRecord) (t : ℕ) (f g : ℕ → ℕ → ℕ) → module_at n (pick.module_of k) ≡ Some r
      → ((w u : ℕ) → u ≤ t → has_wire pick w ≡ true → f (pick.place_of w) u ≡ g w u) → inputs_by s f (placed pick.place_of r) t ≡ inputs_by n g r t
  same_inputs k r t f g at same = listed r.inputs (λ i contains. reads_picked n s pick levels is has k r i at contains)
    where
      listed : (inputs : List Input) → ((i : Input) → Contains inputs i → has_wire pick i.wire.0 ≡ true)
          → map (λ i. input_by s f i t) (map (placed_input pick.place_of) inputs) ≡ map (λ i. input_by n g i t) inputs
      listed [] picked = refl
      listed (i ∷ rest) picked =
          let here = picked i (0, omega arith, refl) in
          let first : input_by s f (placed_input pick.place_of i) t ≡ input_by n g i t
          = ap (λ v. cond (nat_lt t i.delay) v (f (pick.place_of i.wire.0) (t - i.delay))) (initial_placed n s pick levels is has i.wire.0 here)
          ∙ ap (cond (nat_lt t i.delay) (initial_of (wire_at n i.wire.0))) (same i.wire.0 (t - i.delay) (omega arith) here) in
          let others = listed rest (λ v contains. picked v (suc contains.0, omega (arith, contains.1), contains.2)) in
          ap (λ x. x ∷ map (λ i. input_by s f i t) (map (placed_input pick.place_of) rest)) first ∙ ap (λ xs. input_by n g i t ∷ xs) others

  module _ (n_ok : IsCircuit n) (s_ok : IsCircuit s) where
    -- ---- given wires
    set_stands : (slot : Option WireRecord) → is_some slot ≡ true → (f : ℕ → ℕ) → is_some (stimulus_in (set_on_slot n.horizon f slot)) ≡ true
    set_stands None some f = let no : ⊥ = cc in absurd no
    set_stands (Some r) some f = refl

    pub given_stands : (k : ℕ) → pick.given k ≡ true → is_some (wire_at n (pick.wire_of k)) ≡ true
    given_stands k given = let found = is.given_driven k given in driven_stands n n_ok found.0 found.1 (pick.wire_of k) found.2

    given_driver : (k : ℕ) → pick.given k ≡ true → driver s k ≡ Stimulus
    given_driver k given =
        stimulus_drives s s_ok k
        (ap (λ slot. is_some (stimulus_in slot)) (slot_given n s pick levels is has k given) ∙ set_stands (wire_at n (pick.wire_of k)) (given_stands k given) (levels (pick.wire_of k)))

    -- below the horizon a given wire has the levels that are set on it
    pub given_level : (k t : ℕ) (f : ℕ → ℕ → Memory) → pick.given k ≡ true → t < n.horizon → initial_of (wire_at n (pick.wire_of k)) ≡ levels (pick.wire_of k) 0 → level_by s f k t ≡ levels (pick.wire_of k) t
    given_level k t f given low first = by (wire_at n (pick.wire_of k)) refl (given_stands k given)
      where
        by : (slot : Option WireRecord) → wire_at n (pick.wire_of k) ≡ slot → is_some slot ≡ true → level_by s f k t ≡ levels (pick.wire_of k) t
        by None none some = let no : ⊥ = cc in absurd no
        by (Some r) stands some =
            let at : wire_at s k ≡ set_on_slot n.horizon (levels (pick.wire_of k)) (Some r) = slot_given n s pick levels is has k given ∙ ap (set_on_slot n.horizon (levels (pick.wire_of k))) stands in
            let begins : r.initial ≡ levels (pick.wire_of k) 0 = sym (ap initial_of stands) ∙ first in
            ap (λ d. driven_level d s f k t) (given_driver k given)
            ∙ ap (λ slot. stimulus_level (stimulus_in slot) (initial_of slot) t) at
            ∙ ap (λ v. level_from v (changes_after (levels (pick.wire_of k)) 0 (n.horizon - 1)) t) begins
            ∙ level_from-changes_after (levels (pick.wire_of k)) 0 (n.horizon - 1) t (omega arith) (omega (arith, low))

    -- ---- wires that no port drives
    own_other : (k : ℕ) → pick.given k ≡ false → is_port (driver n (pick.wire_of k)) ≡ false → driver s k ≡ driver n (pick.wire_of k)
    own_other k own none = there (driven_by s k)
      where
        here : ((m p : ℕ) × Drives n m p (pick.wire_of k)) ⊎ (driver n (pick.wire_of k) ≡ stimulus_driver (stimulus_at n (pick.wire_of k)))
            → stimulus_driver (stimulus_at n (pick.wire_of k)) ≡ driver n (pick.wire_of k)
        here (inl found) = let port = ap is_port (finds_ports n n_ok found.0 found.1 (pick.wire_of k) found.2) in let no : ⊥ = cc in absurd no
        here (inr same) = sym same

        there : ((m p : ℕ) × Drives s m p k) ⊎ (driver s k ≡ stimulus_driver (stimulus_at s k)) → driver s k ≡ driver n (pick.wire_of k)
        there (inl found) =
            let port = ap is_port (finds_ports n n_ok (pick.module_of found.0) found.1 (pick.wire_of k) (drives_there n s pick levels is has found.0 found.1 k found.2)) in
            let no : ⊥ = cc in absurd no
        there (inr same) = same ∙ ap (λ slot. stimulus_driver (stimulus_in slot)) (slot_own n s pick levels is has k own) ∙ here (driven_by n (pick.wire_of k))

    pub unported_level : (k t : ℕ) (f g : ℕ → ℕ → Memory) (d : Driver) → driver n (pick.wire_of k) ≡ d → is_port d ≡ false → pick.given k ≡ false → level_by s f k t ≡ level_by n g (pick.wire_of k) t
    unported_level k t f g Nothing e none own =
        ap (λ d. driven_level d s f k t) (own_other k own (ap is_port e) ∙ e)
        ∙ initial_there n s pick levels is has k
        ∙ sym (ap (λ d. driven_level d n g (pick.wire_of k) t) e)
    unported_level k t f g Stimulus e none own =
        ap (λ d. driven_level d s f k t) (own_other k own (ap is_port e) ∙ e)
        ∙ ap (λ slot. stimulus_level (stimulus_in slot) (initial_of slot) t) (slot_own n s pick levels is has k own)
        ∙ sym (ap (λ d. driven_level d n g (pick.wire_of k) t) e)
    unported_level k t f g (Port m p) e none own = let no : ⊥ = cc in absurd no

    -- ---- wires that a picked module drives
    own_driver : (k p : ℕ) (m : ModuleId) → pick.given k ≡ false → (drives : Drives n m.0 p (pick.wire_of k)) → driver s k ≡ Port (record { 0 = pick.seat_of m.0 }) p
    own_driver k p m own drives =
        let picked = is.own_driven k m.0 p own drives in
        let place : pick.place_of (pick.wire_of k) ≡ k = is.places k (driven_stands n n_ok m.0 p (pick.wire_of k) drives) in
        let there : Drives n (pick.module_of (pick.seat_of m.0)) p (pick.wire_of k) = subst (λ j. Drives n j p (pick.wire_of k)) (sym (at_seat pick m.0 picked)) drives in
        finds_ports s s_ok (pick.seat_of m.0) p k (subst (Drives s (pick.seat_of m.0) p) place (drives_here n s pick levels is has (pick.seat_of m.0) p (pick.wire_of k) there))

    ported_level : (k t : ℕ) (f g : ℕ → ℕ → Memory) (m : ModuleId) (p : ℕ) → driver n (pick.wire_of k) ≡ Port m p → pick.given k ≡ false
        → ((j u : ℕ) (r : ModuleRecord) → u < t → module_at n (pick.module_of j) ≡ Some r → f j u ≡ g (pick.module_of j) u) → level_by s f k t ≡ level_by n g (pick.wire_of k) t
    ported_level k t f g m p e own same =
        let drives = finds_only_ports n (pick.wire_of k) p m e in
        let r = drives.part in
        let j = pick.seat_of m.0 in
        let number : pick.module_of j ≡ m.0 = at_seat pick m.0 (is.own_driven k m.0 p own drives) in
        let at : module_at n (pick.module_of j) ≡ Some r = ap (λ i. module_at n i) number ∙ drives.stands in
        let positive : 0 < delay_of r p = late n r p (n_ok.modules_ok m.0 r drives.stands) in
        ap (λ d. driven_level d s f k t) (own_driver k p m own drives)
        ∙ ap (λ slot. port_level f slot j p (initial_of (wire_at s k)) t) (module_there n s pick levels is has j r at)
        ∙ ap (λ v. port_level f (Some (placed pick.place_of r)) j p v t) (initial_there n s pick levels is has k)
        ∙ ap (λ d. cond (nat_lt t d) (initial_of (wire_at n (pick.wire_of k))) (output_of (f j (t - d)) p)) (delay_placed pick.place_of r p)
        ∙ elim (cases_lt t (delay_of r p)) as (λ _. cond (nat_lt t (delay_of r p)) (initial_of (wire_at n (pick.wire_of k))) (output_of (f j (t - delay_of r p)) p) ≡ port_level g (Some r) m.0 p (initial_of (wire_at n (pick.wire_of k))) t) [
          | inl early ↦ rw (lt-ltb t (delay_of r p) early) refl
          | inr past ↦ rw (le-ltb t (delay_of r p) past) (ap (λ (x : Memory). output_of x p) (same j (t - delay_of r p) r (omega (arith, positive, past)) at ∙ ap (λ i. g i (t - delay_of r p)) number))
        ]
        ∙ sym (ap (λ d. driven_level d n g (pick.wire_of k) t) e ∙ ap (λ slot. port_level g slot m.0 p (initial_of (wire_at n (pick.wire_of k))) t) drives.stands)

    -- a wire that isn't given has its level, where the states of picked modules are the same before
    pub own_level : (k t : ℕ) (f g : ℕ → ℕ → Memory) → pick.given k ≡ false
        → ((j u : ℕ) (r : ModuleRecord) → u < t → module_at n (pick.module_of j) ≡ Some r → f j u ≡ g (pick.module_of j) u) → level_by s f k t ≡ level_by n g (pick.wire_of k) t
    own_level k t f g own same = by (driver n (pick.wire_of k)) refl
      where
        by : (d : Driver) → driver n (pick.wire_of k) ≡ d → level_by s f k t ≡ level_by n g (pick.wire_of k) t
        by Nothing e = unported_level k t f g Nothing e refl own
        by Stimulus e = unported_level k t f g Stimulus e refl own
        by (Port m p) e = ported_level k t f g m p e own same
