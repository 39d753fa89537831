-- The levels and changes of an excerpt, in terms of the netlist.
use Rattle.std.proofs.Common.{◌≡◌, ℕ, ◌+◌, ◌-◌, ◌<◌, ◌≤◌, Bool, true, false, not, cond, nat_lt, List, Option, Some, None, length, refl, ap, sym, subst, ◌∙◌, arith, inl, inr}
use Rattle.std.specs.Prelude.{◌&&◌, ◌==◌}
use Rattle.std.proofs.lemmas.Bool.{cases_lt, cases_Bool, lt-ltb, le-ltb, eq-eqb}
use Rattle.mp_records.specs.declared.ids.ModuleId.{ModuleId}
use Rattle.mp_records.specs.declared.wire_record.WireRecord.{WireRecord}
use Rattle.mp_records.specs.Outputs.{delay_of}
use Rattle.mp_netlist.specs.declared.driver.Driver.{Driver}
use Rattle.mp_netlist.specs.declared.driver.Driver.TheVariants.{Nothing, Stimulus, Port}
use Rattle.mp_netlist.specs.Circuit.{Circuit, IsCircuit, wire_at, module_at}
use Rattle.mp_netlist.specs.Drivers.{driver}
use Rattle.mp_netlist.proofs.DriverLemmas.{finds_only_ports}
use Rattle.mp_model.specs.Evaluations.{delay_in}
use Rattle.mp_model.specs.Levels.{initial_of}
use Rattle.mp_model.specs.Waves.{level}
use Rattle.mp_model.proofs.EndsLemmas.{first_level}
use Rattle.mp_kernel.specs.declared.events.output_port.OutputPort.{OutputPort}
use Rattle.mp_kernel.specs.events.Firing.{copy_at}
use Rattle.mp_simulation.specs.bits.Changes.{change_at, late_change, is_decided}
use Rattle.mp_simulation.specs.bits.Copies.{AreChained, later_by}
use Rattle.mp_partition.specs.regions.Regions.{set_on_slot}
use Rattle.mp_simulation.specs.units.DataLevels.{has_data, is_data, is_bit_wire, late_level}
use Rattle.mp_simulation.specs.units.DataWheels.{driver_delay, ahead_by}
use Rattle.mp_simulation.proofs.lemmas.units.LateLemmas.{late_bit, own_level}
use Rattle.mp_simulation.proofs.lemmas.units.PresentLemmas.{at_once}
use Rattle.mp_active.specs.excerpt.Excerpts.{unset_slot, excerpt, ArePortsOn, driver_on}
use Rattle.mp_active.specs.excerpt.Levels.{shown_level, shown_late, shown_change, shown_delay, shown_ahead}
use Rattle.mp_active.proofs.lemmas.excerpt.TestLemmas.{either, same_tests, no_tests, cond_same, cond_false}
use Rattle.mp_active.proofs.lemmas.excerpt.CopyLemmas.{later_far}
use Rattle.mp_active.proofs.lemmas.excerpt.ExcerptLemmas.{length_on, same_by, module_active, initial_there}
use Rattle.mp_active.proofs.lemmas.excerpt.LevelLemmas.{excerpt_driver, excerpt_off, excerpt_level, excerpt_decided}

shifted : (t k d : ℕ) → nat_lt (t + 1 + k) (t + 1 + d) ≡ nat_lt k d
shifted t k d = elim (cases_lt k d) as (λ _. nat_lt (t + 1 + k) (t + 1 + d) ≡ nat_lt k d) [
  | inl low ↦ lt-ltb (t + 1 + k) (t + 1 + d) (omega (arith, low)) ∙ sym (lt-ltb k d low)
  | inr past ↦ le-ltb (t + 1 + k) (t + 1 + d) (omega (arith, past)) ∙ sym (le-ltb k d past)
]

-- where modules have answered up to t, what is known is told by the driver's delay
pub decided_by : (n : Circuit) (known : ℕ → ℕ) (d : Driver) (t k : ℕ) → ((m : ModuleId) (p : ℕ) → d ≡ Port m p → known m.0 ≡ t + 1) → is_decided n known d (t + 1 + k) ≡ nat_lt k (driver_delay n d)
decided_by n known Nothing t k at = sym (le-ltb k 0 (omega arith))
decided_by n known Stimulus t k at = sym (le-ltb k 0 (omega arith))
decided_by n known (Port m p) t k at =
    ap (λ x. nat_lt (t + 1 + k) (x + delay_in (module_at n m.0) p)) (at m p refl) ∙ shifted t k (delay_in (module_at n m.0) p)

rests : (v : ℕ) → not (v == v) ≡ false
rests v = ap not (eq-eqb v v refl)

-- a wire of width 1 has levels of one bit
pub shown_bit : (n : Circuit) → IsCircuit n → (on : ℕ → Bool) (w u : ℕ) → is_data n w ≡ false → shown_level n on w u ≤ 1
shown_bit n ok on w u narrow = elim (cases_Bool (on w)) as (λ _. cond (on w) (level n w u) (initial_of (wire_at n w)) ≤ 1) [
  | inl is ↦ subst (λ b. cond b (level n w u) (initial_of (wire_at n w)) ≤ 1) (sym is) (level_bit u)
  | inr off ↦ subst (λ b. cond b (level n w u) (initial_of (wire_at n w)) ≤ 1) (sym off) (subst (λ v. v ≤ 1) (first_level n ok w) (level_bit 0))
]
  where
    level_bit : (u : ℕ) → level n w u ≤ 1
    level_bit u = subst (λ v. v ≤ 1) (own_level n w u) (late_bit n ok (w, 0) u narrow)

module _ (n : Circuit) (ok : IsCircuit n) (active on : ℕ → Bool) (ports : ArePortsOn n active on) where
  -- ---- widths
  pub data_there : (w : ℕ) → is_data (excerpt n active on) w ≡ is_data n w
  data_there w = same_by n active on has_data w (set (wire_at n w)) (unset (wire_at n w))
    where
      set : (slot : Option WireRecord) → has_data (set_on_slot n.horizon (level n w) slot) ≡ has_data slot
      set None = refl
      set (Some r) = refl

      unset : (slot : Option WireRecord) → has_data (unset_slot slot) ≡ has_data slot
      unset None = refl
      unset (Some r) = refl

  pub bit_there : (w : ℕ) → is_bit_wire (excerpt n active on) w ≡ is_bit_wire n w
  bit_there w =
      ap (λ k. nat_lt w k && not (is_data (excerpt n active on) w)) (length_on n active on 0 n.wires) ∙ ap (λ b. nat_lt w (length n.wires) && not b) (data_there w)

  -- ---- drivers
  delay_by : (w : ℕ) (d : Driver) (b : Bool) → driver n w ≡ d → on w ≡ b → driver_delay (excerpt n active on) (cond b (driver_on active d) Nothing) ≡ shown_delay n active d
  delay_by w Nothing true e is = refl
  delay_by w Nothing false e is = refl
  delay_by w Stimulus true e is = refl
  delay_by w Stimulus false e is = refl
  delay_by w (Port m p) true e is = elim (cases_Bool (active m.0)) as (λ _. driver_delay (excerpt n active on) (cond (active m.0) (Port m p) Stimulus) ≡ cond (active m.0) (delay_in (module_at n m.0) p) 0) [
    | inl awake ↦
        ap (λ b. driver_delay (excerpt n active on) (cond b (Port m p) Stimulus)) awake
        ∙ ap (λ slot. delay_in slot p) (module_active n active on m.0 awake)
        ∙ sym (ap (λ b. cond b (delay_in (module_at n m.0) p) 0) awake)
    | inr asleep ↦
        ap (λ b. driver_delay (excerpt n active on) (cond b (Port m p) Stimulus)) asleep ∙ sym (ap (λ b. cond b (delay_in (module_at n m.0) p) 0) asleep)
  ]
  delay_by w (Port m p) false e off = elim (cases_Bool (active m.0)) as (λ _. 0 ≡ cond (active m.0) (delay_in (module_at n m.0) p) 0) [
    | inl awake ↦ let is = ports.driven m.0 p w awake (finds_only_ports n w p m e) in let no : ⊥ = cc in absurd no
    | inr asleep ↦ sym (ap (λ b. cond b (delay_in (module_at n m.0) p) 0) asleep)
  ]

  pub delay_there : (w : ℕ) → driver_delay (excerpt n active on) (driver (excerpt n active on) w) ≡ shown_delay n active (driver n w)
  delay_there w = ap (driver_delay (excerpt n active on)) (excerpt_driver n ok active on ports w) ∙ delay_by w (driver n w) (on w) refl refl

  -- ---- at a time below the horizon
  module _ (t : ℕ) (low : t < n.horizon) where
    pub level_there : (w u : ℕ) → u ≤ t → level (excerpt n active on) w u ≡ shown_level n on w u
    level_there w u within = elim (cases_Bool (on w)) as (λ _. level (excerpt n active on) w u ≡ cond (on w) (level n w u) (initial_of (wire_at n w))) [
      | inl is ↦ excerpt_level n ok active on ports w u is (omega (arith, within, low)) ∙ sym (ap (λ b. cond b (level n w u) (initial_of (wire_at n w))) is)
      | inr off ↦ excerpt_off n ok active on ports w u off ∙ sym (ap (λ b. cond b (level n w u) (initial_of (wire_at n w))) off)
    ]

    pub late_there : (s : ℕ × ℕ) → late_level (excerpt n active on) s t ≡ shown_late n on s t
    late_there s = elim (cases_Bool (on s.0)) as (λ _. late_level (excerpt n active on) s t ≡ cond (on s.0) (late_level n s t) (initial_of (wire_at n s.0))) [
      | inl is ↦
          ap (λ v. cond (nat_lt t s.1) v (level (excerpt n active on) s.0 (t - s.1))) (initial_there n active on s.0)
          ∙ ap (cond (nat_lt t s.1) (initial_of (wire_at n s.0))) (excerpt_level n ok active on ports s.0 (t - s.1) is (omega (arith, low)))
          ∙ sym (ap (λ b. cond b (late_level n s t) (initial_of (wire_at n s.0))) is)
      | inr off ↦
          ap (λ v. cond (nat_lt t s.1) v (level (excerpt n active on) s.0 (t - s.1))) (initial_there n active on s.0)
          ∙ ap (cond (nat_lt t s.1) (initial_of (wire_at n s.0))) (excerpt_off n ok active on ports s.0 (t - s.1) off)
          ∙ cond_same (nat_lt t s.1) (initial_of (wire_at n s.0))
          ∙ sym (ap (λ b. cond b (late_level n s t) (initial_of (wire_at n s.0))) off)
    ]

    change_off : (w u : ℕ) → on w ≡ false → change_at (excerpt n active on) w u ≡ false
    change_off w u off =
        ap (λ x. not (x == level (excerpt n active on) w u)) (excerpt_off n ok active on ports w (u - 1) off)
        ∙ ap (λ x. not (initial_of (wire_at n w) == x)) (excerpt_off n ok active on ports w u off)
        ∙ rests (initial_of (wire_at n w))

    pub change_on : (w u : ℕ) → on w ≡ true → u ≤ t → change_at (excerpt n active on) w u ≡ change_at n w u
    change_on w u is within =
        ap (λ x. not (x == level (excerpt n active on) w u)) (excerpt_level n ok active on ports w (u - 1) is (omega (arith, within, low)))
        ∙ ap (λ x. not (level n w (u - 1) == x)) (excerpt_level n ok active on ports w u is (omega (arith, within, low)))

    late_change_there : (s : ℕ × ℕ) (u : ℕ) → u ≤ t + s.1 → late_change (excerpt n active on) s u ≡ shown_change n on s u
    late_change_there s u within = elim (cases_Bool (on s.0)) as (λ _. late_change (excerpt n active on) s u ≡ (on s.0 && late_change n s u)) [
      | inl is ↦ ap (λ b. cond (nat_lt s.1 u) b false) (change_on s.0 (u - s.1) is (omega (arith, within))) ∙ sym (ap (λ b. b && late_change n s u) is)
      | inr off ↦ ap (λ b. cond (nat_lt s.1 u) b false) (change_off s.0 (u - s.1) off) ∙ cond_false (nat_lt s.1 u) ∙ sym (ap (λ b. b && late_change n s u) off)
    ]

    -- a copy's changes that are known, where it is so much later than what it stands after
    pub copy_there : (s : ℕ × ℕ) (k d : ℕ) → d ≤ s.1 → (late_change (excerpt n active on) s (t + 1 + k) && nat_lt k d) ≡ (shown_change n on s (t + 1 + k) && nat_lt k d)
    copy_there s k d far = elim (cases_lt k d) as (λ _. (late_change (excerpt n active on) s (t + 1 + k) && nat_lt k d) ≡ (shown_change n on s (t + 1 + k) && nat_lt k d)) [
      | inl known ↦ ap (λ b. b && nat_lt k d) (late_change_there s (t + 1 + k) (omega (arith, known, far)))
      | inr past ↦ either (late_change (excerpt n active on) s (t + 1 + k)) (shown_change n on s (t + 1 + k)) (nat_lt k d) (le-ltb k d past)
    ]

    -- a wire whose levels are known so many units ahead is on, and has the netlist's
    pub record IsKnown (w k : ℕ) : Type 0 where
      pub is : on w ≡ true
      pub levels : (u : ℕ) → u ≤ t + 1 + k → level (excerpt n active on) w u ≡ level n w u

    known_by : (w k : ℕ) (d : Driver) → driver n w ≡ d → k < shown_delay n active d → IsKnown w k
    known_by w k Nothing e known = let no : ⊥ = omega (arith, known) in absurd no
    known_by w k Stimulus e known = let no : ⊥ = omega (arith, known) in absurd no
    known_by w k (Port m p) e known = elim (cases_Bool (active m.0)) as (λ _. IsKnown w k) [
      | inl awake ↦
          let drives = finds_only_ports n w p m e in
          let early : k < delay_in (module_at n m.0) p = subst (λ b. k < cond b (delay_in (module_at n m.0) p) 0) awake known in
          let by : k < delay_of drives.part p = subst (λ slot. k < delay_in slot p) drives.stands early in
          record {
            is = ports.driven m.0 p w awake drives;
            levels = λ u within. excerpt_decided n ok active on ports w p u t m drives.part e awake drives.stands low (omega (arith, within, by));
          }
      | inr asleep ↦ let none : k < 0 = subst (λ b. k < cond b (delay_in (module_at n m.0) p) 0) asleep known in let no : ⊥ = omega (arith, none) in absurd no
    ]

    pub known_ahead : (w k : ℕ) → k < shown_delay n active (driver n w) → IsKnown w k
    known_ahead w k known = known_by w k (driver n w) refl known

    -- a wire's changes that are known
    pub event_there : (w k : ℕ) →
        (change_at (excerpt n active on) w (t + 1 + k) && nat_lt k (driver_delay (excerpt n active on) (driver (excerpt n active on) w)))
        ≡ (change_at n w (t + 1 + k) && nat_lt k (shown_delay n active (driver n w)))
    event_there w k =
        ap (λ d. change_at (excerpt n active on) w (t + 1 + k) && nat_lt k d) (delay_there w)
        ∙ elim (cases_lt k (shown_delay n active (driver n w))) as (λ _.
        (change_at (excerpt n active on) w (t + 1 + k) && nat_lt k (shown_delay n active (driver n w))) ≡ (change_at n w (t + 1 + k) && nat_lt k (shown_delay n active (driver n w)))) [
          | inl known ↦
              let is = known_ahead w k known in
              ap (λ b. b && nat_lt k (shown_delay n active (driver n w)))
              (ap (λ x. not (x == level (excerpt n active on) w (t + 1 + k))) (is.levels (t + 1 + k - 1) (omega arith)) ∙ ap (λ x. not (level n w (t + 1 + k - 1) == x)) (is.levels (t + 1 + k) (omega arith)))
          | inr past ↦ either (change_at (excerpt n active on) w (t + 1 + k)) (change_at n w (t + 1 + k)) (nat_lt k (shown_delay n active (driver n w))) (le-ltb k (shown_delay n active (driver n w)) past)
        ]

    -- the same of a wire as a number
    wire_there : (w k : ℕ) →
        (late_change (excerpt n active on) (w, 0) (t + 1 + k) && nat_lt k (driver_delay (excerpt n active on) (driver (excerpt n active on) w)))
        ≡ (shown_change n on (w, 0) (t + 1 + k) && nat_lt k (shown_delay n active (driver n w)))
    wire_there w k =
        ap (λ b. b && nat_lt k (driver_delay (excerpt n active on) (driver (excerpt n active on) w))) (at_once (excerpt n active on) w (t + 1 + k) (omega arith))
        ∙ event_there w k
        ∙ elim (cases_lt k (shown_delay n active (driver n w))) as (λ _.
        (change_at n w (t + 1 + k) && nat_lt k (shown_delay n active (driver n w))) ≡ (shown_change n on (w, 0) (t + 1 + k) && nat_lt k (shown_delay n active (driver n w)))) [
          | inl known ↦
              ap (λ b. b && nat_lt k (shown_delay n active (driver n w)))
              (sym (at_once n w (t + 1 + k) (omega arith)) ∙ sym (ap (λ b. b && late_change n (w, 0) (t + 1 + k)) (known_ahead w k known).is))
          | inr past ↦ either (change_at n w (t + 1 + k)) (shown_change n on (w, 0) (t + 1 + k)) (nat_lt k (shown_delay n active (driver n w))) (le-ltb k (shown_delay n active (driver n w)) past)
        ]

    -- the changes of a number with data that are known
    number_there : (next : List OutputPort) (s : ℕ × ℕ) (x k : ℕ) (o : Option ℕ) → later_by next o ≤ s.1 → (is_data n s.0 ≡ true → o ≡ None → s ≡ (x, 0)) →
        ((late_change (excerpt n active on) s (t + 1 + k) && is_data (excerpt n active on) s.0) && nat_lt k (ahead_by (excerpt n active on) next x o))
        ≡ ((shown_change n on s (t + 1 + k) && is_data n s.0) && nat_lt k (shown_ahead n active next x o))
    number_there next s x k (Some y) far own =
        same_tests (late_change (excerpt n active on) s (t + 1 + k)) (is_data (excerpt n active on) s.0) (nat_lt k (copy_at next y).delay) (shown_change n on s (t + 1 + k)) (is_data n s.0) (nat_lt k (copy_at next y).delay)
        (data_there s.0) (copy_there s k (copy_at next y).delay far)
    number_there next s x k None far own = elim (cases_Bool (is_data n s.0)) as (λ _.
        ((late_change (excerpt n active on) s (t + 1 + k) && is_data (excerpt n active on) s.0) && nat_lt k (driver_delay (excerpt n active on) (driver (excerpt n active on) x)))
        ≡ ((shown_change n on s (t + 1 + k) && is_data n s.0) && nat_lt k (shown_delay n active (driver n x)))) [
          | inl wide ↦
              same_tests (late_change (excerpt n active on) s (t + 1 + k)) (is_data (excerpt n active on) s.0) (nat_lt k (driver_delay (excerpt n active on) (driver (excerpt n active on) x)))
              (shown_change n on s (t + 1 + k)) (is_data n s.0) (nat_lt k (shown_delay n active (driver n x))) (data_there s.0)
              (subst (λ (v : ℕ × ℕ). (late_change (excerpt n active on) v (t + 1 + k) && nat_lt k (driver_delay (excerpt n active on) (driver (excerpt n active on) x)))
              ≡ (shown_change n on v (t + 1 + k) && nat_lt k (shown_delay n active (driver n x)))) (sym (own wide refl)) (wire_there x k))
          | inr narrow ↦
              no_tests (late_change (excerpt n active on) s (t + 1 + k)) (is_data (excerpt n active on) s.0) (nat_lt k (driver_delay (excerpt n active on) (driver (excerpt n active on) x)))
              (shown_change n on s (t + 1 + k)) (is_data n s.0) (nat_lt k (shown_delay n active (driver n x))) (data_there s.0 ∙ narrow) narrow
        ]

    pub copy_number : (source : ℕ → ℕ × ℕ) (before : ℕ → Option ℕ) (next : List OutputPort) → AreChained source before next → (x k : ℕ) →
        (late_change (excerpt n active on) (source x) (t + 1 + k) && nat_lt k (later_by next (before x))) ≡ (shown_change n on (source x) (t + 1 + k) && nat_lt k (later_by next (before x)))
    copy_number source before next chained x k = copy_there (source x) k (later_by next (before x)) (later_far source before next chained x (before x) refl)

    pub data_number : (source : ℕ → ℕ × ℕ) (before : ℕ → Option ℕ) (next : List OutputPort) → AreChained source before next → (x k : ℕ) →
        (is_data n (source x).0 ≡ true → before x ≡ None → source x ≡ (x, 0)) →
        ((late_change (excerpt n active on) (source x) (t + 1 + k) && is_data (excerpt n active on) (source x).0) && nat_lt k (ahead_by (excerpt n active on) next x (before x)))
        ≡ ((shown_change n on (source x) (t + 1 + k) && is_data n (source x).0) && nat_lt k (shown_ahead n active next x (before x)))
    data_number source before next chained x k own = number_there next (source x) x k (before x) (later_far source before next chained x (before x) refl) own

    -- the level of a number with data that changes where it is known
    known_level : (next : List OutputPort) (s : ℕ × ℕ) (x k : ℕ) (o : Option ℕ) → later_by next o ≤ s.1 → (o ≡ None → s ≡ (x, 0)) → on s.0 ≡ true → k < shown_ahead n active next x o →
        late_level (excerpt n active on) s (t + 1 + k) ≡ late_level n s (t + 1 + k)
    known_level next s x k (Some y) far own is known =
        ap (λ v. cond (nat_lt (t + 1 + k) s.1) v (level (excerpt n active on) s.0 (t + 1 + k - s.1))) (initial_there n active on s.0)
        ∙ ap (cond (nat_lt (t + 1 + k) s.1) (initial_of (wire_at n s.0))) (excerpt_level n ok active on ports s.0 (t + 1 + k - s.1) is (omega (arith, known, far, low)))
    known_level next s x k None far own is known =
        subst (λ (v : ℕ × ℕ). late_level (excerpt n active on) v (t + 1 + k) ≡ late_level n v (t + 1 + k)) (sym (own refl))
        (ap (λ v. cond (nat_lt (t + 1 + k) 0) v (level (excerpt n active on) x (t + 1 + k - 0))) (initial_there n active on x)
        ∙ ap (cond (nat_lt (t + 1 + k) 0) (initial_of (wire_at n x))) ((known_ahead x k known).levels (t + 1 + k - 0) (omega arith)))

    pub data_level : (source : ℕ → ℕ × ℕ) (before : ℕ → Option ℕ) (next : List OutputPort) → AreChained source before next → (x k : ℕ) →
        (before x ≡ None → source x ≡ (x, 0)) → on (source x).0 ≡ true → k < shown_ahead n active next x (before x) →
        late_level (excerpt n active on) (source x) (t + 1 + k) ≡ late_level n (source x) (t + 1 + k)
    data_level source before next chained x k own is known = known_level next (source x) x k (before x) (later_far source before next chained x (before x) refl) own is known
