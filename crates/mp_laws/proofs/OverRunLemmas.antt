-- In a run that is over nothing changes again.
use Rattle.std.proofs.Common.{◌≡◌, ℕ, ◌+◌, ◌-◌, ◌/◌, ◌%◌, ◌<◌, ◌≤◌, ◌⊎◌, inl, inr, true, cond, List, [], ◌∷◌, map, max, length, slice_index, Option, Some, None, is_some, nat_lt, zero, suc, refl, ap, sym, subst, ◌∙◌, arith}
use Rattle.std.specs.Prelude.{◌&&◌, IfSome, IsTrue, nat_le, slice_get}
use Rattle.std.specs.List.{fold, range_with_len}
use Rattle.std.specs.Option.{option_to_list}
use Rattle.std.proofs.lemmas.Bool.{cases_lt, le-leb, leb-true, ltb-true, and_parts}
use Rattle.std.proofs.lemmas.List.{get_or_past}
use Rattle.std.proofs.lemmas.Option.{none-some}
use Rattle.mp_wave.specs.Waveform.{level_from}
use Rattle.mp_modules.specs.declared.kind.Kind.{Kind}
use Rattle.mp_modules.specs.declared.kind.Kind.TheVariants as kinds
use Rattle.mp_modules.specs.declared.memory.Memory.{Memory}
use Rattle.mp_modules.specs.Levels.{fits_width}
use Rattle.mp_modules.specs.Memories.{output_of}
use Rattle.mp_records.specs.declared.wire_record.WireRecord.{WireRecord}
use Rattle.mp_records.specs.declared.module_record.ModuleRecord.{ModuleRecord}
use Rattle.mp_records.specs.declared.ports.Input.{Input}
use Rattle.mp_records.specs.Outputs.{delay_of}
use Rattle.mp_records.specs.Stimuli.{is_stimulus}
use Rattle.mp_netlist.specs.declared.driver.Driver.{Driver}
use Rattle.mp_netlist.specs.declared.driver.Driver.TheVariants.{Nothing, Stimulus, Port}
use Rattle.mp_netlist.specs.Circuit.{Circuit, IsCircuit, Drives, wire_at, module_at, stimulus_at, stimulus_in}
use Rattle.mp_netlist.specs.Drivers.{driver}
use Rattle.mp_netlist.proofs.DriverLemmas.{finds_only_ports, leaves_no_driver}
use Rattle.mp_model.specs.Levels.{driven_level, initial_of, input_by, inputs_by, stimulus_level}
use Rattle.mp_model.specs.Waves.{level, state}
use Rattle.mp_model.proofs.BehaviourLemmas.{satisfies}
use Rattle.mp_model.proofs.EvaluationLemmas.{port_level_is}
use Rattle.mp_model.proofs.HistoryLemmas.{late}
use Rattle.mp_model.proofs.InputLemmas.{input_is}
use Rattle.mp_model.proofs.QuietLemmas.{same_inputs}
use Rattle.mp_holding.specs.Holding.{holding_sets}
use Rattle.mp_holding.specs.Laws.{HasSet}
use Rattle.mp_questions.specs.timing.Events.{since}
use Rattle.mp_check.specs.Dead.{last_unit, port_number, port_numbers, port_slots}
use Rattle.mp_check.specs.Over.{delay_at, depends_on, greatest, input_delay_at, is_over, last_change, longest_delay, longest_input_delay, port_delay, port_input_delay}
use Rattle.mp_check.proofs.OverLemmas.{greatest_next}
use Rattle.mp_check.proofs.PortLemmas.{port_low, wired_low}
use Rattle.mp_check.proofs.QuietLemmas.{from_on}
use Rattle.mp_check.proofs.StillLemmas.{since_still}
use Rattle.mp_laws.proofs.AlikeLemmas.{later_changes_nothing_before}
use Rattle.mp_laws.proofs.ForEverLemmas.{held_on}
use Rattle.mp_laws.proofs.ReadLemmas.{reads_wire}
use Rattle.mp_laws.specs.OverRuns.{NothingChangesAgain}

-- ---- the greatest of some numbers is no less than each of them

each_below : (f : ℕ → ℕ) (count k : ℕ) → k < count → f k ≤ greatest (map f (range_with_len 0 count))
each_below f zero k low = absurd (omega (arith, low))
each_below f (suc count) k low = by (cases_lt k count) (each_below f count k)
  where
    next : greatest (map f (range_with_len 0 (suc count))) ≡ max (greatest (map f (range_with_len 0 count))) (f count)
    next =
        let e : count + 1 ≡ suc count = omega arith in
        subst (λ j. greatest (map f (range_with_len 0 j)) ≡ max (greatest (map f (range_with_len 0 count))) (f count)) e (greatest_next f count)

    by : (k < count) ⊎ (count ≤ k) → (k < count → f k ≤ greatest (map f (range_with_len 0 count))) → f k ≤ greatest (map f (range_with_len 0 (suc count)))
    by (inl sooner) before = let known = before sooner in omega (arith, known, next)
    by (inr here) before =
        let is : count ≡ k = omega (arith, low, here) in
        let same : f count ≡ f k = ap f is in
        omega (arith, same, next)

fold_least : (a : ℕ) (xs : List ℕ) → a ≤ fold max a xs
fold_least a [] = omega arith
fold_least a (x ∷ xs) = omega (arith, fold_least (max a x) xs)

-- ---- levels that no port gives

level_free : (n : Circuit) → IsCircuit n → (w t : ℕ) → driver n w ≡ Nothing → level n w t ≡ initial_of (wire_at n w)
level_free n ok w t is = (satisfies n ok).levels w t ∙ ap (λ (d : Driver). driven_level d n (state n) w t) is

level_set : (n : Circuit) → IsCircuit n → (w t : ℕ) → driver n w ≡ Stimulus → level n w t ≡ stimulus_level (stimulus_at n w) (initial_of (wire_at n w)) t
level_set n ok w t is = (satisfies n ok).levels w t ∙ ap (λ (d : Driver). driven_level d n (state n) w t) is

-- after the last unit a stimulus sets nothing
stimulus_over : (horizon width before initial : ℕ) (changes : List (ℕ × ℕ)) (t : ℕ) → is_stimulus horizon width before changes ≡ true → horizon - 1 ≤ t
    → level_from initial changes t ≡ level_from initial changes (horizon - 1)
unfolding is_stimulus
stimulus_over horizon width before initial [] t valid past = refl
stimulus_over horizon width before initial (change ∷ changes) t valid past =
    let first = and_parts (nat_lt before change.0 && nat_lt change.0 horizon && fits_width width change.1) (is_stimulus horizon width change.0 changes) valid in
    let second = and_parts (nat_lt before change.0 && nat_lt change.0 horizon) (fits_width width change.1) first.0 in
    let third = and_parts (nat_lt before change.0) (nat_lt change.0 horizon) second.0 in
    let low : change.0 < horizon = ltb-true change.0 horizon third.1 in
    let now : nat_le change.0 t ≡ true = le-leb change.0 t (omega (arith, low, past)) in
    let end : nat_le change.0 (horizon - 1) ≡ true = le-leb change.0 (horizon - 1) (omega (arith, low)) in
    ap (λ b. cond b (level_from change.1 changes t) initial) now ∙ stimulus_over horizon width change.0 change.1 changes t first.1 past
    ∙ sym (ap (λ b. cond b (level_from change.1 changes (horizon - 1)) initial) end)

set_stays : (n : Circuit) → IsCircuit n → (w t : ℕ) → driver n w ≡ Stimulus → last_unit n ≤ t → level n w t ≡ level n w (last_unit n)
set_stays n ok w t is past = level_set n ok w t is ∙ by (wire_at n w) refl ∙ sym (level_set n ok w (last_unit n) is)
  where
    set : (r : WireRecord) (stimulus : Option (List (ℕ × ℕ))) → IfSome stimulus (λ changes. IsTrue (is_stimulus n.horizon r.width 0 changes))
        → stimulus_level stimulus r.initial t ≡ stimulus_level stimulus r.initial (last_unit n)
    set r None valid = refl
    set r (Some changes) valid = stimulus_over n.horizon r.width 0 r.initial changes t valid past

    by : (slot : Option WireRecord) → wire_at n w ≡ slot → stimulus_level (stimulus_in slot) (initial_of slot) t ≡ stimulus_level (stimulus_in slot) (initial_of slot) (last_unit n)
    by None stands = refl
    by (Some r) stands = set r r.stimulus (ok.wires_ok w r stands).stimulus

-- ---- what outputs depend on

-- all inputs, or of a REG that of the port
depends_cases : (kind : Kind) (p : ℕ) (inputs : List Input)
    → (depends_on kind p inputs ≡ inputs) ⊎ ((kind ≡ kinds.Reg) × (0 < p) × (depends_on kind p inputs ≡ option_to_list (slice_get inputs p)))
depends_cases kinds.Reg zero inputs = inl refl
depends_cases kinds.Reg (suc p) inputs = inr (refl, omega arith, refl)
depends_cases kinds.C p inputs = inl refl
depends_cases kinds.Toggle p inputs = inl refl
depends_cases kinds.Select p inputs = inl refl
depends_cases kinds.Call p inputs = inl refl
depends_cases kinds.Arbiter p inputs = inl refl
depends_cases (kinds.Function f) p inputs = inl refl

unread : (f g : Input → ℕ) (inputs : List Input) (p : ℕ) → slice_get inputs p ≡ None → slice_index (map f inputs) p ≡ slice_index (map g inputs) p
unread f g [] p none = refl
unread f g (i ∷ is) zero none = absurd (none-some i (sym none))
unread f g (i ∷ is) (suc p) none = unread f g is p none

reg_holds : (params : List ℕ) (s : Memory) (p : ℕ) → 0 < p → HasSet (holding_sets kinds.Reg params s p) (p ∷ [])
reg_holds params s zero some = absurd (omega (arith, some))
reg_holds params s (suc p) some = inl refl

-- ---- a run that is over

module _ (n : Circuit) (ok : IsCircuit n) (over : is_over n ≡ true) where
  abbrev end : ℕ
  end = last_unit n

  -- from when on all inputs hear what the wires are for good
  abbrev all_hear : ℕ
  all_hear = last_change n + longest_input_delay n

  room : last_change n + (longest_delay n + longest_input_delay n) ≤ end
  room = leb-true (last_change n + (longest_delay n + longest_input_delay n)) end over

  in_run : (w t : ℕ) → last_change n ≤ t → t ≤ end → level n w t ≡ level n w (last_change n)
  in_run w t from upto = by (cases_lt w (length n.wires))
    where
      by : (w < length n.wires) ⊎ (length n.wires ≤ w) → level n w t ≡ level n w (last_change n)
      by (inl low) =
          let still : since (level n w) end ≤ last_change n = each_below (λ v. since (level n v) end) (length n.wires) w low in
          since_still (level n w) end (last_change n) t still from upto
          ∙ sym (since_still (level n w) end (last_change n) (last_change n) still (omega arith) (omega (arith, from, upto)))
      by (inr past) =
          let nothing : driver n w ≡ Nothing = leaves_no_driver n ok w (get_or_past n.wires w None past) in
          level_free n ok w t nothing ∙ sym (level_free n ok w (last_change n) nothing)

  abbrev Stays : ℕ → Type 0
  Stays t = (w : ℕ) → level n w t ≡ level n w (last_change n)

  module _ (t : ℕ) (past : end < t) (before : (s : ℕ) → last_change n ≤ s → s < t → Stays s) where
    heard : (u : ℕ) → all_hear ≤ u → u < t → (i : Input) → i.delay ≤ longest_input_delay n → input_by n (level n) i u ≡ level n i.wire.0 (last_change n)
    heard u from below i short = input_is n ok i u ∙ before (u - i.delay) (omega (arith, short, from)) (omega (arith, below)) i.wire.0

    all_heard : (u : ℕ) → all_hear ≤ u → u + 1 < t → (inputs : List Input) (a : ℕ) → fold max a (map (λ (i : Input). i.delay) inputs) ≤ longest_input_delay n
        → map (λ i. input_by n (level n) i (u + 1)) inputs ≡ map (λ i. input_by n (level n) i u) inputs
    all_heard u from below [] a short = refl
    all_heard u from below (i ∷ is) a short =
        let low : i.delay ≤ longest_input_delay n = omega (arith, fold_least (max a i.delay) (map (λ (j : Input). j.delay) is), short) in
        let same : input_by n (level n) i (u + 1) ≡ input_by n (level n) i u = heard (u + 1) (omega (arith, from)) below i low ∙ sym (heard u from (omega (arith, below)) i low) in
        ap (λ x. x ∷ map (λ j. input_by n (level n) j (u + 1)) is) same ∙ ap (λ xs. input_by n (level n) i u ∷ xs) (all_heard u from below is (max a i.delay) short)

    module _ (m p w : ℕ) (drives : driver n w ≡ Port (record { 0 = m }) p) where
      found : Drives n m p w
      found = finds_only_ports n w p (record { 0 = m }) drives

      abbrev r : ModuleRecord
      r = found.part

      number : (m < length n.modules) × (p < port_numbers)
      number = port_low n ok w (record { 0 = m }) p (sym drives)

      low : port_number m p < port_slots n
      low = omega (arith, number.0, number.1)

      first : port_number m p / port_numbers ≡ m
      first = omega (arith, number.1)

      second : port_number m p % port_numbers ≡ p
      second = omega (arith, number.1)

      short : delay_of r p ≤ longest_delay n
      short =
          let here : delay_at n (port_number m p) ≡ delay_of r p =
          ap (λ k. port_delay (module_at n k) (port_number m p % port_numbers)) first ∙ ap (port_delay (module_at n m)) second ∙ ap (λ slot. port_delay slot p) found.stands
          ∙ ap (λ b. cond b (delay_of r p) 0) (ap is_some found.output) in
          subst (λ (k : ℕ). k ≤ longest_delay n) here (each_below (delay_at n) (port_slots n) (port_number m p) low)

      inputs_short : greatest (map (λ (i : Input). i.delay) (depends_on r.kind p r.inputs)) ≤ longest_input_delay n
      inputs_short =
          let all = greatest (map (λ (i : Input). i.delay) (depends_on r.kind p r.inputs)) in
          let here : input_delay_at n (port_number m p) ≡ all =
          ap (λ k. port_input_delay (module_at n k) (port_number m p % port_numbers)) first ∙ ap (port_input_delay (module_at n m)) second
          ∙ ap (λ slot. port_input_delay slot p) found.stands ∙ ap (λ b. cond b all 0) (ap is_some found.output) in
          subst (λ (k : ℕ). k ≤ longest_input_delay n) here (each_below (input_delay_at n) (port_slots n) (port_number m p) low)

      -- the output stays, since the module's state does
      by_state : depends_on r.kind p r.inputs ≡ r.inputs → (from u : ℕ) → all_hear ≤ from → from ≤ u → u < t → output_of (state n m u) p ≡ output_of (state n m from) p
      by_state all from u heard_from upto below =
          ap (λ (s : Memory). output_of s p)
          (from_on (λ k. state n m k ≡ state n m from) from u refl
          (λ k begun sooner known.
          let inputs = subst (λ (l : List Input). greatest (map (λ (i : Input). i.delay) l) ≤ longest_input_delay n) all inputs_short in
          let same : inputs_by n (level n) r (k + 1) ≡ inputs_by n (level n) r k = all_heard k (omega (arith, heard_from, begun)) (omega (arith, sooner, below)) r.inputs 0 inputs in
          let e : k + 1 ≡ suc k = omega arith in
          subst (λ j. state n m j ≡ state n m k) e (same_inputs n ok m k r found.stands same) ∙ known)
          u upto (omega arith))

      -- or since the one input does that a REG passes on
      by_input : r.kind ≡ kinds.Reg → 0 < p → depends_on r.kind p r.inputs ≡ option_to_list (slice_get r.inputs p) → (from u : ℕ) → all_hear ≤ from → from ≤ u → u < t
          → output_of (state n m u) p ≡ output_of (state n m from) p
      by_input reg some one from u heard_from upto below =
          held_on n ok m r found.stands p (wired_low n ok m p r (record { 0 = w }) found.stands found.output) (p ∷ []) from u
          (subst (λ kind. HasSet (holding_sets kind r.params (state n m from) p) (p ∷ [])) (sym reg) (reg_holds r.params (state n m from) p some))
          (λ k begun sooner. (passed k (omega (arith, heard_from, begun)) (omega (arith, sooner, below)) (slice_get r.inputs p) refl, tt))
          u upto (omega arith)
        where
          inputs : greatest (map (λ (i : Input). i.delay) (option_to_list (slice_get r.inputs p))) ≤ longest_input_delay n
          inputs = subst (λ (l : List Input). greatest (map (λ (i : Input). i.delay) l) ≤ longest_input_delay n) one inputs_short

          passed : (k : ℕ) → all_hear ≤ k → suc k < t → (slot : Option Input) → slice_get r.inputs p ≡ slot
              → slice_index (inputs_by n (level n) r (suc k)) p ≡ slice_index (inputs_by n (level n) r k) p
          passed k begun sooner None reads = unread (λ i. input_by n (level n) i (suc k)) (λ i. input_by n (level n) i k) r.inputs p reads
          passed k begun sooner (Some i) reads =
              let delay : max 0 i.delay ≤ longest_input_delay n = subst (λ slot. greatest (map (λ (j : Input). j.delay) (option_to_list slot)) ≤ longest_input_delay n) reads inputs in
              reads_wire n ok r p i reads (suc k) ∙ before (suc k - i.delay) (omega (arith, delay, begun)) (omega (arith, sooner)) i.wire.0
              ∙ sym (before (k - i.delay) (omega (arith, delay, begun)) (omega (arith, sooner)) i.wire.0) ∙ sym (reads_wire n ok r p i reads k)

      output_stays : (from u : ℕ) → all_hear ≤ from → from ≤ u → u < t → output_of (state n m u) p ≡ output_of (state n m from) p
      output_stays from u heard_from upto below = by (depends_cases r.kind p r.inputs)
        where
          by : (depends_on r.kind p r.inputs ≡ r.inputs) ⊎ ((r.kind ≡ kinds.Reg) × (0 < p) × (depends_on r.kind p r.inputs ≡ option_to_list (slice_get r.inputs p)))
              → output_of (state n m u) p ≡ output_of (state n m from) p
          by (inl all) = by_state all from u heard_from upto below
          by (inr one) = by_input one.0 one.1 one.2 from u heard_from upto below

      port_stays : level n w t ≡ level n w (last_change n)
      port_stays =
          let some : 0 < delay_of r p = late n r p (ok.modules_ok m r found.stands) in
          let back : t - delay_of r p + delay_of r p ≡ t = omega (arith, short, room, past) in
          let end_back : end - delay_of r p + delay_of r p ≡ end = omega (arith, short, room) in
          sym (ap (level n w) back) ∙ port_level_is n ok m p w (t - delay_of r p) r found.stands drives
          ∙ output_stays (end - delay_of r p) (t - delay_of r p) (omega (arith, short, room)) (omega (arith, past)) (omega (arith, some, past))
          ∙ sym (port_level_is n ok m p w (end - delay_of r p) r found.stands drives) ∙ ap (level n w) end_back ∙ in_run w end (omega (arith, room)) (omega arith)

    past_stays : Stays t
    past_stays w = by (driver n w) refl
      where
        by : (d : Driver) → driver n w ≡ d → level n w t ≡ level n w (last_change n)
        by Nothing is = level_free n ok w t is ∙ sym (level_free n ok w (last_change n) is)
        by Stimulus is = set_stays n ok w t is (omega (arith, past)) ∙ in_run w end (omega (arith, room)) (omega arith)
        by (Port m p) is = port_stays m.0 p w is

  next_stays : (t : ℕ) → last_change n ≤ t → ((s : ℕ) → last_change n ≤ s → s < t → Stays s) → Stays t
  next_stays t from before w = by (cases_lt end t)
    where
      by : (end < t) ⊎ (t ≤ end) → level n w t ≡ level n w (last_change n)
      by (inl past) = past_stays t past before w
      by (inr upto) = in_run w t from upto

  stays_before : (t s : ℕ) → last_change n ≤ s → s < t → Stays s
  stays_before zero s from below = absurd (omega (arith, below))
  stays_before (suc t) s from below = by (cases_lt s t) (stays_before t)
    where
      by : (s < t) ⊎ (t ≤ s) → ((s : ℕ) → last_change n ≤ s → s < t → Stays s) → Stays s
      by (inl sooner) before = before s from sooner
      by (inr here) before = let is : t ≡ s = omega (arith, here, below) in subst Stays is (next_stays t (omega (arith, is, from)) before)

  stays : (t : ℕ) → last_change n ≤ t → Stays t
  stays t from = stays_before (suc t) t from (omega arith)

pub nothing_changes_again : NothingChangesAgain
nothing_changes_again n later ok later_ok goes over w t from =
    later_changes_nothing_before n later ok later_ok t (goes.alike t) w t (omega arith) ∙ stays n ok over t from w
    ∙ sym (later_changes_nothing_before n later ok later_ok (last_change n) (goes.alike (last_change n)) w (last_change n) (omega arith))
