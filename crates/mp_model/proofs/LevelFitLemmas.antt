-- The levels of a netlist are no wider than its wires.
use Rattle.std.proofs.Common.{◌≡◌, ℕ, ◌+◌, ◌-◌, ◌^◌, ◌<◌, ◌≤◌, ◌⊎◌, inl, inr, Bool, true, false, cond, nat_lt, nat_le, ◌&&◌, List, [], ◌∷◌, map, length, slice_index, slice_index_or, Option, None, Some, IfSome, zero, suc, refl, sym, ap, subst, ◌∙◌, arith}
use Rattle.std.specs.Prelude.{IsTrue}
use Rattle.std.proofs.lemmas.Bool.{cases_lt, and_parts, ltb-true}
use Rattle.std.proofs.lemmas.Bool.Decides.{nat_tests}
use Rattle.std.proofs.lemmas.Nat.{pow_pos}
use Rattle.mp_wave.specs.Waveform.{level_from}
use Rattle.mp_modules.specs.declared.kind.Kind.{Kind}
use Rattle.mp_modules.specs.declared.memory.Memory.{Memory}
use Rattle.mp_modules.specs.Kinds.{shape_of, input_width, output_width}
use Rattle.mp_modules.specs.Levels.{fits_width}
use Rattle.mp_modules.specs.Memories.{output_of}
use Rattle.mp_modules.proofs.KindLemmas.{one_wide_output, width_from_low}
use Rattle.mp_records.specs.declared.wire_record.WireRecord.{WireRecord}
use Rattle.mp_records.specs.declared.module_record.ModuleRecord.{ModuleRecord}
use Rattle.mp_records.specs.declared.ports.Input.{Input}
use Rattle.mp_records.specs.declared.ids.WireId.{WireId}
use Rattle.mp_records.specs.Inputs.{input_at}
use Rattle.mp_records.specs.Outputs.{output_at, delay_of}
use Rattle.mp_records.specs.Stimuli.{is_stimulus}
use Rattle.mp_netlist.specs.Circuit.{Circuit, IsCircuit, IsWire, HasWidth, Drives, wire_at, module_at, width_of, module_width, stimulus_in, stimulus_at}
use Rattle.mp_netlist.specs.Drivers.{driver, stimulus_driver}
use Rattle.mp_netlist.proofs.DriverLemmas.{driven_by, finds_ports}
use Rattle.mp_model.specs.Levels.{initial_of, stimulus_level, port_level, driven_level, input_by, inputs_by}
use Rattle.mp_model.specs.Waves.{level, state}
use Rattle.mp_model.proofs.BehaviourLemmas.{satisfies}
use Rattle.mp_model.proofs.HistoryLemmas.{late}
use Rattle.mp_model.proofs.ModuleFitLemmas.{InputsFit, OutputsFit, step_fits, settle_fits}

-- ---- what is set from outside

fits_low : (width level : ℕ) → IsTrue (fits_width width level) → level < 2 ^ width
unfolding fits_width
fits_low width level fits = ltb-true level (2 ^ width) fits

below_cond : (test : Bool) (a b bound : ℕ) → a < bound → b < bound → cond test a b < bound
below_cond true a b bound first second = first
below_cond false a b bound first second = second

set_fits : (horizon width before : ℕ) (changes : List (ℕ × ℕ)) (initial t : ℕ) → initial < 2 ^ width → is_stimulus horizon width before changes ≡ true → level_from initial changes t < 2 ^ width
unfolding is_stimulus
set_fits horizon width before [] initial t low valid = low
set_fits horizon width before (change ∷ changes) initial t low valid =
    let first = and_parts (nat_lt before change.0 && nat_lt change.0 horizon && fits_width width change.1) (is_stimulus horizon width change.0 changes) valid in
    let second = and_parts (nat_lt before change.0 && nat_lt change.0 horizon) (fits_width width change.1) first.0 in
    below_cond (nat_le change.0 t) (level_from change.1 changes t) initial (2 ^ width) (set_fits horizon width change.0 changes change.1 t (fits_low width change.1 second.1) first.1) low

initial_fits : (horizon : ℕ) (slot : Option WireRecord) → ((r : WireRecord) → slot ≡ Some r → IsWire horizon r) → initial_of slot < 2 ^ width_of slot
initial_fits horizon None wires = omega arith
initial_fits horizon (Some r) wires = fits_low r.width r.initial (wires r refl).level

stimulus_fits : (horizon : ℕ) (slot : Option WireRecord) (t : ℕ) → ((r : WireRecord) → slot ≡ Some r → IsWire horizon r) → stimulus_level (stimulus_in slot) (initial_of slot) t < 2 ^ width_of slot
stimulus_fits horizon None t wires = omega arith
stimulus_fits horizon (Some r) t wires = by r.stimulus (wires r refl).stimulus
  where
    low : r.initial < 2 ^ r.width
    low = fits_low r.width r.initial (wires r refl).level

    by : (set : Option (List (ℕ × ℕ))) → IfSome set (λ changes. IsTrue (is_stimulus horizon r.width 0 changes)) → stimulus_level set r.initial t < 2 ^ r.width
    by None valid = low
    by (Some changes) valid = set_fits horizon r.width 0 changes r.initial t low valid

-- ---- the outputs of kinds

one_bit : (kind : Kind) (width p : ℕ) → output_width kind width (suc p) ≡ 1
one_bit kind width p =
    let few = one_wide_output kind in
    let none : nat_lt (suc p) (shape_of kind).wide_outputs ≡ false = grind (arith, nat_tests) in
    ap (λ test. cond test width 1) none

output_fits : (kind : Kind) (width : ℕ) (memory : Memory) (p : ℕ) → OutputsFit kind width memory → output_of memory p < 2 ^ output_width kind width p
output_fits kind width memory zero fits = fits.first
output_fits kind width memory (suc p) fits = subst (λ k. output_of memory (suc p) < 2 ^ k) (sym (one_bit kind width p)) (fits.others p)

-- ---- levels at inputs

each_input : (f : Input → ℕ) (bound : ℕ → ℕ) (inputs : List Input) → ((p : ℕ) → 0 < bound p) → ((p : ℕ) (i : Input) → p < length inputs → f (slice_index_or inputs p i) < bound p)
    → (p : ℕ) → slice_index (map f inputs) p < bound p
each_input f bound [] some below p = some p
each_input f bound (i ∷ inputs) some below zero = below 0 i (omega arith)
each_input f bound (i ∷ inputs) some below (suc p) = each_input f (λ q. bound (suc q)) inputs (λ q. some (suc q)) (λ q j within. below (suc q) j (omega (arith, within))) p

module _ (n : Circuit) (ok : IsCircuit n) where
  -- each level at a time is no wider than its wire
  abbrev LevelsFit : ℕ → Type 0
  LevelsFit t = (w : ℕ) → level n w t < 2 ^ width_of (wire_at n w)

  abbrev StatesFit : ℕ → Type 0
  StatesFit t = (m : ℕ) (r : ModuleRecord) → module_at n m ≡ Some r → OutputsFit r.kind (module_width n r) (state n m t)

  wires : (w : ℕ) (r : WireRecord) → wire_at n w ≡ Some r → IsWire n.horizon r
  wires w r at = ok.wires_ok w r at

  initial_low : (w : ℕ) → initial_of (wire_at n w) < 2 ^ width_of (wire_at n w)
  initial_low w = initial_fits n.horizon (wire_at n w) (wires w)

  narrow_slot : (w : ℕ) (slot : Option WireRecord) → wire_at n w ≡ slot → width_of slot ≤ 64
  narrow_slot w None at = omega arith
  narrow_slot w (Some r) at = (wires w r at).narrow

  narrow : (r : ModuleRecord) → module_width n r ≤ 64
  narrow r = width_from_low r.kind _ (narrow_slot (input_at r 0).wire.0 (wire_at n (input_at r 0).wire.0) refl)

  -- the levels at a time, from the states before
  driven_fits : (w t : ℕ) → ((s : ℕ) → s < t → StatesFit s) → level n w t < 2 ^ width_of (wire_at n w)
  driven_fits w t states =
      subst (λ v. v < 2 ^ width_of (wire_at n w)) (sym ((satisfies n ok).levels w t)) (by (driven_by n w))
    where
      port : (m p : ℕ) (part : ModuleRecord) → module_at n m ≡ Some part → (output_at part p).wire ≡ Some (record { 0 = w })
          → port_level (state n) (Some part) m p (initial_of (wire_at n w)) t < 2 ^ width_of (wire_at n w)
      port m p part stands output =
          let module_ok = ok.modules_ok m part stands in
          let has : HasWidth n w (output_width part.kind (module_width n part) p) =
          subst (λ (o : Option WireId). IfSome o (λ v. HasWidth n v.0 (output_width part.kind (module_width n part) p))) output (module_ok.drives p) in
          let delayed = late n part p module_ok in
          at (nat_lt t (delay_of part p)) refl has.1 delayed
        where
          at : (test : Bool) → nat_lt t (delay_of part p) ≡ test → width_of (wire_at n w) ≡ output_width part.kind (module_width n part) p → 0 < delay_of part p
              → cond test (initial_of (wire_at n w)) (output_of (state n m (t - delay_of part p)) p) < 2 ^ width_of (wire_at n w)
          at true test same delayed = initial_low w
          at false test same delayed =
              let over : delay_of part p ≤ t = grind (arith, nat_tests) in
              subst (λ k. output_of (state n m (t - delay_of part p)) p < 2 ^ k) (sym same)
              (output_fits part.kind (module_width n part) (state n m (t - delay_of part p)) p (states (t - delay_of part p) (omega (arith, over, delayed)) m part stands))

      set : (stimulus : Option (List (ℕ × ℕ))) → stimulus_at n w ≡ stimulus → driven_level (stimulus_driver stimulus) n (state n) w t < 2 ^ width_of (wire_at n w)
      set None is = initial_low w
      set (Some changes) is = stimulus_fits n.horizon (wire_at n w) t (wires w)

      by : ((m p : ℕ) × Drives n m p w) ⊎ (driver n w ≡ stimulus_driver (stimulus_at n w)) → driven_level (driver n w) n (state n) w t < 2 ^ width_of (wire_at n w)
      by (inl found) =
          let m = found.0 in
          let p = found.1 in
          let drives = found.2 in
          let is : driven_level (driver n w) n (state n) w t ≡ port_level (state n) (Some drives.part) m p (initial_of (wire_at n w)) t =
          ap (λ d. driven_level d n (state n) w t) (finds_ports n ok m p w drives) ∙ ap (λ slot. port_level (state n) slot m p (initial_of (wire_at n w)) t) drives.stands in
          subst (λ v. v < 2 ^ width_of (wire_at n w)) (sym is) (port m p drives.part drives.stands drives.output)
      by (inr other) =
          subst (λ v. v < 2 ^ width_of (wire_at n w)) (sym (ap (λ d. driven_level d n (state n) w t) other)) (set (stimulus_at n w) refl)

  -- the levels at a module's inputs
  inputs_fit : (m t : ℕ) (r : ModuleRecord) → module_at n m ≡ Some r → ((s : ℕ) → s ≤ t → LevelsFit s) → InputsFit r.kind (module_width n r) (inputs_by n (level n) r t)
  inputs_fit m t r stands levels =
      each_input (λ i. input_by n (level n) i t) (λ p. 2 ^ input_width r.kind (module_width n r) p) r.inputs (λ p. pow_pos (input_width r.kind (module_width n r) p))
      (λ p i within.
      let here = slice_index_or r.inputs p i in
      let has = (ok.modules_ok m r stands).reads p i within in
      subst (λ k. input_by n (level n) here t < 2 ^ k) has.1
      (below_cond (nat_lt t here.delay) (initial_of (wire_at n here.wire.0)) (level n here.wire.0 (t - here.delay)) (2 ^ width_of (wire_at n here.wire.0)) (initial_low here.wire.0) (levels (t - here.delay) (omega arith) here.wire.0)))

  first_states : LevelsFit 0 → StatesFit 0
  first_states levels m r stands =
      let params = (ok.modules_ok m r stands).params in
      let now : (s : ℕ) → s ≤ 0 → LevelsFit s = λ s upto. let same : 0 ≡ s = omega (arith, upto) in subst LevelsFit same levels in
      subst (OutputsFit r.kind (module_width n r)) (sym ((satisfies n ok).settled m r stands))
      (settle_fits (module_width n r) r.params (narrow r) r.kind (inputs_by n (level n) r 0) params (inputs_fit m 0 r stands now))

  next_states : (t : ℕ) → ((s : ℕ) → s ≤ t + 1 → LevelsFit s) → StatesFit t → StatesFit (t + 1)
  next_states t levels before m r stands =
      let params = (ok.modules_ok m r stands).params in
      subst (OutputsFit r.kind (module_width n r)) (sym ((satisfies n ok).stepped m t r stands))
      (step_fits (module_width n r) r.params (narrow r) r.kind (state n m t) (inputs_by n (level n) r (t + 1)) params (inputs_fit m (t + 1) r stands levels) (before m r stands))

  -- ---- up to a time

  record FitUpto (t : ℕ) : Type 0 where
    levels : (s : ℕ) → s ≤ t → LevelsFit s
    states : (s : ℕ) → s ≤ t → StatesFit s

  fit_upto : (t : ℕ) → FitUpto t
  fit_upto zero =
      let levels : LevelsFit 0 = λ w. driven_fits w 0 (λ s before. absurd (omega (arith, before))) in
      record {
        levels = λ s upto. let same : 0 ≡ s = omega (arith, upto) in subst LevelsFit same levels;
        states = λ s upto. let same : 0 ≡ s = omega (arith, upto) in subst StatesFit same (first_states levels);
      }
  fit_upto (suc t) = further t (fit_upto t)
    where
      further : (t : ℕ) → FitUpto t → FitUpto (suc t)
      further t known =
          let last : LevelsFit (t + 1) = λ w. driven_fits w (t + 1) (λ s before. known.states s (omega (arith, before))) in
          let levels : (s : ℕ) → s ≤ t + 1 → LevelsFit s = λ s upto. levels_at s upto (cases_lt s (t + 1)) last in
          let states : StatesFit (t + 1) = next_states t levels (known.states t (omega arith)) in
          record {
            levels = λ s upto. levels s (omega (arith, upto));
            states = λ s upto. states_at s (omega (arith, upto)) (cases_lt s (t + 1)) states;
          }
        where
          levels_at : (s : ℕ) → s ≤ t + 1 → (s < t + 1) ⊎ (t + 1 ≤ s) → LevelsFit (t + 1) → LevelsFit s
          levels_at s upto (inl sooner) last = known.levels s (omega (arith, sooner))
          levels_at s upto (inr late) last = let same : t + 1 ≡ s = omega (arith, upto, late) in subst LevelsFit same last

          states_at : (s : ℕ) → s ≤ t + 1 → (s < t + 1) ⊎ (t + 1 ≤ s) → StatesFit (t + 1) → StatesFit s
          states_at s upto (inl sooner) last = known.states s (omega (arith, sooner))
          states_at s upto (inr late) last = let same : t + 1 ≡ s = omega (arith, upto, late) in subst StatesFit same last

  pub level_fits : (w t : ℕ) → level n w t < 2 ^ width_of (wire_at n w)
  level_fits w t = (fit_upto t).levels t (omega arith) w
