-- What modules decided in the old run for the horizon and later.
use Rattle.std.proofs.Common.{◌≡◌, ℕ, ◌+◌, ◌-◌, ◌<◌, ◌≤◌, ◌^◌, ◌==◌, Bool, false, cond, List, [], ◌∷◌, ◌++◌, map, Option, Some, None, length, slice_index_or, zero, suc, refl, ap, sym, subst, ◌∙◌, arith, inl, inr}
use Rattle.std.proofs.lemmas.Bool.{cases_lt, cases_Bool, lt-leb, lt-ltb}
use Rattle.mp_wave.specs.Waveform.{Waveform, IsWaveform, level_of, level_from, between}
use Rattle.mp_wave.specs.Building.{IsBuilding}
use Rattle.mp_modules.specs.declared.memory.Memory.{Memory}
use Rattle.mp_modules.specs.Memories.{output_of}
use Rattle.mp_modules.specs.declared.storage.any_module.AnyModule.{AnyModule}
use Rattle.mp_records.specs.declared.ports.Input.{Input}
use Rattle.mp_modules.specs.Kinds.{output_count}
use Rattle.mp_modules.proofs.lemmas.storage.KindLemmas.{keeps_kind}
use Rattle.mp_records.specs.declared.module_record.ModuleRecord.{ModuleRecord}
use Rattle.mp_records.specs.Outputs.{output_at, delay_of, output_in}
use Rattle.mp_netlist.specs.declared.driver.Driver.{Driver}
use Rattle.mp_netlist.specs.Circuit.{Circuit, IsCircuit, Drives, wire_at, module_at, module_width}
use Rattle.mp_netlist.proofs.DriverLemmas.{finds_ports}
use Rattle.mp_model.specs.Levels.{built, inputs_by, initial_of, driven_level, port_level}
use Rattle.mp_model.specs.Tracks.{AreTimesIn, unchanged, held_all}
use Rattle.mp_model.specs.Waves.{level, state}
use Rattle.mp_model.proofs.BehaviourLemmas.{satisfies}
use Rattle.mp_model.proofs.HeldLemmas.{AreTimesIn-longer, levels-all}
use Rattle.mp_partition.specs.runs.Checkpoints.{state_before}
use Rattle.mp_partition.specs.runs.Outcomes.{Outcome}
use Rattle.mp_partition.specs.runs.Runs.{IsRun}
use Rattle.mp_model.specs.declared.response.piece.Piece.{Piece}
use Rattle.mp_model.specs.response.Delays as spans
use Rattle.mp_model.specs.response.Pieces.{put_off}
use Rattle.mp_model.specs.response.Span.{IsSpan, extended, output_changes, state_after}
use Rattle.mp_model.proofs.lemmas.response.DelayLemmas.{gives_levels}
use Rattle.mp_model.proofs.lemmas.response.JoinLemmas.{inside_alone}
use Rattle.mp_active.specs.compare.Comparing.{old_wave}
use Rattle.std.proofs.lemmas.List.{get_or_default}
use Rattle.std.proofs.lemmas.Option.{same_Some}
use Rattle.mp_records.specs.declared.ids.WireId.{WireId}
use Rattle.mp_records.specs.declared.ports.Output.{Output}
use Rattle.mp_simulation.specs.declared.units.netlist_simulation.NetlistSimulation.{NetlistSimulation}
use Rattle.mp_simulation.specs.units.DataLevels.{is_data}
use Rattle.mp_active.specs.steps.Putting.{HasPut, entries_of}
use Rattle.mp_active.proofs.lemmas.steps.OldChangeLemmas.{old_changes_are_ahead}
use Rattle.mp_redo.specs.declared.rerun.rerun.Rerun.{Rerun}
use Rattle.mp_redo.specs.rerun.Returning.{CanPutLast, HasPutSpan}
use Rattle.mp_redo.proofs.lemmas.rerun.OldStateLemmas.{old_inputs, before_alike}
use Rattle.mp_redo.proofs.lemmas.rerun.ReaderLemmas.{output_within}

-- a module that answers once more does what it did
pub answered_span : (old : Circuit) (ok : IsCircuit old) (run : Outcome) → IsRun old run → (m a to : ℕ) (r : ModuleRecord) (part : AnyModule) (seen : ℕ → List ℕ) (memory : Memory) (piece : Piece) → module_at old m ≡ Some r →
    part ≡ built old r → to ≤ old.horizon → memory ≡ state_before old m r a →
    ((t : ℕ) → a ≤ t → t < to → seen t ≡ map (λ (i : Input). level_of (old_wave run i.wire.0) (t - i.delay)) r.inputs) → IsSpan part seen memory a to piece → spans.IsSpanOf old (level old) (state old) m r a to piece
answered_span old ok run is m a to r part seen memory piece at same low begins levels span =
    inside_alone (built old r) seen (inputs_by old (level old) r) (spans.state_before (built old r) (state old m) a) a to piece
    (λ t from below. levels t from below ∙ old_inputs old ok run is m t r at (omega (arith, below, low)))
    (subst (λ (s : Memory). IsSpan (built old r) seen s a to piece) (begins ∙ sym (before_alike old m a r)) (subst (λ (x : AnyModule). IsSpan x seen memory a to piece) same span))

-- ---- the changes of an output come in its span
times_push : (xs : List (ℕ × ℕ)) (first end time later level : ℕ) → AreTimesIn first end xs → first ≤ time → end ≤ time → time < later → AreTimesIn first later (xs ++ (time, level) ∷ [])
times_push [] first end time later level are from past low = (from, low, tt)
times_push (x ∷ xs) first end time later level are from past low = (are.0, omega (arith, are.1, past, low), times_push xs (x.0 + 1) end time later level are.2 (omega (arith, are.1, past)) past low)

times_extended : (xs : List (ℕ × ℕ)) (a k before now : ℕ) → AreTimesIn a (a + k) xs → AreTimesIn a (a + (k + 1)) (extended xs (a + k) before now)
times_extended xs a k before now are =
    let longer = AreTimesIn-longer a (a + k) (a + (k + 1)) xs (omega arith) are in
    let pushed = times_push xs a (a + k) (a + k) (a + (k + 1)) now are (omega arith) (omega arith) (omega arith) in
    elim (cases_Bool (a + k == 0)) as (λ _. AreTimesIn a (a + (k + 1)) (extended xs (a + k) before now)) [
      | inl is ↦ rw is pushed
      | inr not ↦ rw not (elim (cases_Bool (before == now)) as (λ _. AreTimesIn a (a + (k + 1)) (cond (before == now) xs (xs ++ (a + k, now) ∷ []))) [
        | inl same ↦ rw same longer
        | inr differ ↦ rw differ pushed
      ])
    ]

times_of : (level : ℕ → ℕ) (a k : ℕ) → AreTimesIn a (a + k) (output_changes level a k)
unfolding output_changes
times_of level a zero = tt
times_of level a (suc k) =
    let e : a + (k + 1) ≡ a + suc k = omega arith in
    subst (λ b. AreTimesIn a b (output_changes level a (suc k))) e (times_extended (output_changes level a k) a k (level k) (level (suc k)) (times_of level a k))

times_off : (xs : List (ℕ × ℕ)) (delay a b : ℕ) → AreTimesIn a b xs → AreTimesIn (a + delay) (b + delay) (put_off delay xs)
times_off [] delay a b are = tt
times_off (x ∷ xs) delay a b are =
    let e : x.0 + 1 + delay ≡ x.0 + delay + 1 = omega arith in
    let low = are.0 in
    let high = are.1 in
    (omega (arith, low), omega (arith, high), subst (λ k. AreTimesIn k (b + delay) (put_off delay xs)) e (times_off xs delay (x.0 + 1) b are.2))

times_sooner : (xs : List (ℕ × ℕ)) (first a b : ℕ) → first ≤ a → AreTimesIn a b xs → AreTimesIn first b xs
times_sooner [] first a b le are = tt
times_sooner (x ∷ xs) first a b le are = let low = are.0 in (omega (arith, le, low), are.1, are.2)

-- before the first the level stays
none_yet : (xs : List (ℕ × ℕ)) (delay a b level t : ℕ) → AreTimesIn a b xs → t < a + delay → level_from level (put_off delay xs) t ≡ level
none_yet [] delay a b level t times early = refl
none_yet (x ∷ xs) delay a b level t times early = rw (lt-leb (x.0 + delay) t (omega (arith, times.0, early))) refl

-- ---- a wire has its initial level until its delay is over
pub early_level : (n : Circuit) → IsCircuit n → (m p w u : ℕ) (r : ModuleRecord) → module_at n m ≡ Some r → Drives n m p w → u < delay_of r p → level n w u ≡ initial_of (wire_at n w)
early_level n ok m p w u r at drives early =
    (satisfies n ok).levels w u
    ∙ ap (λ (d : Driver). driven_level d n (state n) w u) (finds_ports n ok m p w drives)
    ∙ ap (λ (slot : Option ModuleRecord). port_level (state n) slot m p (initial_of (wire_at n w)) u) at
    ∙ ap (λ b. cond b (initial_of (wire_at n w)) (output_of (state n m (u - delay_of r p)) p)) (lt-ltb u (delay_of r p) early)

-- a module that answers has as many outputs as its record
pub port_count : (n : Circuit) → IsCircuit n → (m a b : ℕ) (r : ModuleRecord) (piece : Piece) → module_at n m ≡ Some r → spans.IsSpanOf n (level n) (state n) m r a b piece → length piece.outputs ≡ length r.outputs
port_count n ok m a b r piece at span = span.ports ∙ ap output_count (keeps_kind r.kind r.params (module_width n r)) ∙ sym (ok.modules_ok m r at).outputs

-- an output of a module has a delay
pub output_delay : (n : Circuit) → IsCircuit n → (m p : ℕ) (r : ModuleRecord) → module_at n m ≡ Some r → p < length r.outputs → (0 < delay_of r p) × (delay_of r p ≤ 65535)
output_delay n ok m p r at inside = let is = (ok.modules_ok m r at).delays p (record { wire = None; delay = 1 }) inside in let some = is.0 in let short = is.1 in (omega (arith, some), omega (arith, short))

module _ (old : Circuit) (ok : IsCircuit old) (m p t first : ℕ) (r : ModuleRecord) (piece : Piece) (at : module_at old m ≡ Some r)
    (some : 0 < delay_of r p) (low : t + delay_of r p < 2 ^ 32 - 2) (span : spans.IsSpanOf old (level old) (state old) m r first (t + 1) piece) (port : p < length piece.outputs)
    (first_is : first ≡ old.horizon - delay_of r p) (early : first ≤ t) where
  abbrev changes : List (ℕ × ℕ)
  changes = slice_index_or piece.outputs p []

  times : AreTimesIn first (t + 1) changes
  times =
      let e : first + (t + 1 - first) ≡ t + 1 = omega (arith, early) in
      subst (λ (xs : List (ℕ × ℕ)). AreTimesIn first (t + 1) xs) (sym (span.outputs p (subst (λ k. p < k) span.ports port)))
      (subst (λ b. AreTimesIn first b (output_changes (λ j. output_of (state_after (built old r) (inputs_by old (level old) r) (spans.state_before (built old r) (state old m) first) first j) p) first (t + 1 - first))) e
      (times_of (λ j. output_of (state_after (built old r) (inputs_by old (level old) r) (spans.state_before (built old r) (state old m) first) first j) p) first (t + 1 - first)))

  pub times_later : AreTimesIn 1 (2 ^ 32 - 1) (put_off (delay_of r p) changes)
  times_later =
      times_sooner (put_off (delay_of r p) changes) 1 (first + delay_of r p) (2 ^ 32 - 1) (omega (arith, some))
      (AreTimesIn-longer (first + delay_of r p) (t + 1 + delay_of r p) (2 ^ 32 - 1) (put_off (delay_of r p) changes) (omega (arith, low)) (times_off changes (delay_of r p) first (t + 1) times))

  module _ (first_level w : ℕ) (drives : Drives old m p w) (stands : first_level ≡ level old w (old.horizon - 1)) where
    same_part : drives.part ≡ r
    same_part = let one = drives.stands in let other = at in cc

    abbrev own : Drives old m p w
    own = record { part = r; stands = at; output = ap (λ (x : ModuleRecord). (output_at x p).wire) (sym same_part) ∙ drives.output }

    -- from the delay of the first on
    given : (u : ℕ) → first + delay_of r p ≤ u → u < t + 1 + delay_of r p → level old w u ≡ level_from (level old w (first + delay_of r p - 1)) (put_off (delay_of r p) changes) u
    given u from below = gives_levels old (level old) (state old) ok (satisfies old ok) m p w first (t + 1) u own piece span from below

    -- the level right before is the last one of the run
    before : level old w (first + delay_of r p - 1) ≡ first_level
    before = elim (cases_lt old.horizon (delay_of r p)) as (λ _. level old w (first + delay_of r p - 1) ≡ first_level) [
      | inl long ↦
          early_level old ok m p w (first + delay_of r p - 1) r at drives (omega (arith, first_is, some, long))
          ∙ sym (early_level old ok m p w (old.horizon - 1) r at drives (omega (arith, some, long))) ∙ sym stands
      | inr short ↦ ap (level old w) (let e : first + delay_of r p - 1 ≡ old.horizon - 1 = omega (arith, first_is, short) in e) ∙ sym stands
    ]

    built_wave : IsBuilding (unchanged first_level)
    built_wave = record { form = tt; over = omega arith }

    pub last_levels : (u : ℕ) → old.horizon ≤ u + 1 → u ≤ t + delay_of r p → level_of (held_all (unchanged first_level) (put_off (delay_of r p) changes)).wave u ≡ level old w u
    last_levels u from upto =
        levels-all (unchanged first_level) (2 ^ 32 - 1) u (put_off (delay_of r p) changes) built_wave times_later
        ∙ elim (cases_lt u (first + delay_of r p)) as (λ _. level_from first_level (put_off (delay_of r p) changes) u ≡ level old w u) [
          | inl soon ↦ none_yet changes (delay_of r p) first (t + 1) first_level u times soon ∙ stays soon
          | inr late ↦ sym (given u late (omega (arith, upto)) ∙ ap (λ l. level_from l (put_off (delay_of r p) changes) u) before)
        ]
      where
        stays : u < first + delay_of r p → first_level ≡ level old w u
        stays soon = elim (cases_lt old.horizon (delay_of r p)) as (λ _. first_level ≡ level old w u) [
          | inl long ↦
              stands ∙ early_level old ok m p w (old.horizon - 1) r at drives (omega (arith, some, long)) ∙ sym (early_level old ok m p w u r at drives (omega (arith, first_is, soon, long)))
          | inr short ↦ stands ∙ ap (level old w) (let e : old.horizon - 1 ≡ u = omega (arith, first_is, short, soon, from) in e)
        ]

-- ---- the changes of that wave are put into the wheels
module _ (old new : Circuit) (ok : IsCircuit new) (t m port from : ℕ) (found : ModuleRecord) (s : Rerun) (items : List Output) (same : items ≡ found.outputs) (at : module_at new m ≡ Some found) (part : ModuleRecord) (wire : ℕ)
    (can : CanPutLast old new t m port part wire from s) where
  pub part_is : part ≡ found
  part_is = same_Some part found (sym can.kept.after ∙ at)

  pub port_within : port < length found.outputs
  port_within = subst (λ (r : ModuleRecord). port < length r.outputs) part_is (output_within part.outputs port wire can.output)

  pub port_inside : port < length items
  port_inside = subst (λ (xs : List Output). port < length xs) (sym same) port_within

  pub drives_last : Drives new m port wire
  drives_last = record { part = part; stands = can.kept.after; output = can.output }

  module _ (here : Output) (is : here ≡ slice_index_or items port here) where
    here_is : output_at part port ≡ here
    here_is = ap (λ (r : ModuleRecord). output_at r port) part_is ∙ ap (λ (xs : List Output). output_in xs port) (sym same) ∙ get_or_default items port (record { wire = None; delay = 1 }) here port_inside ∙ sym is

    pub here_wire : here.wire ≡ Some (record { 0 = wire })
    here_wire = ap (λ (o : Output). o.wire) (sym here_is) ∙ can.output

    pub here_delay : delay_of part port ≡ here.delay
    here_delay = ap (λ (o : Output). o.delay) here_is

    pub found_delay : delay_of found port ≡ here.delay
    found_delay = ap (λ (r : ModuleRecord). delay_of r port) (sym part_is) ∙ here_delay

    module _ (v : WireId) (wire_is : here.wire ≡ Some v) where
      pub same_wire : v.0 ≡ wire
      same_wire = ap (λ (x : WireId). x.0) (same_Some v (record { 0 = wire }) (sym wire_is ∙ here_wire))

      pub kind_within : v.0 < length s.comparison.numbers.have_data.items
      kind_within = subst (λ k. k < length s.comparison.numbers.have_data.items) (sym same_wire) can.place

      pub kind_told : (kind : Bool) → kind ≡ slice_index_or s.comparison.numbers.have_data.items v.0 kind → kind ≡ is_data new wire
      kind_told kind told =
          told ∙ get_or_default s.comparison.numbers.have_data.items v.0 kind false kind_within ∙ ap (λ k. slice_index_or s.comparison.numbers.have_data.items k false) same_wire ∙ can.sort

      -- what is put is what the wire changes
      pub put_span : (kind : Bool) → kind ≡ slice_index_or s.comparison.numbers.have_data.items v.0 kind → (wave : Waveform) → IsWaveform wave →
          ((w u : ℕ) → Drives new m port w → new.horizon ≤ u + 1 → u ≤ t + delay_of found port → level_of wave u ≡ level old w u) → new.horizon ≤ from → t + 1 < new.horizon →
          (sim : NetlistSimulation) → HasPut kind (entries_of v.0 t (between (from - 1) (t + 1 + here.delay) wave.changes)) s.simulation sim →
          HasPutSpan new wire t (from - 1) (t + 1 + delay_of part port) s (record s { simulation = sim })
      put_span kind told wave form levels last below sim put = record {
        entries = entries_of wire t (between (from - 1) (t + 1 + delay_of part port) wave.changes);
        are = old_changes_are_ahead new wire t (from - 1) (t + 1 + delay_of part port) wave form (omega (arith, last, below)) (λ u later before.
            levels wire u drives_last (omega (arith, last, later)) (let d = found_delay in let e = here_delay in omega (arith, before, d, e)) ∙ can.agrees u (omega (arith, later)) (omega (arith, before)));
        put = subst (λ b. HasPut b (entries_of wire t (between (from - 1) (t + 1 + delay_of part port) wave.changes)) s.simulation sim) (kind_told kind told)
            (subst (λ d. HasPut kind (entries_of wire t (between (from - 1) (t + 1 + d) wave.changes)) s.simulation sim) (sym here_delay)
            (subst (λ w. HasPut kind (entries_of w t (between (from - 1) (t + 1 + here.delay) wave.changes)) s.simulation sim) same_wire put));
        kept = refl;
      }
