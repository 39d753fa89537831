-- States of modules in the old run.
use Rattle.std.proofs.Common.{◌≡◌, ℕ, ◌-◌, ◌%◌, ◌<◌, ◌≤◌, Bool, true, false, List, [], ◌∷◌, map, Option, Some, None, IsSome, nat_lt, ◌==◌, option_map, zero, suc, refl, ap, sym, subst, ◌∙◌, arith}
use Rattle.std.specs.Prelude.{◌&&◌, if◌then◌else◌}
use Rattle.std.specs.List.{Contains}
use Rattle.std.proofs.lemmas.Bool.{and_from, lt-ltb, eq-eqb}
use Rattle.std.proofs.lemmas.Option.{same_Some, none-some}
use Rattle.mp_wave.specs.Waveform.{level_of}
use Rattle.mp_wave.proofs.ChangesLemmas.{levels_of_wave}
use Rattle.mp_modules.specs.declared.memory.Memory.{Memory}
use Rattle.mp_modules.specs.Memories.{blank}
use Rattle.mp_modules.specs.declared.storage.any_module.AnyModule.{AnyModule}
use Rattle.mp_records.specs.declared.wire_record.WireRecord.{WireRecord}
use Rattle.mp_records.specs.declared.module_record.ModuleRecord.{ModuleRecord}
use Rattle.mp_records.specs.declared.ports.Input.{Input}
use Rattle.mp_netlist.specs.Slots.{slot_at}
use Rattle.mp_netlist.specs.Circuit.{Circuit, IsCircuit, wire_at, module_at}
use Rattle.mp_netlist.specs.Limits.{checkpoint_units}
use Rattle.mp_netlist.proofs.LimitLemmas.{units_positive}
use Rattle.mp_model.specs.Levels.{built, input_by, inputs_by}
use Rattle.mp_model.specs.Waves.{level, state, wave, slot_wave}
use Rattle.mp_model.proofs.BehaviourLemmas.{satisfies}
use Rattle.mp_model.proofs.InputLemmas.{input_is}
use Rattle.mp_partition.specs.declared.runs.checkpoint.Checkpoint.{Checkpoint}
use Rattle.mp_partition.specs.runs.Checkpoints.{kept_at, state_before, IsBorder}
use Rattle.mp_partition.specs.runs.Outcomes.{Outcome}
use Rattle.mp_partition.specs.runs.Runs.{IsRun, checkpoint}
use Rattle.mp_model.specs.declared.response.piece.Piece.{Piece}
use Rattle.mp_model.specs.response.Span.{IsSpan}
use Rattle.mp_model.specs.response.Delays as spans
use Rattle.mp_model.proofs.lemmas.response.JoinLemmas.{inside_alone}
use Rattle.mp_model.proofs.lemmas.response.DelayLemmas.{ends_in_state}
use Rattle.mp_depend.specs.recording.Overlays.{state_in}
use Rattle.mp_depend.specs.work.Work.{block_of}
use Rattle.mp_partition.proofs.lemmas.runs.MultipleLemmas.{whole_rest}
use Rattle.mp_active.specs.compare.Comparing.{wave_or_none, old_wave}

-- lists that are the same at each element
pub map_same : (f g : Input → ℕ) (inputs : List Input) → ((i : Input) → Contains inputs i → f i ≡ g i) → map f inputs ≡ map g inputs
map_same f g [] same = refl
map_same f g (i ∷ is) same =
    let here = same i (0, omega arith, refl) in
    let others = map_same f g is (λ v has. same v (suc has.0, omega (arith, has.1), has.2)) in
    ap (λ x. x ∷ map f is) here ∙ ap (λ xs. g i ∷ xs) others

-- the state before a time, as spans and as runs have it
pub before_alike : (n : Circuit) (m t : ℕ) (r : ModuleRecord) → spans.state_before (built n r) (state n m) t ≡ state_before n m r t
before_alike n m zero r = refl
before_alike n m (suc t) r = refl

module _ (old : Circuit) (ok : IsCircuit old) (run : Outcome) (is : IsRun old run) where
  -- the wave that the run has of a wire that stands has its levels
  pub old_level : (w t : ℕ) → IsSome (wire_at old w) → t < old.horizon → level_of (old_wave run w) t ≡ level old w t
  old_level w t stands low = ap (λ slot. level_of (wave_or_none slot) t) (is.waves w ∙ some (wire_at old w) stands) ∙ levels_of_wave (level old w) (old.horizon - 1) t (omega arith)
    where
      some : (slot : Option WireRecord) → IsSome slot → slot_wave old w slot ≡ Some (wave old w)
      some None stands = let no : ⊥ = cc in absurd no
      some (Some r) stands = refl

  -- so has what is heard at a module's inputs
  pub old_inputs : (m t : ℕ) (r : ModuleRecord) → module_at old m ≡ Some r → t < old.horizon → map (λ (i : Input). level_of (old_wave run i.wire.0) (t - i.delay)) r.inputs ≡ inputs_by old (level old) r t
  old_inputs m t r at low = map_same (λ i. level_of (old_wave run i.wire.0) (t - i.delay)) (λ i. input_by old (level old) i t) r.inputs
      (λ i has. old_level i.wire.0 (t - i.delay) (stands i has) (omega arith) ∙ sym (input_is old ok i t))
    where
      stands : (i : Input) → Contains r.inputs i → IsSome (wire_at old i.wire.0)
      stands i has = subst (λ (v : Input). IsSome (wire_at old v.wire.0)) has.2 (((ok.modules_ok m r at).reads has.0 i has.1).0)

  -- the state before a border that the run kept
  pub kept_state : (m b : ℕ) (r : ModuleRecord) → module_at old m ≡ Some r → IsBorder old.horizon b → b < old.horizon → state_in (slot_at run.kept m) b ≡ state_before old m r b
  kept_state m b r at border low = by (slot_at run.kept m) (opened (nat_lt b run.horizon && b % checkpoint_units run.horizon == 0) (is.checkpoints m b ∙ told ∙ ap (option_map (λ (x : ModuleRecord). state_before old m x b)) at))
    where
      test : (nat_lt b old.horizon && b % checkpoint_units old.horizon == 0) ≡ true
      test = and_from (nat_lt b old.horizon) (b % checkpoint_units old.horizon == 0) (lt-ltb b old.horizon low) (eq-eqb (b % checkpoint_units old.horizon) 0 border)

      told : checkpoint old m b ≡ option_map (λ (x : ModuleRecord). state_before old m x b) (module_at old m)
      told = rw test refl

      opened : (test : Bool) → (if test then option_map (λ ks. kept_at ks b blank) (slot_at run.kept m) else None) ≡ Some (state_before old m r b) → option_map (λ ks. kept_at ks b blank) (slot_at run.kept m) ≡ Some (state_before old m r b)
      opened true e = e
      opened false e = absurd (none-some (state_before old m r b) e)

      by : (slot : Option (List Checkpoint)) → option_map (λ ks. kept_at ks b blank) slot ≡ Some (state_before old m r b) → state_in slot b ≡ state_before old m r b
      by None e = absurd (none-some (state_before old m r b) e)
      by (Some ks) e = same_Some (kept_at ks b blank) (state_before old m r b) e

  -- so is that before the block of a time begins
  pub block_state : (m b t : ℕ) (r : ModuleRecord) → module_at old m ≡ Some r → b ≡ block_of old.horizon t → t < old.horizon → state_in (slot_at run.kept m) b ≡ state_before old m r b
  block_state m b t r at begins low =
      let border : IsBorder old.horizon b = ap (λ (k : ℕ). k % checkpoint_units old.horizon) begins ∙ whole_rest t (checkpoint_units old.horizon) (units_positive old.horizon) in
      let early : b ≤ t = omega arith in
      kept_state m b r at border (omega arith)

  -- a module that answers once more from such a border on comes to its state before a time
  pub answered_state : (m a to : ℕ) (r : ModuleRecord) (part : AnyModule) (seen : ℕ → List ℕ) (memory : Memory) (piece : Piece) → module_at old m ≡ Some r → part ≡ built old r → a < to → to ≤ old.horizon →
      memory ≡ state_before old m r a → ((t : ℕ) → a ≤ t → t < to → seen t ≡ map (λ (i : Input). level_of (old_wave run i.wire.0) (t - i.delay)) r.inputs) → IsSpan part seen memory a to piece →
      piece.memory ≡ state_before old m r to
  answered_state m a to r part seen memory piece at same rise low begins levels span =
      ends_in_state old (level old) (state old) (satisfies old ok) m a to r piece at (omega arith) inside ∙ before_alike old m to r
    where
      first : IsSpan (built old r) seen memory a to piece
      first = subst (λ (x : AnyModule). IsSpan x seen memory a to piece) same span

      second : IsSpan (built old r) seen (spans.state_before (built old r) (state old m) a) a to piece
      second = subst (λ (s : Memory). IsSpan (built old r) seen s a to piece) (begins ∙ sym (before_alike old m a r)) first

      inside : IsSpan (built old r) (inputs_by old (level old) r) (spans.state_before (built old r) (state old m) a) a to piece
      inside = inside_alone (built old r) seen (inputs_by old (level old) r) (spans.state_before (built old r) (state old m) a) a to piece
          (λ t from below. levels t from below ∙ old_inputs m t r at (omega arith)) second
