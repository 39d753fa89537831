-- A module with data goes on to its state in the next unit, and stays in it where nothing is heard; and its outputs and inputs tell its state.
use Rattle.std.proofs.Common.{◌≡◌, ℕ, zero, suc, ◌+◌, ◌<◌, Bool, true, false, not, List, [], ◌∷◌, Some, All, length, map, refl, sym, ap, ◌∙◌, arith, subst}
use Rattle.std.specs.Prelude.{◌==◌, slice_index}
use Rattle.std.proofs.lemmas.Bool.{eqb-true}
use Rattle.std.proofs.lemmas.List.Elements.{All-head, All-tail}
use Rattle.mp_modules.specs.declared.memory.Memory.{Memory}
use Rattle.mp_modules.specs.Memories.{input_levels, is_event}
use Rattle.mp_modules.specs.declared.storage.any_module.AnyModule.{AnyModule}
use Rattle.mp_modules.specs.storage.AnyModules.{settle, step}
use Rattle.mp_records.specs.declared.module_record.ModuleRecord.{ModuleRecord}
use Rattle.mp_records.specs.declared.ports.Input.{Input}
use Rattle.mp_netlist.specs.Circuit.{Circuit, IsCircuit, module_at}
use Rattle.mp_model.specs.Levels.{built, input_by, inputs_by}
use Rattle.mp_model.specs.Waves.{level, state}
use Rattle.mp_model.proofs.BehaviourLemmas.{satisfies}
use Rattle.mp_model.proofs.StepLemmas.{step_padded}
use Rattle.mp_modules.specs.declared.automata.events.Events.{Events}
use Rattle.mp_modules.specs.automata.BitModules.{events_in}
use Rattle.mp_modules.specs.automata.Codes.{no_events}
use Rattle.mp_kernel.specs.declared.events.fanout_entry.FanoutEntry.{FanoutEntry}
use Rattle.mp_kernel.specs.events.Adding.{listed}
use Rattle.mp_kernel.specs.events.Ports.{HasPorts}
use Rattle.mp_kernel.proofs.lemmas.events.PortLemmas.{events_add_up}
use Rattle.mp_simulation.specs.bits.PortEvents.{source_of, AreHeard}
use Rattle.mp_simulation.specs.bits.Simulators.{AreOnlyDue}
use Rattle.mp_simulation.proofs.lemmas.bits.StayLemmas.{states_stay}
use Rattle.mp_simulation.proofs.lemmas.bits.PortEventLemmas.{held, same_head, same_rest, ports_have_events}
use Rattle.mp_simulation.proofs.lemmas.bits.NumberLemmas.{no_events_when}
use Rattle.mp_kernel.specs.declared.datapath.data_module.DataModule.{DataModule}
use Rattle.mp_kernel.specs.datapath.Levels.{level_at}
use Rattle.mp_modules.specs.declared.storage.data_part.DataPart.{DataPart}
use Rattle.mp_modules.specs.declared.storage.output_levels.OutputLevels.{OutputLevels}
use Rattle.mp_modules.specs.storage.DataParts.{any_part, outputs_in, next_outputs, memory_with}
use Rattle.mp_kernel.specs.datapath.DataModules.{input_of, inputs_of, outputs_after, memory_of}
use Rattle.mp_modules.proofs.lemmas.storage.PartLemmas.{first_step, later_step, told_by_outputs}
use Rattle.mp_simulation.specs.units.DataLevels.{late_level}
use Rattle.mp_simulation.specs.units.DataSeats.{number_at}

abbrev four : ℕ → ℕ → ℕ → ℕ → List ℕ
four a b c d = a ∷ b ∷ c ∷ d ∷ []

four_same : (a b c d e f g h : ℕ) → a ≡ e → b ≡ f → c ≡ g → d ≡ h → four a b c d ≡ four e f g h
four_same a b c d e f g h one two three last =
    ap (λ x. four x b c d) one ∙ ap (λ x. four e x c d) two ∙ ap (λ x. four e f x d) three ∙ ap (λ x. four e f g x) last

none_there : {A : Type 0} {a : A} {xs : List A} → [] ≡ a ∷ xs → ⊥
none_there {a = a} {xs = xs} same = let e = ap length same in omega arith

-- the level that an input reads is its own
read_level : (n : Circuit) (source : ℕ → ℕ × ℕ) (numbers u : ℕ) (levels : List ℕ) → ((x : ℕ) → x < numbers → slice_index levels x ≡ late_level n (source x) u) →
    (xs : List ℕ) (is : List Input) (p : ℕ) → map source xs ≡ map source_of is → All (λ x. x < numbers) xs →
    level_at levels (number_at xs p) ≡ slice_index (map (λ i. input_by n (level n) i u) is) p
read_level n source numbers u levels right [] [] p same low = refl
read_level n source numbers u levels right [] (i ∷ is) p same low = absurd (none_there same)
read_level n source numbers u levels right (x ∷ xs) [] p same low = absurd (none_there (sym same))
read_level n source numbers u levels right (x ∷ xs) (i ∷ is) zero same low =
    right x (All-head (λ y. y < numbers) x xs low) ∙ ap (λ (s : ℕ × ℕ). late_level n s u) (same_head same)
read_level n source numbers u levels right (x ∷ xs) (i ∷ is) (suc p) same low =
    read_level n source numbers u levels right xs is p (same_rest same) (All-tail (λ y. y < numbers) x xs low)

module _ (n : Circuit) (ok : IsCircuit n) (q t : ℕ) (r : ModuleRecord) (stands : module_at n q ≡ Some r) (source : ℕ → ℕ × ℕ) (xs : List ℕ) (same : map source xs ≡ map source_of r.inputs) where
  -- a step from its state goes by the outputs alone
  goes_on : (part : DataPart) → any_part part ≡ built n r → (t : ℕ) (x : List ℕ) → outputs_in (step (any_part part) (state n q t) x) ≡ next_outputs part (outputs_in (state n q t)) x
  goes_on part does zero x =
      let first : state n q 0 ≡ settle (any_part part) (inputs_by n (level n) r 0) =
      (satisfies n ok).settled q r stands ∙ ap (λ (a : AnyModule). settle a (inputs_by n (level n) r 0)) (sym does) in
      subst (λ (s : Memory). outputs_in (step (any_part part) s x) ≡ next_outputs part (outputs_in s) x) (sym first) (first_step part (inputs_by n (level n) r 0) x)
  goes_on part does (suc u) x =
      let next : u + 1 ≡ suc u = omega arith in
      let later : state n q (suc u) ≡ step (any_part part) (state n q u) (inputs_by n (level n) r (u + 1)) =
      ap (state n q) (sym next) ∙ (satisfies n ok).stepped q u r stands ∙ ap (λ (a : AnyModule). step a (state n q u) (inputs_by n (level n) r (u + 1))) (sym does) in
      subst (λ (s : Memory). outputs_in (step (any_part part) s x) ≡ next_outputs part (outputs_in s) x) (sym later)
      (later_step part (state n q u) (inputs_by n (level n) r (u + 1)) x)

  -- where the levels are those of the next unit
  pub steps : (m : DataModule) (numbers : ℕ) (levels : List ℕ) → any_part m.part ≡ built n r → m.outputs ≡ outputs_in (state n q t) → ((p : ℕ) → input_of m p ≡ number_at xs p) → All (λ x. x < numbers) xs →
      ((x : ℕ) → x < numbers → slice_index levels x ≡ late_level n (source x) (t + 1)) → outputs_after levels m ≡ outputs_in (state n q (t + 1))
  steps m numbers levels does outputs reads low right =
      let at : (p : ℕ) → level_at levels (input_of m p) ≡ slice_index (inputs_by n (level n) r (t + 1)) p =
      λ p. ap (level_at levels) (reads p) ∙ read_level n source numbers (t + 1) levels right xs r.inputs p same low in
      let inputs : inputs_of levels m ≡ input_levels (inputs_by n (level n) r (t + 1)) = four_same _ _ _ _ _ _ _ _ (at 0) (at 1) (at 2) (at 3) in
      ap (λ (o : OutputLevels). next_outputs m.part o (inputs_of levels m)) outputs
      ∙ sym (goes_on m.part does t (inputs_of levels m))
      ∙ ap (λ (part : AnyModule). outputs_in (step part (state n q t) (inputs_of levels m))) does
      ∙ ap outputs_in
      (ap (step (built n r) (state n q t)) inputs
      ∙ step_padded (built n r) (state n q t) (inputs_by n (level n) r (t + 1))
      ∙ sym ((satisfies n ok).stepped q t r stands))

  -- its state is told by its outputs and the levels at its inputs
  tells : (part : DataPart) → any_part part ≡ built n r → (t : ℕ) → state n q t ≡ memory_with (outputs_in (state n q t)) (inputs_by n (level n) r t)
  tells part does zero =
      let first : state n q 0 ≡ settle (any_part part) (inputs_by n (level n) r 0) =
      (satisfies n ok).settled q r stands ∙ ap (λ (a : AnyModule). settle a (inputs_by n (level n) r 0)) (sym does) in
      subst (λ (s : Memory). s ≡ memory_with (outputs_in s) (inputs_by n (level n) r 0)) (sym first) ((told_by_outputs part).settled (inputs_by n (level n) r 0))
  tells part does (suc u) =
      let next : u + 1 ≡ suc u = omega arith in
      let later : state n q (u + 1) ≡ step (any_part part) (state n q u) (inputs_by n (level n) r (u + 1)) =
      (satisfies n ok).stepped q u r stands ∙ ap (λ (a : AnyModule). step a (state n q u) (inputs_by n (level n) r (u + 1))) (sym does) in
      subst (λ k. state n q k ≡ memory_with (outputs_in (state n q k)) (inputs_by n (level n) r k)) next
      (subst (λ (s : Memory). s ≡ memory_with (outputs_in s) (inputs_by n (level n) r (u + 1))) (sym later)
      ((told_by_outputs part).stepped (state n q u) (inputs_by n (level n) r (u + 1))))

  -- where the levels are those of this unit
  pub memory_is : (m : DataModule) (numbers : ℕ) (levels : List ℕ) → any_part m.part ≡ built n r → m.outputs ≡ outputs_in (state n q t) → ((p : ℕ) → input_of m p ≡ number_at xs p) → All (λ x. x < numbers) xs →
      ((x : ℕ) → x < numbers → slice_index levels x ≡ late_level n (source x) t) → memory_of levels m ≡ state n q t
  memory_is m numbers levels does outputs reads low right =
      let at : (p : ℕ) → level_at levels (input_of m p) ≡ slice_index (inputs_by n (level n) r t) p =
      λ p. ap (level_at levels) (reads p) ∙ read_level n source numbers t levels right xs r.inputs p same low in
      let inputs : inputs_of levels m ≡ input_levels (inputs_by n (level n) r t) = four_same _ _ _ _ _ _ _ _ (at 0) (at 1) (at 2) (at 3) in
      ap (λ (o : OutputLevels). memory_with o (inputs_of levels m)) outputs
      ∙ ap (memory_with (outputs_in (state n q t))) inputs
      ∙ sym (tells m.part does t)

  not_none : (b : Bool) → not b ≡ false → b ≡ true
  not_none true is = refl
  not_none false is = sym is

  same_input : (p : ℕ) → is_event (state n q t) (inputs_by n (level n) r (t + 1)) p ≡ false →
      slice_index (inputs_by n (level n) r (t + 1)) p ≡ slice_index (state n q t).inputs p
  same_input p none =
      sym (eqb-true (slice_index (state n q t).inputs p) (slice_index (inputs_by n (level n) r (t + 1)) p)
      (not_none (slice_index (state n q t).inputs p == slice_index (inputs_by n (level n) r (t + 1)) p) none))

  -- where no input has an event
  stays : events_in (state n q t) (inputs_by n (level n) r (t + 1)) ≡ no_events → state n q (t + 1) ≡ state n q t
  stays none =
      let inputs : input_levels (inputs_by n (level n) r (t + 1)) ≡ input_levels (state n q t).inputs =
      four_same _ _ _ _ _ _ _ _
      (same_input 0 (ap (λ (e : Events). e.first) none)) (same_input 1 (ap (λ (e : Events). e.second) none))
      (same_input 2 (ap (λ (e : Events). e.third) none)) (same_input 3 (ap (λ (e : Events). e.fourth) none)) in
      let back : input_levels (state n q t).inputs ≡ (state n q t).inputs = ap input_levels (held n ok q t r stands) ∙ sym (held n ok q t r stands) in
      (satisfies n ok).stepped q t r stands
      ∙ sym (step_padded (built n r) (state n q t) (inputs_by n (level n) r (t + 1)))
      ∙ ap (step (built n r) (state n q t)) (inputs ∙ back)
      ∙ states_stay n ok q t r stands

  -- so it is where the place isn't due
  pub rests : (rows : List (List FanoutEntry)) (heard due : List ℕ) → HasPorts rows q xs → AreHeard n source heard (t + 1) xs → AreOnlyDue rows heard due → listed q due ≡ 0 →
      state n q (t + 1) ≡ state n q t
  rests rows heard due ports each only idle =
      let e = events_in (state n q t) (inputs_by n (level n) r (t + 1)) in
      let own = ports_have_events n ok q t r source xs heard stands same each in
      let sum = events_add_up rows q xs heard e ports own in
      stays (no_events_when e (sym sum ∙ only q idle))
