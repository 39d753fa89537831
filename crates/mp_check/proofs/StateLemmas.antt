-- What the state of a module holds at the end of a run.
use Rattle.std.proofs.Common.{◌≡◌, ℕ, ◌+◌, ◌-◌, ◌<◌, ◌≤◌, List, [], ◌∷◌, length, get_or, slice_index, Some, true, zero, suc, refl, ap, sym, subst, ◌∙◌, arith}
use Rattle.std.specs.Prelude.{slice_get, nat_le}
use Rattle.std.proofs.lemmas.Bool.{leb-true, and_parts}
use Rattle.std.proofs.lemmas.List.{get_or_past, length-map}
use Rattle.mp_modules.specs.declared.core_module.CoreModule.{CoreModule}
use Rattle.mp_modules.specs.declared.core_module.CoreModule.TheVariants as core
use Rattle.mp_modules.specs.declared.memory.Memory.{Memory}
use Rattle.mp_modules.specs.declared.storage.any_module.AnyModule.{AnyModule}
use Rattle.mp_modules.specs.declared.storage.any_module.AnyModule.TheVariants as parts
use Rattle.mp_modules.specs.Memories.{input_levels, seen}
use Rattle.mp_modules.specs.Tables as tables
use Rattle.mp_modules.specs.storage.AnyModules.{start, settle, step}
use Rattle.mp_records.specs.declared.ids.WireId.{WireId}
use Rattle.mp_records.specs.declared.module_record.ModuleRecord.{ModuleRecord}
use Rattle.mp_records.specs.declared.ports.Input.{Input}
use Rattle.mp_records.specs.Outputs.{output_at, delay_of}
use Rattle.mp_netlist.specs.Circuit.{Circuit, IsCircuit, Drives, module_at}
use Rattle.mp_netlist.specs.declared.driver.Driver.TheVariants.{Port}
use Rattle.mp_netlist.specs.Drivers.{driver}
use Rattle.mp_netlist.proofs.DriverLemmas.{finds_ports}
use Rattle.mp_model.specs.Levels.{built, input_by, inputs_by}
use Rattle.mp_model.specs.Waves.{level, state}
use Rattle.mp_model.proofs.BehaviourLemmas.{satisfies}
use Rattle.mp_model.proofs.EvaluationLemmas.{port_level_is}
use Rattle.mp_questions.specs.timing.Events.{since}
use Rattle.mp_questions.specs.timing.Waits.{given}
use Rattle.mp_check.specs.Dead.{last_unit, is_still, is_quiet}
use Rattle.mp_questions.proofs.lemmas.timing.EarLemmas.{map_at}
use Rattle.mp_check.proofs.StillLemmas.{since_still}

core_inputs : (part : CoreModule) (m : Memory) (x : List ℕ) → (tables.step part m x).inputs ≡ input_levels x
core_inputs (core.C c) m x = refl
core_inputs _ m x = refl

-- a state holds the levels of its inputs
step_inputs : (part : AnyModule) (m : Memory) (x : List ℕ) → (step part m x).inputs ≡ input_levels x
unfolding step
step_inputs (parts.Core part) m x = core_inputs part m x
step_inputs (parts.Reg part) m x = refl
step_inputs (parts.Function part) m x = refl

pub settle_is : (part : AnyModule) (x : List ℕ) → settle part x ≡ step part (seen x (start part)) x
unfolding settle step start
settle_is (parts.Core part) x = refl
settle_is (parts.Reg part) x = refl
settle_is (parts.Function part) x = refl

padded : (x : List ℕ) (q : ℕ) → q < 4 → slice_index (input_levels x) q ≡ slice_index x q
padded x zero low = refl
padded x (suc zero) low = refl
padded x (suc (suc zero)) low = refl
padded x (suc (suc (suc zero))) low = refl
padded x (suc (suc (suc (suc q)))) low = absurd (omega (arith, low))

-- what stands at a place
pub got : {A : Type 0} → (xs : List A) (q : ℕ) (x : A) → q < length xs → x ≡ get_or xs q x → slice_get xs q ≡ Some x
got [] q x low is = absurd (omega (arith, low))
got (y ∷ xs) zero x low is = ap Some (sym is)
got (y ∷ xs) (suc q) x low is = got xs q x (omega (arith, low)) is

module _ (n : Circuit) (ok : IsCircuit n) (m : ℕ) (r : ModuleRecord) (at : module_at n m ≡ Some r) where
  pub next_state : (t : ℕ) → state n m (suc t) ≡ step (built n r) (state n m t) (inputs_by n (level n) r (suc t))
  next_state t = let e : t + 1 ≡ suc t = omega arith in subst (λ k. state n m k ≡ step (built n r) (state n m t) (inputs_by n (level n) r k)) e ((satisfies n ok).stepped m t r at)

  -- each state is that after a step
  pub after_step : (t : ℕ) → (s : Memory) × (state n m t ≡ step (built n r) s (inputs_by n (level n) r t))
  after_step zero = (seen (inputs_by n (level n) r 0) (start (built n r)), (satisfies n ok).settled m r at ∙ settle_is (built n r) (inputs_by n (level n) r 0))
  after_step (suc t) = (state n m t, next_state t)

  pub state_inputs : (t : ℕ) → (state n m t).inputs ≡ input_levels (inputs_by n (level n) r t)
  state_inputs t = let one = after_step t in ap (λ (s : Memory). s.inputs) one.1 ∙ step_inputs (built n r) one.0 (inputs_by n (level n) r t)

  -- the level at an input, and 0 where there is none
  pub heard_some : (q : ℕ) → q < 4 → (i : Input) → q < length r.inputs → i ≡ get_or r.inputs q i → (t : ℕ) → slice_index (state n m t).inputs q ≡ input_by n (level n) i t
  heard_some q low i within is t =
      ap (λ (l : List ℕ). slice_index l q) (state_inputs t) ∙ padded (inputs_by n (level n) r t) q low ∙ map_at (λ j. input_by n (level n) j t) r.inputs q i within
      ∙ ap (λ j. input_by n (level n) j t) (sym is)

  pub heard_none : (q : ℕ) → q < 4 → length r.inputs ≤ q → (t : ℕ) → slice_index (state n m t).inputs q ≡ 0
  heard_none q low past t =
      ap (λ (l : List ℕ). slice_index l q) (state_inputs t) ∙ padded (inputs_by n (level n) r t) q low
      ∙ get_or_past (inputs_by n (level n) r t) q 0 (let same = length-map r.inputs (λ (j : Input). input_by n (level n) j t) in omega (arith, same, past))

  -- the level of a wire tells what its port gave before the delay
  pub wire_tells : (p : ℕ) (v : WireId) → (output_at r p).wire ≡ Some v → delay_of r p ≤ last_unit n → level n v.0 (last_unit n) ≡ given n m p (last_unit n - delay_of r p)
  wire_tells p v on short =
      let d = delay_of r p in
      let end = last_unit n in
      let back : end - d + d ≡ end = omega (arith, short) in
      let drives : Drives n m p v.0 = record { part = r; stands = at; output = on } in
      let driven : driver n v.0 ≡ Port (record { 0 = m }) p = finds_ports n ok m p v.0 drives in
      ap (level n v.0) (sym back) ∙ port_level_is n ok m p v.0 (end - d) r at driven

  -- what a quiet port gives is the level of its wire
  pub quiet_level : (p : ℕ) (v : WireId) → (output_at r p).wire ≡ Some v → is_quiet n m p (delay_of r p) ≡ true → level n v.0 (last_unit n) ≡ given n m p (last_unit n)
  quiet_level p v on quiet =
      let d = delay_of r p in
      let end = last_unit n in
      let parts = and_parts (nat_le d end) (is_still n (given n m p) (end - d)) quiet in
      let short : d ≤ end = leb-true d end parts.0 in
      let still : since (given n m p) end ≤ end - d = leb-true (since (given n m p) end) (end - d) parts.1 in
      wire_tells p v on short ∙ since_still (given n m p) end (end - d) (end - d) still (omega arith) (omega arith)
