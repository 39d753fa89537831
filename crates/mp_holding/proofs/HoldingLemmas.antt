-- An output that inputs hold keeps its level as long as they keep theirs.
use Rattle.std.proofs.Common.{◌≡◌, ℕ, ◌<◌, ◌==◌, cond, List, [], ◌∷◌, slice_index, zero, suc, refl, sym, ap, subst, arith}
use Rattle.mp_modules.specs.declared.kind.Kind.{Kind}
use Rattle.mp_modules.specs.declared.kind.Kind.TheVariants as kinds
use Rattle.mp_modules.specs.declared.function.Function.{Function}
use Rattle.mp_modules.specs.declared.function.Function.TheVariants as functions
use Rattle.mp_modules.specs.declared.memory.Memory.{Memory}
use Rattle.mp_modules.specs.CElement.{joined}
use Rattle.mp_modules.specs.Kinds.{output_count}
use Rattle.mp_modules.specs.Memories.{input_levels, output_of}
use Rattle.mp_modules.specs.Tables.{rendezvous}
use Rattle.mp_modules.specs.storage.AnyModules.{any_part_of, step}
use Rattle.mp_modules.specs.storage.Reg.{latched}
use Rattle.mp_holding.specs.Holding.{holding_sets, function_set}
use Rattle.mp_holding.specs.Laws.{HasSet, AreSame, StaysHeld, KeepsHeldOutputs, after_one}
use Rattle.mp_holding.proofs.SetLemmas.{only, same_for}
use Rattle.mp_holding.proofs.FunctionLemmas.{function_keeps, toggle_keeps, select_keeps, joins_keep, stores_keep}
use Rattle.mp_holding.proofs.CallLemmas.{call_keeps}
use Rattle.mp_holding.proofs.ArbiterLemmas.{grant_keeps}

module _ (params : List ℕ) (width : ℕ) (s : Memory) (x y : List ℕ) (p : ℕ) (set : List ℕ) (same : AreSame set x y) where
  first : HasSet ((0 ∷ []) ∷ []) set → slice_index y 0 ≡ slice_index x 0
  first has = (same_for (0 ∷ []) set x y (only (0 ∷ []) set has) same).0

  abbrev Goal : Kind → Type 0
  Goal kind = p < output_count kind → HasSet (holding_sets kind params (after_one kind params width s x) p) set → StaysHeld kind params width s x y p set

  -- the set of a function, in the state after the levels
  abbrev set_of : Function → List ℕ → List ℕ
  set_of f z = function_set f (input_levels z)

  -- which is the same after the next levels, if they are the same at its inputs
  same_set : (f : Function) → AreSame (set_of f x) x y → set_of f y ≡ set_of f x
  same_set functions.Mux same = ap (λ v. cond (v == 0) 0 1 ∷ 2 ∷ []) same.1.0
  same_set _ same = refl

  function_holds : (f : Function) → Goal (kinds.Function f)
  unfolding any_part_of step
  function_holds f low has =
      let stay = same_for (set_of f x) set x y (only (set_of f x) set has) same in
      record {
        output = ap (λ v. slice_index (v ∷ 0 ∷ 0 ∷ []) p) (function_keeps width (slice_index params 0) x y f stay);
        holds = subst (λ one. HasSet (one ∷ []) set) (sym (same_set f stay)) has;
      }

  toggle_holds : Goal kinds.Toggle
  unfolding any_part_of step
  toggle_holds low has = record { output = toggle_keeps s x y p (first has); holds = has }

  select_holds : Goal kinds.Select
  unfolding any_part_of step
  select_holds low has = record { output = select_keeps s x y p (first has); holds = has }

  c_keeps : Goal kinds.C
  unfolding any_part_of step
  c_keeps low has =
      let c = rendezvous params in
      let q = joined c (output_of s 0) x in
      let keeps = joins_keep c q x y set has same in
      record { output = ap (λ v. slice_index (v ∷ 0 ∷ 0 ∷ []) p) keeps.0; holds = keeps.1 }

  call_holds : Goal kinds.Call
  unfolding any_part_of step
  call_holds low has = let keeps = call_keeps (after_one kinds.Call params width s x) x y refl p low set has same in record { output = keeps.0; holds = keeps.1 }

  arbiter_holds : Goal kinds.Arbiter
  unfolding any_part_of step
  arbiter_holds low has = let keeps = grant_keeps (after_one kinds.Arbiter params width s x) x y refl p low set has same in record { output = keeps.0; holds = keeps.1 }

module _ (params : List ℕ) (width : ℕ) (s : Memory) (x y : List ℕ) (set : List ℕ) (same : AreSame set x y) where
  reg_keeps : (p : ℕ) → p < 3 → HasSet (holding_sets kinds.Reg params (after_one kinds.Reg params width s x) p) set → StaysHeld kinds.Reg params width s x y p set
  unfolding any_part_of step
  reg_keeps zero low has =
      let q = latched (output_of s 0) x in
      let keeps = stores_keep q x y set has same in
      record { output = keeps.0; holds = keeps.1 }
  reg_keeps (suc zero) low has = record { output = (same_for (1 ∷ []) set x y (only (1 ∷ []) set has) same).0; holds = has }
  reg_keeps (suc (suc zero)) low has = record { output = (same_for (2 ∷ []) set x y (only (2 ∷ []) set has) same).0; holds = has }
  reg_keeps (suc (suc (suc p))) low has = absurd (omega (arith, low))

pub keeps_held_outputs : KeepsHeldOutputs
keeps_held_outputs kinds.C params width s x y p set low has same = c_keeps params width s x y p set same low has
keeps_held_outputs kinds.Toggle params width s x y p set low has same = toggle_holds params width s x y p set same low has
keeps_held_outputs kinds.Select params width s x y p set low has same = select_holds params width s x y p set same low has
keeps_held_outputs kinds.Call params width s x y p set low has same = call_holds params width s x y p set same low has
keeps_held_outputs kinds.Arbiter params width s x y p set low has same = arbiter_holds params width s x y p set same low has
keeps_held_outputs kinds.Reg params width s x y p set low has same = reg_keeps params width s x y set same p low has
keeps_held_outputs (kinds.Function f) params width s x y p set low has same = function_holds params width s x y p set same f low has
