-- C: its output changes where its inputs agree.
use Rattle.std.proofs.Common.{◌≡◌, ℕ, zero, suc, Bool, true, false, not, cond, refl, sym, ap, eq-eqb}
use Rattle.std.specs.Prelude.{◌==◌, slice_index}
use Rattle.std.proofs.lemmas.Bool.{eqb-true}
use Rattle.mp_modules.specs.declared.core_module.CoreModule.TheVariants.{C}
use Rattle.mp_modules.specs.CElement.{bubbled}
use Rattle.mp_modules.specs.Quiet.{unchanged}
use Rattle.mp_modules.specs.Tables.{first_output}
use Rattle.mp_modules.specs.Histories.{output}
use Rattle.mp_modules.specs.EventLaws.{ChangesWhereInputsAgree, HasAgreedLevel}

-- of a choice between a level and the former one: where it isn't the former, the levels agree on it
agreed : (former a b : ℕ) (test : Bool) → (a == b) ≡ test → not (former == cond test a former) ≡ true →
    (a ≡ cond test a former) × (b ≡ cond test a former)
agreed former a b true same event = (refl, sym (eqb-true a b same))
agreed former a b false same event = let none = unchanged former in cc

pub changes_where_inputs_agree : ChangesWhereInputsAgree
changes_where_inputs_agree c x zero event = cc
changes_where_inputs_agree c x (suc t) event =
    let a = bubbled c.bubble_a (slice_index (x (suc t)) 0) in
    let b = bubbled c.bubble_b (slice_index (x (suc t)) 1) in
    agreed (output (C c) x 0 t) a b (a == b) refl event

pub has_agreed_level : HasAgreedLevel
has_agreed_level c x zero same = ap (λ test. cond test (bubbled c.bubble_a (slice_index (x 0) 0)) (first_output (C c))) (eq-eqb _ _ same)
has_agreed_level c x (suc t) same = ap (λ test. cond test (bubbled c.bubble_a (slice_index (x (suc t)) 0)) (output (C c) x 0 t)) (eq-eqb _ _ same)
