-- Below the horizon a netlist that is picked from another has its levels and states.
use Rattle.std.proofs.Common.{◌≡◌, ℕ, ◌+◌, ◌<◌, Some, refl, ap, sym, subst, ◌∙◌, inl, inr}
use Rattle.std.proofs.lemmas.Bool.{cases_Bool}
use Rattle.mp_modules.specs.declared.memory.Memory.{Memory}
use Rattle.mp_modules.specs.storage.AnyModules.{settle, step}
use Rattle.mp_records.specs.declared.module_record.ModuleRecord.{ModuleRecord}
use Rattle.mp_netlist.specs.Circuit.{Circuit, IsCircuit, module_at}
use Rattle.mp_model.specs.Levels.{built, inputs_by, level_by}
use Rattle.mp_model.specs.Waves.{level, state}
use Rattle.mp_model.proofs.BehaviourLemmas.{satisfies}
use Rattle.mp_model.proofs.EndsLemmas.{first_level}
use Rattle.mp_near.specs.laws.Below.{IsBehaviourBelow}
use Rattle.mp_near.specs.laws.Picking.{Picking, placed, IsPicking, HasPicked, PickedHaveLevels}
use Rattle.mp_near.proofs.lemmas.laws.BelowLemmas.{only_one_below}
use Rattle.mp_near.proofs.lemmas.laws.PlacedLemmas.{at_place, is_here, module_there, built_there}
use Rattle.mp_near.proofs.lemmas.laws.DrivenLemmas.{same_inputs, given_level, own_level}

module _ (n s : Circuit) (pick : Picking) (n_ok : IsCircuit n) (s_ok : IsCircuit s) (is : IsPicking n pick) (has : HasPicked n s pick (level n)) where
  -- the levels and states of the netlist, by their new numbers
  abbrev levels : ℕ → ℕ → ℕ
  levels k t = level n (pick.wire_of k) t

  abbrev states : ℕ → ℕ → Memory
  states k t = state n (pick.module_of k) t

  driven : (k t : ℕ) → t < n.horizon → levels k t ≡ level_by s states k t
  driven k t low = elim (cases_Bool (pick.given k)) as (λ _. levels k t ≡ level_by s states k t) [
    | inl given ↦ sym (given_level n s pick (level n) is has n_ok s_ok k t states given low (sym (first_level n n_ok (pick.wire_of k))))
    | inr own ↦ (satisfies n n_ok).levels (pick.wire_of k) t ∙ sym (own_level n s pick (level n) is has n_ok s_ok k t states (state n) own (λ j u r before at. refl))
  ]

  inputs_are : (k : ℕ) (r : ModuleRecord) (t : ℕ) → module_at n (pick.module_of k) ≡ Some r → inputs_by s levels (placed pick.place_of r) t ≡ inputs_by n (level n) r t
  inputs_are k r t at = same_inputs n s pick (level n) is has k r t levels (level n) at (λ w u before picked. ap (λ v. level n v u) (at_place pick w picked))

  built_is : (k : ℕ) (r : ModuleRecord) → module_at n (pick.module_of k) ≡ Some r → built s (placed pick.place_of r) ≡ built n r
  built_is k r at = built_there n s pick (level n) is has k r at (n_ok.modules_ok (pick.module_of k) r at)

  settled : (k : ℕ) (r : ModuleRecord) → module_at n (pick.module_of k) ≡ Some r → states k 0 ≡ settle (built s (placed pick.place_of r)) (inputs_by s levels (placed pick.place_of r) 0)
  settled k r at =
      (satisfies n n_ok).settled (pick.module_of k) r at
      ∙ ap (settle (built n r)) (sym (inputs_are k r 0 at))
      ∙ ap (λ part. settle part (inputs_by s levels (placed pick.place_of r) 0)) (sym (built_is k r at))

  stepped : (k t : ℕ) (r : ModuleRecord) → module_at n (pick.module_of k) ≡ Some r
      → states k (t + 1) ≡ step (built s (placed pick.place_of r)) (states k t) (inputs_by s levels (placed pick.place_of r) (t + 1))
  stepped k t r at =
      (satisfies n n_ok).stepped (pick.module_of k) t r at
      ∙ ap (step (built n r) (states k t)) (sym (inputs_are k r (t + 1) at))
      ∙ ap (λ part. step part (states k t) (inputs_by s levels (placed pick.place_of r) (t + 1))) (sym (built_is k r at))

  behaves : IsBehaviourBelow s n.horizon levels states
  behaves = record {
    driven = driven;
    settled = λ k q low at.
        let here = is_here n s pick (level n) is has k q at in
        subst (λ x. states k 0 ≡ settle (built s x) (inputs_by s levels x 0)) here.same (settled k here.part here.stands);
    stepped = λ k t q low at.
        let here = is_here n s pick (level n) is has k q at in
        subst (λ x. states k (t + 1) ≡ step (built s x) (states k t) (inputs_by s levels x (t + 1))) here.same (stepped k t here.part here.stands);
  }

pub picked_have_levels : PickedHaveLevels
picked_have_levels n s pick n_ok s_ok is has =
    let only = only_one_below s s_ok n.horizon (levels n s pick n_ok s_ok is has) (states n s pick n_ok s_ok is has) (behaves n s pick n_ok s_ok is has) in
    record {
      levels = λ k t low. sym (only.0 k t low);
      states = λ k t r low at. sym (only.1 k t (placed pick.place_of r) low (module_there n s pick (level n) is has k r at));
    }
