-- States stay while no input changes.
use Rattle.std.proofs.Common.{◌≡◌, ℕ, zero, suc, ◌+◌, List, sym, ap, ◌∙◌, arith, subst}
use Rattle.mp_modules.specs.declared.memory.Memory.{Memory}
use Rattle.mp_modules.specs.Memories.{seen}
use Rattle.mp_modules.specs.declared.storage.any_module.AnyModule.{AnyModule}
use Rattle.mp_modules.specs.storage.AnyModules.{step, start}
use Rattle.mp_modules.specs.storage.QuietAny.{stepped_stays}
use Rattle.mp_modules.proofs.lemmas.automata.LevelLemmas.{step_inputs}
use Rattle.mp_model.specs.Levels.{built, inputs_by}
use Rattle.mp_model.specs.Waves.{level, state}
use Rattle.mp_model.proofs.BehaviourLemmas.{satisfies}
use Rattle.mp_model.proofs.StepLemmas.{step_padded, settle_steps}
use Rattle.mp_simulation.specs.bits.ChangeLaws.{StatesStay}

after_step : (part : AnyModule) (m : Memory) (x : List ℕ) → step part (step part m x) (step part m x).inputs ≡ step part m x
after_step part m x =
    ap (λ y. step part (step part m x) y) (step_inputs part m x) ∙ step_padded part (step part m x) x ∙ stepped_stays part m x

stays_as : (part : AnyModule) (m k : Memory) (x : List ℕ) → k ≡ step part m x → step part k k.inputs ≡ k
stays_as part m k x is = subst (λ (s : Memory). step part s s.inputs ≡ s) (sym is) (after_step part m x)

pub states_stay : StatesStay
states_stay n ok m zero r at =
    let x = inputs_by n (level n) r 0 in
    stays_as (built n r) (seen x (start (built n r))) (state n m 0) x ((satisfies n ok).settled m r at ∙ settle_steps (built n r) x)
states_stay n ok m (suc t) r at =
    let e : t + 1 ≡ suc t = omega arith in
    subst (λ k. step (built n r) (state n m k) (state n m k).inputs ≡ state n m k) e
    (stays_as (built n r) (state n m t) (state n m (t + 1)) (inputs_by n (level n) r (t + 1)) ((satisfies n ok).stepped m t r at))
