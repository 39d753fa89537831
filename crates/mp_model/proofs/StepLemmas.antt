-- What holds of a step of any module.
use Rattle.std.proofs.Common.{◌≡◌, ℕ, ◌-◌, Bool, true, false, cond, ◌&&◌, List, slice_index, slice_set, refl, sym, ◌∙◌}
use Rattle.mp_modules.specs.declared.core_module.CoreModule.{CoreModule}
use Rattle.mp_modules.specs.declared.core_module.CoreModule.TheVariants as core
use Rattle.mp_modules.specs.declared.memory.Memory.{Memory}
use Rattle.mp_modules.specs.declared.memory.Client.{Client}
use Rattle.mp_modules.specs.declared.memory.Client.TheVariants.{Nobody, First, Second}
use Rattle.mp_modules.specs.Memories.{input_levels, is_event, flipped, seen}
use Rattle.mp_modules.specs.Clients.{is_free}
use Rattle.mp_modules.specs.Toggle.{toggle_step, turn}
use Rattle.mp_modules.specs.Select.{select_step, chosen}
use Rattle.mp_modules.specs.Call.{returned, ended, called, before_calls, after_first_call, call_step}
use Rattle.mp_modules.specs.Arbiter.{is_owner_done, released, granted, promoted, made_wait, requested, is_engaged, before_requests, after_first_request, arbiter_step}
use Rattle.mp_modules.specs.Tables as tables
use Rattle.mp_modules.specs.declared.storage.any_module.AnyModule.{AnyModule}
use Rattle.mp_modules.specs.declared.storage.any_module.AnyModule.TheVariants as parts
use Rattle.mp_modules.specs.storage.AnyModules.{step, settle, start}

-- ---- a step goes by the levels of the four ports that a module can have

core_padded : (part : CoreModule) (m : Memory) (x : List ℕ) → tables.step part m (input_levels x) ≡ tables.step part m x
core_padded (core.C c) m x = refl
core_padded _ m x = refl

pub step_padded : (part : AnyModule) (m : Memory) (x : List ℕ) → step part m (input_levels x) ≡ step part m x
unfolding step
step_padded (parts.Core part) m x = core_padded part m x
step_padded (parts.Reg part) m x = refl
step_padded (parts.Function part) m x = refl

pub settle_steps : (part : AnyModule) (x : List ℕ) → settle part x ≡ step part (seen x (start part)) x
unfolding step settle start
settle_steps (parts.Core part) x = refl
settle_steps (parts.Reg part) x = refl
settle_steps (parts.Function part) x = refl

pub settle_padded : (part : AnyModule) (x : List ℕ) → settle part (input_levels x) ≡ settle part x
settle_padded part x = settle_steps part (input_levels x) ∙ step_padded part (seen x (start part)) x ∙ sym (settle_steps part x)

-- ---- what an event at any output leaves true of the outputs, a step of these kinds does

module _ (P : List ℕ → Type 0) (flips : (xs : List ℕ) (port : ℕ) → P xs → P (slice_set xs port (1 - slice_index xs port))) where
  by_cond : (test : Bool) (a b : Memory) → P a.outputs → P b.outputs → P (cond test a b).outputs
  by_cond true a b first second = first
  by_cond false a b first second = second

  by_event : (port : ℕ) (memory : Memory) → P memory.outputs → P (flipped port memory).outputs
  by_event port memory is = flips memory.outputs port is

  pub by_toggle : (memory : Memory) (x : List ℕ) → P memory.outputs → P (toggle_step memory x).outputs
  by_toggle memory x is = by_cond (is_event memory x 0) (flipped (turn memory) memory) memory (by_event (turn memory) memory is) is

  pub by_select : (memory : Memory) (x : List ℕ) → P memory.outputs → P (select_step memory x).outputs
  by_select memory x is = by_cond (is_event memory x 0) (flipped (chosen x) memory) memory (by_event (chosen x) memory is) is

  by_return : (client : Client) (memory : Memory) → P memory.outputs → P (returned client memory).outputs
  by_return Nobody memory is = is
  by_return First memory is = by_event 1 memory is
  by_return Second memory is = by_event 2 memory is

  by_end : (event : Bool) (memory : Memory) → P memory.outputs → P (ended event memory).outputs
  by_end event memory is = by_cond event (returned memory.served memory) memory (by_return memory.served memory is) is

  by_request : (client : Client) (event : Bool) (memory : Memory) → P memory.outputs → P (called client event memory).outputs
  by_request client event memory is = by_cond (event && is_free memory.served) (record (flipped 0 memory) { served = client }) memory (by_event 0 memory is) is

  pub by_call : (memory : Memory) (x : List ℕ) → P memory.outputs → P (call_step memory x).outputs
  by_call memory x is =
      by_request Second (is_event memory x 1) (after_first_call memory x)
      (by_request First (is_event memory x 0) (before_calls memory x) (by_end (is_event memory x 2) memory is))

  by_release : (first second : Bool) (memory : Memory) → P memory.outputs → P (released first second memory).outputs
  by_release first second memory is = by_cond (is_owner_done memory.served first second) (record memory { served = Nobody }) memory is is

  by_grant : (client : Client) (memory : Memory) → P memory.outputs → P (granted client memory).outputs
  by_grant Nobody memory is = is
  by_grant First memory is = by_event 0 memory is
  by_grant Second memory is = by_event 1 memory is

  by_turn : (memory : Memory) → P memory.outputs → P (promoted memory).outputs
  by_turn memory is =
      by_cond (is_free memory.served) (cond memory.waiting.first (granted First memory) (cond memory.waiting.second (granted Second memory) memory)) memory
      (by_cond memory.waiting.first (granted First memory) (cond memory.waiting.second (granted Second memory) memory) (by_grant First memory is)
      (by_cond memory.waiting.second (granted Second memory) memory (by_grant Second memory is) is))
      is

  by_asking : (client : Client) (event : Bool) (memory : Memory) → P memory.outputs → P (requested client event memory).outputs
  by_asking client false memory is = is
  by_asking client true memory is =
      by_cond (is_engaged client memory) memory (cond (is_free memory.served) (granted client memory) (made_wait client memory)) is
      (by_cond (is_free memory.served) (granted client memory) (made_wait client memory) (by_grant client memory is) is)

  pub by_arbiter : (memory : Memory) (x : List ℕ) → P memory.outputs → P (arbiter_step memory x).outputs
  by_arbiter memory x is =
      by_asking Second (is_event memory x 1) (after_first_request memory x)
      (by_asking First (is_event memory x 0) (before_requests memory x)
      (by_turn (released (is_event memory x 2) (is_event memory x 3) memory) (by_release (is_event memory x 2) (is_event memory x 3) memory is)))
