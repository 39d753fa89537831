-- CALL and ARBITER: each rule on states is the same rule on reactions.
use Rattle.std.proofs.Common.{◌≡◌, ℕ, ◌-◌, ◌≤◌, Bool, true, false, cond, List, [], ◌∷◌, refl, ap, ◌∙◌}
use Rattle.mp_modules.specs.declared.memory.Memory.{Memory}
use Rattle.mp_modules.specs.declared.memory.Waiting.{Waiting}
use Rattle.mp_modules.specs.declared.memory.Client.{Client}
use Rattle.mp_modules.specs.declared.memory.Client.TheVariants.{Nobody, First, Second}
use Rattle.mp_modules.specs.Memories.{seen}
use Rattle.mp_modules.specs.Call as call
use Rattle.mp_modules.specs.Arbiter as arbiter
use Rattle.mp_modules.specs.declared.automata.reaction.Reaction.{Reaction}
use Rattle.mp_modules.specs.declared.automata.toggles.Toggles.{Toggles}
use Rattle.mp_modules.specs.automata.BitModules.{toggles_between}
use Rattle.mp_modules.specs.automata.Reactions as reactions
use Rattle.mp_modules.proofs.lemmas.automata.BitLemmas.{turned_differs, turned_again}

-- an output whose level was a
abbrev turned : Bool → ℕ → ℕ
turned toggles a = cond toggles (1 - a) a

-- the state to which a reaction leads, where the outputs were a, b and c
abbrev pub after : List ℕ → ℕ → ℕ → ℕ → Reaction → Memory
after x a b c r = record {
  inputs = x;
  outputs = turned r.toggles.first a ∷ turned r.toggles.second b ∷ turned r.toggles.third c ∷ [];
  served = r.phase.served;
  waiting = r.phase.waiting;
}

abbrev made : Client → Waiting → Toggles → Reaction
made served waiting toggles = record { phase = record { served = served; waiting = waiting }; toggles = toggles }

module _ (x : List ℕ) (a b c : ℕ) (low_a : a ≤ 1) (low_b : b ≤ 1) (low_c : c ≤ 1) where
  ended_by : (event : Bool) (s : Client) (w : Waiting) (t : Toggles) → call.ended event (after x a b c (made s w t)) ≡ after x a b c (reactions.end_call event (made s w t))
  ended_by false s w t = refl
  ended_by true Nobody w t = refl
  ended_by true First w t = rw (turned_again t.second b low_b) refl
  ended_by true Second w t = rw (turned_again t.third c low_c) refl

  called_by : (client : Client) (event : Bool) (s : Client) (w : Waiting) (t : Toggles) →
      call.called client event (after x a b c (made s w t)) ≡ after x a b c (reactions.request_call client event (made s w t))
  called_by client false s w t = refl
  called_by client true Nobody w t = rw (turned_again t.first a low_a) refl
  called_by client true First w t = refl
  called_by client true Second w t = refl

  pub serves : (e0 e1 e2 : Bool) (r : Reaction) →
      call.called Second e1 (call.called First e0 (call.ended e2 (after x a b c r))) ≡
      after x a b c (reactions.request_call Second e1 (reactions.request_call First e0 (reactions.end_call e2 r)))
  serves e0 e1 e2 r =
      let r1 = reactions.end_call e2 r in
      let r2 = reactions.request_call First e0 r1 in
      ap (λ k. call.called Second e1 (call.called First e0 k)) (ended_by e2 r.phase.served r.phase.waiting r.toggles) ∙
      (ap (λ k. call.called Second e1 k) (called_by First e0 r1.phase.served r1.phase.waiting r1.toggles) ∙
      called_by Second e1 r2.phase.served r2.phase.waiting r2.toggles)

  released_by : (first second : Bool) (s : Client) (w : Waiting) (t : Toggles) →
      arbiter.released first second (after x a b c (made s w t)) ≡ after x a b c (reactions.release first second (made s w t))
  released_by first second Nobody w t = refl
  released_by true second First w t = refl
  released_by false second First w t = refl
  released_by first true Second w t = refl
  released_by first false Second w t = refl

  granted_by : (client s : Client) (w : Waiting) (t : Toggles) →
      arbiter.granted client (after x a b c (made s w t)) ≡ after x a b c (reactions.grant_to client (made s w t))
  granted_by Nobody s w t = refl
  granted_by First s w t = rw (turned_again t.first a low_a) refl
  granted_by Second s w t = rw (turned_again t.second b low_b) refl

  promoted_when : (s : Client) (first second : Bool) (t : Toggles) →
      arbiter.promoted (after x a b c (made s (record { first = first; second = second }) t)) ≡
      after x a b c (reactions.promote (made s (record { first = first; second = second }) t))
  promoted_when First first second t = refl
  promoted_when Second first second t = refl
  promoted_when Nobody true second t = granted_by First Nobody (record { first = true; second = second }) t
  promoted_when Nobody false true t = granted_by Second Nobody (record { first = false; second = true }) t
  promoted_when Nobody false false t = refl

  requested_when : (client : Client) (event engaged free : Bool) (s : Client) (w : Waiting) (t : Toggles) →
      reactions.is_engaged client (record { served = s; waiting = w }) ≡ engaged → reactions.is_free s ≡ free →
      arbiter.requested client event (after x a b c (made s w t)) ≡ after x a b c (reactions.request_grant client event (made s w t))
  requested_when client false engaged free s w t is f = refl
  requested_when client true true free s w t is f = rw is refl
  requested_when client true false true s w t is f = rw (is, f) (granted_by client s w t)
  requested_when client true false false s w t is f = rw (is, f) refl

  requested_by : (client : Client) (event : Bool) (r : Reaction) →
      arbiter.requested client event (after x a b c r) ≡ after x a b c (reactions.request_grant client event r)
  requested_by client event r =
      requested_when client event (reactions.is_engaged client r.phase) (reactions.is_free r.phase.served) r.phase.served r.phase.waiting r.toggles refl refl

  pub grants : (e0 e1 e2 e3 : Bool) (r : Reaction) →
      arbiter.requested Second e1 (arbiter.requested First e0 (arbiter.promoted (arbiter.released e2 e3 (after x a b c r)))) ≡
      after x a b c (reactions.request_grant Second e1 (reactions.request_grant First e0 (reactions.promote (reactions.release e2 e3 r))))
  grants e0 e1 e2 e3 r =
      let r1 = reactions.release e2 e3 r in
      let r2 = reactions.promote r1 in
      let r3 = reactions.request_grant First e0 r2 in
      ap (λ k. arbiter.requested Second e1 (arbiter.requested First e0 (arbiter.promoted k))) (released_by e2 e3 r.phase.served r.phase.waiting r.toggles) ∙
      (ap (λ k. arbiter.requested Second e1 (arbiter.requested First e0 k)) (promoted_when r1.phase.served r1.phase.waiting.first r1.phase.waiting.second r1.toggles) ∙
      (ap (λ k. arbiter.requested Second e1 k) (requested_by First e0 r2) ∙ requested_by Second e1 r3))

-- what a state to which a reaction leads shows of it
pub mirrored : (m : Memory) (y : List ℕ) (k : Memory) (a b c : ℕ) (r : Reaction) → m.outputs ≡ a ∷ b ∷ c ∷ [] → k ≡ seen y (after m.inputs a b c r) →
    ◌≡◌ {A = Reaction} (record { phase = record { served = k.served; waiting = k.waiting }; toggles = toggles_between m k }) r
mirrored m y k a b c r outs is = rw (is, outs, turned_differs r.toggles.first a, turned_differs r.toggles.second b, turned_differs r.toggles.third c) refl
