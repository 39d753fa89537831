-- Events over time.
use Rattle.std.proofs.Common.{◌≡◌, ℕ, suc, ◌-◌, ◌≤◌, Bool, true, false, not, cond, List, [], ◌∷◌, ne_eqb, refl, ap, arith}
use Rattle.std.specs.Prelude.{◌==◌, ◌&&◌, ◌||◌, slice_index}
use Rattle.std.proofs.lemmas.Bool.{both_ways}
use Rattle.mp_modules.specs.declared.memory.Memory.{Memory}
use Rattle.mp_modules.specs.declared.memory.Client.{Client}
use Rattle.mp_modules.specs.Quiet.{unchanged}
use Rattle.mp_modules.specs.Memories.{input_levels, output_of}

abbrev pub bit : Bool → ℕ
bit b = cond b 1 0

-- one for an event, where the level changes from one unit to the next
abbrev pub change : ℕ → ℕ → ℕ
change before now = bit (not (before == now))

-- the state with these levels, whom it serves, and whether the first and the second wait
abbrev pub holding : List ℕ → ℕ → ℕ → ℕ → Client → Bool → Bool → Memory
holding x a b c served first second = record {
  inputs = input_levels x;
  outputs = a ∷ b ∷ c ∷ [];
  served = served;
  waiting = record { first = first; second = second };
}

-- the change of an output between states that are known
pub changed : {before before' now now' : Memory} (port : ℕ) → before ≡ before' → now ≡ now' →
    change (output_of before port) (output_of now port) ≡ change (output_of before' port) (output_of now' port)
changed port b n = cc

-- an event at an output changes it, whatever its level
flips : (level : ℕ) → (level == 1 - level) ≡ false
flips level = ne_eqb level (1 - level) (λ same. omega arith)

pub same : (level : ℕ) → change level level ≡ 0
same level = ap bit (unchanged level)

pub flip : (level : ℕ) → change level (1 - level) ≡ 1
flip level = ap (λ t. bit (not t)) (flips level)

-- an event of an input in the unit from a time on
abbrev pub event_at : (ℕ → List ℕ) → ℕ → ℕ → Bool
event_at x port t = not (slice_index (x t) port == slice_index (x (suc t)) port)

pub either : (p q : Bool) → (p || q) ≡ false → (p ≡ false) × (q ≡ false)
either true q none = absurd (both_ways _ none refl)
either false q none = (refl, none)

pub and_few : (p q : Bool) → bit (p && q) ≤ bit p
and_few true true = omega arith
and_few true false = omega arith
and_few false q = omega arith
