-- CALL in one unit: who is served since it began.
use Rattle.std.proofs.Common.{◌≡◌, ℕ, ◌+◌, ◌-◌, Bool, true, false, List, refl, ap, ◌∙◌, arith}
use Rattle.std.specs.Prelude.{◌&&◌}
use Rattle.std.proofs.lemmas.Bool.{both_ways}
use Rattle.mp_modules.specs.declared.memory.Memory.{Memory}
use Rattle.mp_modules.specs.declared.memory.Client.{Client}
use Rattle.mp_modules.specs.declared.memory.Client.TheVariants.{Nobody, First, Second}
use Rattle.mp_modules.specs.Clients.{is_free}
use Rattle.mp_modules.specs.Call.{ended, is_end_ignored, called}
use Rattle.mp_modules.proofs.HistoryLemmas.{bit, change, flip, holding, same}
use Rattle.mp_modules.proofs.ClientLemmas.{first, second}

-- the state with these outputs, in which this client is served
abbrev pub calling : List ℕ → ℕ → ℕ → ℕ → Client → Memory
calling x r a b served = holding x r a b served false false

-- after a done event, or none: the client's done output has an event where it's served no longer
pub record Ended (event : Bool) (x : List ℕ) (r a b : ℕ) (served : Client) (now : Memory) : Type 0 where
  pub new_a : ℕ
  pub new_b : ℕ
  pub still : Client
  pub is : now ≡ calling x r new_a new_b still
  pub to_first : change a new_a + first still ≡ first served
  pub to_second : change b new_b + second still ≡ second served
  pub exact : is_end_ignored event (calling x r a b served) ≡ false → change a new_a + change b new_b ≡ bit event

pub ends : (event : Bool) (served : Client) (x : List ℕ) (r a b : ℕ) → Ended event x r a b served (ended event (calling x r a b served))
ends event served x r a b = at event served (same a) (flip a) (same b) (flip b)
  where
    at : (event : Bool) (served : Client) → change a a ≡ 0 → change a (1 - a) ≡ 1 → change b b ≡ 0 → change b (1 - b) ≡ 1 →
        Ended event x r a b served (ended event (calling x r a b served))
    at true Nobody a0 a1 b0 b1 = record {
      new_a = a;
      new_b = b;
      still = Nobody;
      is = refl;
      to_first = omega arith;
      to_second = omega arith;
      exact = λ none. absurd (both_ways _ none refl);
    }
    at true First a0 a1 b0 b1 = record {
      new_a = 1 - a;
      new_b = b;
      still = Nobody;
      is = refl;
      to_first = omega arith;
      to_second = omega arith;
      exact = λ none. omega arith;
    }
    at true Second a0 a1 b0 b1 = record {
      new_a = a;
      new_b = 1 - b;
      still = Nobody;
      is = refl;
      to_first = omega arith;
      to_second = omega arith;
      exact = λ none. omega arith;
    }
    at false served a0 a1 b0 b1 = record {
      new_a = a;
      new_b = b;
      still = served;
      is = refl;
      to_first = omega arith;
      to_second = omega arith;
      exact = λ none. omega arith;
    }

-- a request event that isn't ignored
abbrev pub taken : Bool → Memory → Bool
taken event now = event && is_free now.served

-- after the requests: the request output has an event where a client is served anew
pub record Called (e1 e2 : Bool) (x : List ℕ) (r a b : ℕ) (served : Client) (now : Memory) : Type 0 where
  pub new_r : ℕ
  pub then_served : Client
  pub is : now ≡ calling x new_r a b then_served
  pub request : change r new_r + first served + second served ≡ first then_served + second then_served
  pub of_first : first then_served ≡ first served + bit (taken e1 (calling x r a b served))
  pub of_second : second then_served ≡ second served + bit (taken e2 (called First e1 (calling x r a b served)))

pub calls : (e1 e2 : Bool) (served : Client) (x : List ℕ) (r a b : ℕ) →
    Called e1 e2 x r a b served (called Second e2 (called First e1 (calling x r a b served)))
calls true true Nobody x r a b = record { new_r = 1 - r; then_served = First; is = refl; request = rw (flip r) refl; of_first = refl; of_second = refl }
calls true false Nobody x r a b = record { new_r = 1 - r; then_served = First; is = refl; request = rw (flip r) refl; of_first = refl; of_second = refl }
calls false true Nobody x r a b = record { new_r = 1 - r; then_served = Second; is = refl; request = rw (flip r) refl; of_first = refl; of_second = refl }
calls false false Nobody x r a b = record { new_r = r; then_served = Nobody; is = refl; request = rw (same r) refl; of_first = refl; of_second = refl }
calls true true First x r a b = record { new_r = r; then_served = First; is = refl; request = rw (same r) refl; of_first = refl; of_second = refl }
calls true false First x r a b = record { new_r = r; then_served = First; is = refl; request = rw (same r) refl; of_first = refl; of_second = refl }
calls false true First x r a b = record { new_r = r; then_served = First; is = refl; request = rw (same r) refl; of_first = refl; of_second = refl }
calls false false First x r a b = record { new_r = r; then_served = First; is = refl; request = rw (same r) refl; of_first = refl; of_second = refl }
calls true true Second x r a b = record { new_r = r; then_served = Second; is = refl; request = rw (same r) refl; of_first = refl; of_second = refl }
calls true false Second x r a b = record { new_r = r; then_served = Second; is = refl; request = rw (same r) refl; of_first = refl; of_second = refl }
calls false true Second x r a b = record { new_r = r; then_served = Second; is = refl; request = rw (same r) refl; of_first = refl; of_second = refl }
calls false false Second x r a b = record { new_r = r; then_served = Second; is = refl; request = rw (same r) refl; of_first = refl; of_second = refl }

-- the whole unit
pub record Unit (e1 e2 d : Bool) (x : List ℕ) (r a b : ℕ) (served : Client) (m now : Memory) : Type 0 where
  pub new_r : ℕ
  pub new_a : ℕ
  pub new_b : ℕ
  pub then_served : Client
  pub is : now ≡ calling x new_r new_a new_b then_served
  pub pending : change r new_r + first served + second served ≡ change a new_a + change b new_b + first then_served + second then_served
  pub of_first : change a new_a + first then_served ≡ first served + bit (taken e1 (ended d m))
  pub of_second : change b new_b + second then_served ≡ second served + bit (taken e2 (called First e1 (ended d m)))
  pub exact : is_end_ignored d m ≡ false → change a new_a + change b new_b ≡ bit d

pub unit : (e1 e2 d : Bool) (served : Client) (x : List ℕ) (r a b : ℕ) →
    let m = calling x r a b served in
    Unit e1 e2 d x r a b served m (called Second e2 (called First e1 (ended d m)))
unit e1 e2 d served x r a b =
    let u = ends d served x r a b in
    let v = calls e1 e2 u.still x r u.new_a u.new_b in
    let taken1 = ap (λ (m : Memory). bit (taken e1 m)) u.is in
    let taken2 = ap (λ (m : Memory). bit (taken e2 (called First e1 m))) u.is in
    record {
      new_r = v.new_r;
      new_a = u.new_a;
      new_b = u.new_b;
      then_served = v.then_served;
      is = ap (λ (m : Memory). called Second e2 (called First e1 m)) u.is ∙ v.is;
      pending = omega (arith, u.to_first, u.to_second, v.request);
      of_first = omega (arith, u.to_first, v.of_first);
      of_second = omega (arith, u.to_second, v.of_second);
      exact = u.exact;
    }
