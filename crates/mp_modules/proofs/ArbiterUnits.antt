-- ARBITER in one unit, rule after rule: who may have been granted since it began, and who asked.
use Rattle.std.proofs.Common.{◌≡◌, ℕ, ◌+◌, ◌-◌, Bool, true, false, not, cond, List, refl, ap, ◌∙◌, arith}
use Rattle.std.specs.Prelude.{◌==◌, ◌&&◌}
use Rattle.std.proofs.lemmas.Bool.{eqb-true}
use Rattle.mp_modules.specs.declared.memory.Memory.{Memory}
use Rattle.mp_modules.specs.declared.memory.Client.{Client}
use Rattle.mp_modules.specs.declared.memory.Client.TheVariants.{Nobody, First, Second}
use Rattle.mp_modules.specs.Clients.{serving}
use Rattle.mp_modules.specs.Arbiter.{is_owner_done, is_engaged, released, promoted, requested}
use Rattle.mp_modules.proofs.HistoryLemmas.{bit, change, flip, holding, same}
use Rattle.mp_modules.proofs.ClientLemmas.{first, second}

abbrev pub owned : List ℕ → ℕ → ℕ → Client → Bool → Bool → Memory
owned x a b owner w1 w2 = holding x a b 0 owner w1 w2

-- since the grants were `a0` and `b0` and `freed` owned, who was granted owns, and the grants and those who wait are so many
pub record Fair (a0 b0 : ℕ) (freed : Client) (due1 due2 a b : ℕ) (owner : Client) (w1 w2 : Bool) : Type 0 where
  pub to_first : change a0 a + first freed ≡ first owner
  pub to_second : change b0 b + second freed ≡ second owner
  pub asked_first : change a0 a + bit w1 ≡ due1
  pub asked_second : change b0 b + bit w2 ≡ due2

pub record Amid (x : List ℕ) (a0 b0 : ℕ) (freed : Client) (due1 due2 : ℕ) (now : Memory) : Type 0 where
  pub a : ℕ
  pub b : ℕ
  pub owner : Client
  pub w1 : Bool
  pub w2 : Bool
  pub is : now ≡ owned x a b owner w1 w2
  pub fair : Fair a0 b0 freed due1 due2 a b owner w1 w2

same_level : (a b : ℕ) (test : Bool) → (a == b) ≡ test → bit (not test) ≡ 0 → a ≡ b
same_level a b true is none = eqb-true a b is
same_level a b false is none = absurd (omega arith)

-- an output that had no event has one now
flip_anew : (before now : ℕ) → change before now ≡ 0 → change before (1 - now) ≡ 1
flip_anew before now none = ap (λ k. change k (1 - now)) (same_level before now (before == now) refl none) ∙ flip now

grant_first : {b0 due1 due2 b : ℕ} {freed : Client} {w1 w2 : Bool} (a0 a more : ℕ) →
    Fair a0 b0 freed due1 due2 a b Nobody w1 w2 → change a0 a + 1 ≡ more → Fair a0 b0 freed more due2 (1 - a) b First false w2
grant_first a0 a more f asked =
    let to_first = f.to_first in
    let to_second = f.to_second in
    let anew = flip_anew a0 a (omega arith) in
    record { to_first = omega arith; to_second = to_second; asked_first = omega arith; asked_second = f.asked_second }

grant_second : {a0 due1 due2 a : ℕ} {freed : Client} {w1 w2 : Bool} (b0 b more : ℕ) →
    Fair a0 b0 freed due1 due2 a b Nobody w1 w2 → change b0 b + 1 ≡ more → Fair a0 b0 freed due1 more a (1 - b) Second w1 false
grant_second b0 b more f asked =
    let to_first = f.to_first in
    let to_second = f.to_second in
    let anew = flip_anew b0 b (omega arith) in
    record { to_first = to_first; to_second = omega arith; asked_first = f.asked_first; asked_second = omega arith }

-- an event that is ignored or none adds nothing
none_first : {a0 b0 due1 due2 a b : ℕ} {freed owner : Client} {w1 w2 : Bool} →
    Fair a0 b0 freed due1 due2 a b owner w1 w2 → Fair a0 b0 freed (due1 + 0) due2 a b owner w1 w2
none_first f =
    let asked_first = f.asked_first in
    record { to_first = f.to_first; to_second = f.to_second; asked_first = omega arith; asked_second = f.asked_second }

none_second : {a0 b0 due1 due2 a b : ℕ} {freed owner : Client} {w1 w2 : Bool} →
    Fair a0 b0 freed due1 due2 a b owner w1 w2 → Fair a0 b0 freed due1 (due2 + 0) a b owner w1 w2
none_second f =
    let asked_second = f.asked_second in
    record { to_first = f.to_first; to_second = f.to_second; asked_first = f.asked_first; asked_second = omega arith }

-- a request event that isn't ignored
abbrev pub taken : Client → Bool → Memory → Bool
taken client event now = event && not (is_engaged client now)

promotes : (owner : Client) (w1 w2 : Bool) (x : List ℕ) (a0 b0 : ℕ) (freed : Client) (due1 due2 a b : ℕ) →
    Fair a0 b0 freed due1 due2 a b owner w1 w2 → Amid x a0 b0 freed due1 due2 (promoted (owned x a b owner w1 w2))
promotes First w1 w2 x a0 b0 freed due1 due2 a b f = record { a = a; b = b; owner = First; w1 = w1; w2 = w2; is = refl; fair = f }
promotes Second w1 w2 x a0 b0 freed due1 due2 a b f = record { a = a; b = b; owner = Second; w1 = w1; w2 = w2; is = refl; fair = f }
promotes Nobody true w2 x a0 b0 freed due1 due2 a b f =
    record { a = 1 - a; b = b; owner = First; w1 = false; w2 = w2; is = refl; fair = grant_first a0 a due1 f (f.asked_first) }
promotes Nobody false true x a0 b0 freed due1 due2 a b f =
    record { a = a; b = 1 - b; owner = Second; w1 = false; w2 = false; is = refl; fair = grant_second b0 b due2 f (f.asked_second) }
promotes Nobody false false x a0 b0 freed due1 due2 a b f =
    record { a = a; b = b; owner = Nobody; w1 = false; w2 = false; is = refl; fair = f }

asks_first : (event : Bool) (owner : Client) (w1 w2 : Bool) (x : List ℕ) (a0 b0 : ℕ) (freed : Client) (due1 due2 a b : ℕ) →
    Fair a0 b0 freed due1 due2 a b owner w1 w2 →
    Amid x a0 b0 freed (due1 + bit (taken First event (owned x a b owner w1 w2))) due2 (requested First event (owned x a b owner w1 w2))
asks_first false owner w1 w2 x a0 b0 freed due1 due2 a b f =
    record { a = a; b = b; owner = owner; w1 = w1; w2 = w2; is = refl; fair = none_first f }
asks_first true First w1 w2 x a0 b0 freed due1 due2 a b f =
    record { a = a; b = b; owner = First; w1 = w1; w2 = w2; is = refl; fair = none_first f }
asks_first true Second true w2 x a0 b0 freed due1 due2 a b f =
    record { a = a; b = b; owner = Second; w1 = true; w2 = w2; is = refl; fair = none_first f }
asks_first true Second false w2 x a0 b0 freed due1 due2 a b f =
    let asked = f.asked_first in
    record {
      a = a;
      b = b;
      owner = Second;
      w1 = true;
      w2 = w2;
      is = refl;
      fair = record { to_first = f.to_first; to_second = f.to_second; asked_first = omega arith; asked_second = f.asked_second };
    }
asks_first true Nobody true w2 x a0 b0 freed due1 due2 a b f =
    record { a = a; b = b; owner = Nobody; w1 = true; w2 = w2; is = refl; fair = none_first f }
asks_first true Nobody false w2 x a0 b0 freed due1 due2 a b f =
    let asked = f.asked_first in
    record { a = 1 - a; b = b; owner = First; w1 = false; w2 = w2; is = refl; fair = grant_first a0 a (due1 + 1) f (omega arith) }

asks_second : (event : Bool) (owner : Client) (w1 w2 : Bool) (x : List ℕ) (a0 b0 : ℕ) (freed : Client) (due1 due2 a b : ℕ) →
    Fair a0 b0 freed due1 due2 a b owner w1 w2 →
    Amid x a0 b0 freed due1 (due2 + bit (taken Second event (owned x a b owner w1 w2))) (requested Second event (owned x a b owner w1 w2))
asks_second false owner w1 w2 x a0 b0 freed due1 due2 a b f =
    record { a = a; b = b; owner = owner; w1 = w1; w2 = w2; is = refl; fair = none_second f }
asks_second true Second w1 w2 x a0 b0 freed due1 due2 a b f =
    record { a = a; b = b; owner = Second; w1 = w1; w2 = w2; is = refl; fair = none_second f }
asks_second true First w1 true x a0 b0 freed due1 due2 a b f =
    record { a = a; b = b; owner = First; w1 = w1; w2 = true; is = refl; fair = none_second f }
asks_second true First w1 false x a0 b0 freed due1 due2 a b f =
    let asked = f.asked_second in
    record {
      a = a;
      b = b;
      owner = First;
      w1 = w1;
      w2 = true;
      is = refl;
      fair = record { to_first = f.to_first; to_second = f.to_second; asked_first = f.asked_first; asked_second = omega arith };
    }
asks_second true Nobody w1 true x a0 b0 freed due1 due2 a b f =
    record { a = a; b = b; owner = Nobody; w1 = w1; w2 = true; is = refl; fair = none_second f }
asks_second true Nobody w1 false x a0 b0 freed due1 due2 a b f =
    let asked = f.asked_second in
    record { a = a; b = 1 - b; owner = Second; w1 = w1; w2 = false; is = refl; fair = grant_second b0 b (due2 + 1) f (omega arith) }

-- who owns after the done events
abbrev pub freed_by : Bool → Client → Client
freed_by done owner = cond done Nobody owner

frees : (done : Bool) (x : List ℕ) (a b : ℕ) (owner : Client) (w1 w2 : Bool) →
    cond done (serving Nobody (owned x a b owner w1 w2)) (owned x a b owner w1 w2) ≡ owned x a b (freed_by done owner) w1 w2
frees true x a b owner w1 w2 = refl
frees false x a b owner w1 w2 = refl

then_promotes : {x : List ℕ} {a0 b0 : ℕ} {freed : Client} {due1 due2 : ℕ} {now : Memory} →
    Amid x a0 b0 freed due1 due2 now → Amid x a0 b0 freed due1 due2 (promoted now)
then_promotes {x = x} {a0 = a0} {b0 = b0} {freed = freed} {due1 = due1} {due2 = due2} r =
    let u = promotes r.owner r.w1 r.w2 x a0 b0 freed due1 due2 r.a r.b r.fair in
    record { a = u.a; b = u.b; owner = u.owner; w1 = u.w1; w2 = u.w2; is = ap promoted r.is ∙ u.is; fair = u.fair }

then_asks_first : {x : List ℕ} {a0 b0 : ℕ} {freed : Client} {due1 due2 : ℕ} {now : Memory} (event : Bool) →
    Amid x a0 b0 freed due1 due2 now → Amid x a0 b0 freed (due1 + bit (taken First event now)) due2 (requested First event now)
then_asks_first {x = x} {a0 = a0} {b0 = b0} {freed = freed} {due1 = due1} {due2 = due2} event r =
    let as_taken = ap (λ (m : Memory). bit (taken First event m)) r.is in
    let u = asks_first event r.owner r.w1 r.w2 x a0 b0 freed due1 due2 r.a r.b r.fair in
    record {
      a = u.a;
      b = u.b;
      owner = u.owner;
      w1 = u.w1;
      w2 = u.w2;
      is = ap (requested First event) r.is ∙ u.is;
      fair = record { to_first = u.fair.to_first; to_second = u.fair.to_second; asked_first = omega (arith, u.fair.asked_first, as_taken); asked_second = u.fair.asked_second };
    }

then_asks_second : {x : List ℕ} {a0 b0 : ℕ} {freed : Client} {due1 due2 : ℕ} {now : Memory} (event : Bool) →
    Amid x a0 b0 freed due1 due2 now → Amid x a0 b0 freed due1 (due2 + bit (taken Second event now)) (requested Second event now)
then_asks_second {x = x} {a0 = a0} {b0 = b0} {freed = freed} {due1 = due1} {due2 = due2} event r =
    let as_taken = ap (λ (m : Memory). bit (taken Second event m)) r.is in
    let u = asks_second event r.owner r.w1 r.w2 x a0 b0 freed due1 due2 r.a r.b r.fair in
    record {
      a = u.a;
      b = u.b;
      owner = u.owner;
      w1 = u.w1;
      w2 = u.w2;
      is = ap (requested Second event) r.is ∙ u.is;
      fair = record { to_first = u.fair.to_first; to_second = u.fair.to_second; asked_first = u.fair.asked_first; asked_second = omega (arith, u.fair.asked_second, as_taken) };
    }

-- before the requests of a unit, and before the second one
abbrev pub first_asks : Bool → Bool → Memory → Memory
first_asks d1 d2 m = promoted (released d1 d2 m)

abbrev pub second_asks : Bool → Bool → Bool → Memory → Memory
second_asks e1 d1 d2 m = requested First e1 (first_asks d1 d2 m)

-- the whole unit
pub unit : (e1 e2 d1 d2 : Bool) (x : List ℕ) (a b : ℕ) (owner : Client) (w1 w2 : Bool) →
    let m = owned x a b owner w1 w2 in
    Amid x a b (freed_by (is_owner_done owner d1 d2) owner)
    (bit w1 + bit (taken First e1 (first_asks d1 d2 m))) (bit w2 + bit (taken Second e2 (second_asks e1 d1 d2 m)))
    (requested Second e2 (second_asks e1 d1 d2 m))
unit e1 e2 d1 d2 x a b owner w1 w2 =
    let freed = freed_by (is_owner_done owner d1 d2) owner in
    let none1 = same a in
    let none2 = same b in
    let fair : Fair a b freed (bit w1) (bit w2) a b freed w1 w2 =
    record { to_first = omega arith; to_second = omega arith; asked_first = omega arith; asked_second = omega arith } in
    let begun : Amid x a b freed (bit w1) (bit w2) (released d1 d2 (owned x a b owner w1 w2)) =
    record { a = a; b = b; owner = freed; w1 = w1; w2 = w2; is = frees (is_owner_done owner d1 d2) x a b owner w1 w2; fair = fair } in
    then_asks_second e2 (then_asks_first e1 (then_promotes begun))
