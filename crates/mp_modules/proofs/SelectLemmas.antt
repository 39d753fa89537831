-- SELECT: each event of its input goes to one output.
use Rattle.std.proofs.Common.{◌≡◌, ℕ, zero, suc, ◌+◌, ◌-◌, Bool, true, false, not, cond, List, refl, ap, ◌∙◌, arith}
use Rattle.std.specs.Prelude.{◌==◌, ◌&&◌, slice_index}
use Rattle.std.proofs.lemmas.Bool.{eqb-true, eqb-false, not-true}
use Rattle.mp_modules.specs.declared.core_module.CoreModule.TheVariants.{Select}
use Rattle.mp_modules.specs.declared.memory.Memory.{Memory}
use Rattle.mp_modules.specs.declared.memory.Client.TheVariants.{Nobody}
use Rattle.mp_modules.specs.Memories.{flipped, seen}
use Rattle.mp_modules.specs.Tables.{settle, step}
use Rattle.mp_modules.specs.Quiet.{unchanged}
use Rattle.mp_modules.specs.Histories.{state_at, output}
use Rattle.mp_modules.specs.EventLaws.{HasEachEvent, TrueWhereDiamondIsOne, FalseWhereDiamondIsNot}
use Rattle.mp_modules.proofs.HistoryLemmas.{bit, change, changed, event_at, flip, holding, same}

-- the state with these outputs
abbrev showing : List ℕ → ℕ → ℕ → Memory
showing x a b = holding x a b 0 Nobody false false

-- the outputs after a unit in which the input has an event or has none, and which of them had it
record Steered (event diamond : Bool) (a b : ℕ) (y : List ℕ) (now : Memory) : Type 0 where
  new_a : ℕ
  new_b : ℕ
  is : now ≡ showing y new_a new_b
  on_true : change a new_a ≡ bit (event && diamond)
  on_false : change b new_b ≡ bit (event && not diamond)

steered : (event diamond : Bool) (a b : ℕ) (x y : List ℕ) →
    Steered event diamond a b y (seen y (cond event (flipped (cond diamond 0 1) (showing x a b)) (showing x a b)))
steered true true a b x y = record { new_a = 1 - a; new_b = b; is = refl; on_true = flip a; on_false = same b }
steered true false a b x y = record { new_a = a; new_b = 1 - b; is = refl; on_true = same a; on_false = flip b }
steered false diamond a b x y = record { new_a = a; new_b = b; is = refl; on_true = same a; on_false = same b }

record Shows (x : ℕ → List ℕ) (t : ℕ) : Type 0 where
  a : ℕ
  b : ℕ
  is : state_at Select x t ≡ showing (x t) a b

settled : (x : List ℕ) → settle Select x ≡ showing x 0 0
settled x = rw (unchanged (slice_index x 0)) refl

abbrev diamond_at : (ℕ → List ℕ) → ℕ → Bool
diamond_at x t = slice_index (x t) 1 == 1

shows : (x : ℕ → List ℕ) (t : ℕ) → Shows x t
shows x zero = record { a = 0; b = 0; is = settled (x 0) }
shows x (suc t) =
    let r = shows x t in
    let u = steered (event_at x 0 t) (diamond_at x (suc t)) r.a r.b (x t) (x (suc t)) in
    record { a = u.new_a; b = u.new_b; is = ap (λ (m : Memory). step Select m (x (suc t))) r.is ∙ u.is }

-- the output true has the input's event where the diamond is 1, and the output false has it elsewhere
to_true : (x : ℕ → List ℕ) (t : ℕ) → change (output Select x 0 t) (output Select x 0 (suc t)) ≡ bit (event_at x 0 t && diamond_at x (suc t))
to_true x t =
    let r = shows x t in
    let u = steered (event_at x 0 t) (diamond_at x (suc t)) r.a r.b (x t) (x (suc t)) in
    changed 0 r.is (ap (λ (m : Memory). step Select m (x (suc t))) r.is ∙ u.is) ∙ u.on_true

to_false : (x : ℕ → List ℕ) (t : ℕ) → change (output Select x 1 t) (output Select x 1 (suc t)) ≡ bit (event_at x 0 t && not (diamond_at x (suc t)))
to_false x t =
    let r = shows x t in
    let u = steered (event_at x 0 t) (diamond_at x (suc t)) r.a r.b (x t) (x (suc t)) in
    changed 1 r.is (ap (λ (m : Memory). step Select m (x (suc t))) r.is ∙ u.is) ∙ u.on_false

one_of : (event diamond : Bool) → bit (event && diamond) + bit (event && not diamond) ≡ bit event
one_of true true = refl
one_of true false = refl
one_of false diamond = refl

pub has_each_event : HasEachEvent
has_each_event x zero = refl
has_each_event x (suc t) =
    let before = has_each_event x t in
    let a = to_true x t in
    let b = to_false x t in
    let one = one_of (event_at x 0 t) (diamond_at x (suc t)) in
    omega arith

-- a bit that is another's and a third's has them both
both_of : (b event side : Bool) → bit b ≡ bit (event && side) → b ≡ true → side ≡ true
both_of true true true same is = refl
both_of true true false same is = absurd (omega arith)
both_of true false side same is = absurd (omega arith)
both_of false event side same is = cc

pub true_where_one : TrueWhereDiamondIsOne
true_where_one x zero event = cc
true_where_one x (suc t) event =
    eqb-true _ _ (both_of (not (output Select x 0 t == output Select x 0 (suc t))) (event_at x 0 t) (diamond_at x (suc t)) (to_true x t) event)

pub false_where_not : FalseWhereDiamondIsNot
false_where_not x zero event = cc
false_where_not x (suc t) event =
    eqb-false _ _ (not-true _ (both_of (not (output Select x 1 t == output Select x 1 (suc t))) (event_at x 0 t) (not (diamond_at x (suc t))) (to_false x t) event))
