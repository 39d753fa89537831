use Rattle.std.proofs.Common.{◌≡◌, ℕ, List, length, sym, ap, ◌∙◌, arith, inl, inr}
use Rattle.std.proofs.lemmas.Bool.{cases_lt}
use lib.ListN.{replicate}
use Rattle.std.proofs.lemmas.List.{get_or-replicate, get_or_past, length-replicate}
use Rattle.mp_kernel.specs.timers.TimerWheels.{never, time_in}
use Rattle.mp_kernel.proofs.lemmas.timers.TimerLemmas.{none_listed}
use Rattle.mp_kernel.proofs.timers.timer_wheel.TimerWheel.new.Goals as goal

none : (xs : List ℕ) (n : ℕ) → xs ≡ replicate n never → (x : ℕ) → time_in xs x ≡ never
none xs n is x = elim (cases_lt x n) as (λ _. time_in xs x ≡ never) [
  | inl low ↦ ap (λ (ts : List ℕ). time_in ts x) is ∙ get_or-replicate n x never never low
  | inr past ↦ get_or_past xs x never (let long = ap (length {A = ℕ}) is ∙ length-replicate n never in omega arith)
]

pub returns-clause-is : goal.returns-clause-is
returns-clause-is c t =
    let places = c.in_ok-new.ensures.places in
    let some = c.requires in
    let all = c.in_ok-vec.ensures.items_if_clones_equal (λ y is. is) in
    none_listed (record { times = c.in_ok-vec.field-0; wheel = c.in_ok-new.field-0; span = c.args.span }) (omega arith) (sym places) (none c.in_ok-vec.field-0.items c.args.numbers all) c.in_ok-new.ensures.empty t
