-- What is listed of the wires that are taken out of the wheels.
use Rattle.std.proofs.Common.{◌≡◌, ℕ, zero, suc, ◌+◌, ◌<◌, Bool, true, false, List, [], ◌∷◌, ◌++◌, cond, map, nat_lt, refl, ap, sym, ◌∙◌, arith, inl, inr, ◌⊎◌}
use Rattle.std.specs.Prelude.{◌==◌, ◌&&◌}
use Rattle.std.specs.List.{count_by, filter}
use Rattle.std.proofs.lemmas.Bool.{cases_order, eq-eqb, ne_eqb, lt-ltb, le-ltb}
use Rattle.std.proofs.lemmas.List.Sums.{sum_by-cons, sum_by-append}
use Rattle.mp_modules.specs.automata.Codes.{bit}
use Rattle.mp_simulation.specs.bits.Simulators.{slot_at}
use Rattle.mp_kernel.specs.events.Adding.{listed}
use Rattle.mp_kernel.specs.declared.datapath.level_change.LevelChange.{LevelChange}
use Rattle.mp_simulation.specs.declared.units.netlist_simulation.NetlistSimulation.{NetlistSimulation}
use Rattle.mp_simulation.specs.units.DataLevels.{changes_of}
use Rattle.mp_simulation.specs.units.DataWheels.{data_slot}
use Rattle.mp_simulation.specs.declared.run.stimuli.StimulusChange.{StimulusChange}
use Rattle.mp_active.specs.steps.Taking.{is_taken, gone_changes, taken_toggle, taken_change, taken_at, taken_in, ListsTaken}
use Rattle.mp_active.proofs.lemmas.steps.GoneLemmas.{counted_kept}

-- one more of a kind
counted : (w u : ℕ) (c : StimulusChange) (cs : List StimulusChange) → count_by (is_taken w u) (c ∷ cs) ≡ bit (is_taken w u c) + count_by (is_taken w u) cs
counted w u c cs = sum_by-cons (λ (c : StimulusChange). cond (is_taken w u c) 1 0) c cs

counted_both : (w u : ℕ) (one other : List StimulusChange) → count_by (is_taken w u) (one ++ other) ≡ count_by (is_taken w u) one + count_by (is_taken w u) other
counted_both w u one other = sum_by-append (λ (c : StimulusChange). cond (is_taken w u c) 1 0) one other

none_counted : (b : Bool) → ◌≡◌ {A = ℕ} 0 (cond b 0 0)
none_counted true = refl
none_counted false = refl

one_counted : (same own : Bool) (rest : ℕ) → bit (same && own) + cond same rest 0 ≡ cond same (bit own + rest) 0
one_counted true own rest = refl
one_counted false own rest = refl

toggles_counted : (w u time : ℕ) (xs : List ℕ) → count_by (is_taken w u) (map (taken_toggle time) xs) ≡ cond (time == u) (listed w xs) 0
toggles_counted w u time [] = none_counted (time == u)
toggles_counted w u time (x ∷ xs) =
    counted w u (taken_toggle time x) (map (taken_toggle time) xs)
    ∙ ap (λ j. bit (is_taken w u (taken_toggle time x)) + j) (toggles_counted w u time xs)
    ∙ one_counted (time == u) (x == w) (listed w xs)
    ∙ ap (λ j. cond (time == u) j 0) (sym (sum_by-cons (λ (d : ℕ). cond (d == w) 1 0) x xs))

levels_counted : (w u time : ℕ) (cs : List LevelChange) → count_by (is_taken w u) (map (taken_change time) cs) ≡ cond (time == u) (changes_of w cs) 0
levels_counted w u time [] = none_counted (time == u)
levels_counted w u time (c ∷ cs) =
    counted w u (taken_change time c) (map (taken_change time) cs)
    ∙ ap (λ j. bit (is_taken w u (taken_change time c)) + j) (levels_counted w u time cs)
    ∙ one_counted (time == u) (c.number == w) (changes_of w cs)
    ∙ ap (λ j. cond (time == u) j 0) (sym (sum_by-cons (λ (d : LevelChange). cond (d.number == w) 1 0) c cs))

-- what the slots of a unit have of a wire
abbrev had : NetlistSimulation → ℕ → ℕ → ℕ
had s w k = listed w (slot_at s.bits.simulator k) + changes_of w (data_slot s.wires.wheel k)

summed : (same own : Bool) (one other : ℕ) → cond same (cond own one 0) 0 + cond same (cond own other 0) 0 ≡ cond same (cond own (one + other) 0) 0
summed true true one other = refl
summed true false one other = refl
summed false own one other = refl

unit_counted : (gone : ℕ → Bool) (time k u w : ℕ) (s : NetlistSimulation) → count_by (is_taken w u) (taken_at gone time s k) ≡ cond (time + k == u) (cond (gone w) (had s w k) 0) 0
unit_counted gone time k u w s =
    counted_both w u (map (taken_toggle (time + k)) (filter gone (slot_at s.bits.simulator k))) (map (taken_change (time + k)) (gone_changes gone (data_slot s.wires.wheel k)))
    ∙ ap (λ j. j + count_by (is_taken w u) (map (taken_change (time + k)) (gone_changes gone (data_slot s.wires.wheel k))))
    (toggles_counted w u (time + k) (filter gone (slot_at s.bits.simulator k))
    ∙ ap (λ j. cond (time + k == u) j 0) (counted_kept (λ (x : ℕ). x) gone w (slot_at s.bits.simulator k)))
    ∙ ap (λ j. cond (time + k == u) (cond (gone w) (listed w (slot_at s.bits.simulator k)) 0) 0 + j)
    (levels_counted w u (time + k) (gone_changes gone (data_slot s.wires.wheel k))
    ∙ ap (λ j. cond (time + k == u) j 0) (counted_kept (λ (c : LevelChange). c.number) gone w (data_slot s.wires.wheel k)))
    ∙ summed (time + k == u) (gone w) (listed w (slot_at s.bits.simulator k)) (changes_of w (data_slot s.wires.wheel k))

plus : (a b c d : ℕ) → a ≡ c → b ≡ d → a + b ≡ c + d
plus a b c d one other = omega (arith, one, other)

more : (low here low_next own : Bool) (x y : ℕ) → (here ≡ true → (low ≡ false) × (low_next ≡ true) × (y ≡ x)) → (here ≡ false → low_next ≡ low) →
    cond (low && own) x 0 + cond here (cond own y 0) 0 ≡ cond (low_next && own) x 0
more low true low_next own x y is other =
    let facts = is refl in
    ap (λ b. cond (b && own) x 0 + cond own y 0) facts.0
    ∙ zero_plus (cond own y 0)
    ∙ ap (λ j. cond own j 0) facts.2
    ∙ ap (λ b. cond (b && own) x 0) (sym facts.1)
  where
    zero_plus : (j : ℕ) → 0 + j ≡ j
    zero_plus j = omega arith
more low false low_next own x y is other = plus_zero (cond (low && own) x 0) ∙ ap (λ b. cond (b && own) x 0) (sym (other refl))
  where
    plus_zero : (j : ℕ) → j + 0 ≡ j
    plus_zero j = omega arith

pub lists_taken : ListsTaken
lists_taken gone time zero w k s = sym (ap (λ b. cond (b && gone w) (had s w k) 0) (le-ltb k 0 (omega arith)))
lists_taken gone time (suc units) w k s =
    counted_both w (time + k) (taken_in gone time s units) (taken_at gone time s units)
    ∙ plus (count_by (is_taken w (time + k)) (taken_in gone time s units)) (count_by (is_taken w (time + k)) (taken_at gone time s units))
    (cond (nat_lt k units && gone w) (had s w k) 0) (cond (time + units == time + k) (cond (gone w) (had s w units) 0) 0)
    (lists_taken gone time units w k s) (unit_counted gone time units (time + k) w s)
    ∙ elim (cases_order units k) as (λ _.
    cond (nat_lt k units && gone w) (had s w k) 0 + cond (time + units == time + k) (cond (gone w) (had s w units) 0) 0 ≡ cond (nat_lt k (suc units) && gone w) (had s w k) 0) [
      | inl same ↦ more (nat_lt k units) (time + units == time + k) (nat_lt k (suc units)) (gone w) (had s w k) (had s w units)
          (λ _. (le-ltb k units (omega (arith, same)), lt-ltb k (suc units) (omega (arith, same)), ap (had s w) same))
          (λ no. let never = sym (eq-eqb (time + units) (time + k) (ap (λ j. time + j) same)) ∙ no in let wrong : ⊥ = cc in absurd wrong)
      | inr apart ↦ more (nat_lt k units) (time + units == time + k) (nat_lt k (suc units)) (gone w) (had s w k) (had s w units)
          (λ is. let never = sym (ne_eqb (time + units) (time + k) (λ e. differ apart (omega (arith, e)))) ∙ is in let wrong : ⊥ = cc in absurd wrong)
          (λ _. elim apart as (λ _. nat_lt k (suc units) ≡ nat_lt k units) [
            | inl before ↦ le-ltb k (suc units) (omega (arith, before)) ∙ sym (le-ltb k units (omega (arith, before)))
            | inr after ↦ lt-ltb k (suc units) (omega (arith, after)) ∙ sym (lt-ltb k units after)
          ])
    ]
  where
    differ : (units < k) ⊎ (k < units) → units ≡ k → ⊥
    differ (inl before) same = omega (arith, before, same)
    differ (inr after) same = omega (arith, after, same)
