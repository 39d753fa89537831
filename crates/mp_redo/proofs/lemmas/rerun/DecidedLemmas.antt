-- Tails: what modules have decided of their wires before they fell asleep.
use Rattle.std.proofs.Common.{◌≡◌, ℕ, ◌+◌, ◌-◌, ◌≤◌, Bool, true, false, not, cond, nat_lt, List, [], ◌∷◌, ◌++◌, All, Option, Some, zero, suc, refl, ap, sym, subst, ◌∙◌, arith}
use Rattle.std.specs.Prelude.{◌&&◌, ◌==◌}
use Rattle.std.specs.List.{count_by}
use Rattle.std.specs.List.Sorted.{IsPermutation}
use mathlib.Core.Path.{fun_ext}
use Rattle.std.proofs.lemmas.List.Elements.{All-append, All-weaker}
use Rattle.std.proofs.lemmas.List.Sorted.{sum_by-IsPermutation, All-permutation}
use Rattle.std.proofs.lemmas.List.Sums.{sum_by-append}
use Rattle.mp_records.specs.declared.ids.ModuleId.{ModuleId}
use Rattle.mp_records.specs.declared.module_record.ModuleRecord.{ModuleRecord}
use Rattle.mp_records.specs.Outputs.{delay_of}
use Rattle.mp_netlist.specs.declared.driver.Driver.{Driver}
use Rattle.mp_netlist.specs.declared.driver.Driver.TheVariants.{Nothing, Stimulus, Port}
use Rattle.mp_netlist.specs.Circuit.{Circuit, module_at}
use Rattle.mp_netlist.specs.Drivers.{driver}
use Rattle.mp_netlist.proofs.DriverLemmas.{finds_only_ports}
use Rattle.mp_model.specs.Evaluations.{delay_in}
use Rattle.mp_modules.specs.automata.Codes.{bit}
use Rattle.mp_simulation.specs.bits.Changes.{change_at}
use Rattle.mp_simulation.specs.units.DataWheels.{driver_delay}
use Rattle.mp_simulation.specs.declared.run.stimuli.StimulusChange.{StimulusChange}
use Rattle.mp_simulation.specs.run.Stimuli.{AreFrom, AreInOrder, IsSetting, is_change}
use Rattle.mp_simulation.proofs.lemmas.run.AllStimuliLemmas.{in_order}
use Rattle.mp_active.specs.excerpt.Excerpts.{is_followed}
use Rattle.mp_active.specs.excerpt.Leaving.{is_port_in}
use Rattle.mp_active.specs.steps.Taking.{is_taken}
use Rattle.mp_active.specs.steps.Tails.{IsTail, AreTails as AreTaken}
use Rattle.mp_redo.specs.rerun.Following.{AreTails, is_tail}
use Rattle.mp_active.proofs.lemmas.steps.AheadLemmas.{shifted}

and_swap : (a b : Bool) → (a && b) ≡ (b && a)
and_swap true true = refl
and_swap true false = refl
and_swap false true = refl
and_swap false false = refl

counted_taken : (w u : ℕ) (ss : List StimulusChange) → count_by (is_change w u) ss ≡ count_by (is_taken w u) ss
counted_taken w u ss = ap (λ (p : StimulusChange → Bool). count_by p ss) (fun_ext (λ (c : StimulusChange). and_swap (c.wire == w) (c.time == u)))

later_all : (time : ℕ) (ss : List StimulusChange) → AreFrom time ss → All (λ (c : StimulusChange). time ≤ c.time) ss
later_all time [] from j d within = absurd (let no : ⊥ = omega (arith, within) in no)
later_all time (s ∷ ss) from zero d within = from.0
later_all time (s ∷ ss) from (suc j) d within = let rest = later_all s.time ss from.1 j d (omega (arith, within)) in let first = from.0 in omega (arith, rest, first)

not_counted : (c b : Bool) → bit (c && (false && b)) ≡ 0
not_counted true b = refl
not_counted false b = refl

module _ (n : Circuit) (active after leaving : ℕ → Bool) (t : ℕ) (taken : List StimulusChange) (are : AreTaken n leaving t taken) (until later : ℕ → ℕ)
    (fewer : (m : ℕ) → after m ≡ true → active m ≡ true) (stays : (m : ℕ) → after m ≡ true → leaving m ≡ false) (rests : (m : ℕ) → active m ≡ false → leaving m ≡ false)
    (leaves : (m : ℕ) → active m ≡ true → after m ≡ false → leaving m ≡ true)
    (same : (w p : ℕ) (m : ModuleId) → driver n w ≡ Port m p → active m.0 ≡ false → later w ≡ until w)
    (slept : (w p : ℕ) (m : ModuleId) (r : ModuleRecord) → driver n w ≡ Port m p → module_at n m.0 ≡ Some r → active m.0 ≡ true → after m.0 ≡ false → later w ≡ t + 1 + delay_of r p) where
  -- what one more tail has
  abbrev IsMore : ℕ → ℕ → Driver → Type 0
  IsMore w k d =
      bit (change_at n w (t + 1 + k) && (is_followed active d && nat_lt (t + 1 + k) (until w)))
      + bit (is_port_in leaving d && (change_at n w (t + 1 + k) && nat_lt k (driver_delay n d)))
      ≡ bit (change_at n w (t + 1 + k) && (is_followed after d && nat_lt (t + 1 + k) (later w)))

  port_more : (w k p : ℕ) (m : ModuleId) → driver n w ≡ Port m p → (on now goes : Bool) → active m.0 ≡ on → after m.0 ≡ now → leaving m.0 ≡ goes →
      bit (change_at n w (t + 1 + k) && (not on && nat_lt (t + 1 + k) (until w)))
      + bit (goes && (change_at n w (t + 1 + k) && nat_lt k (delay_in (module_at n m.0) p)))
      ≡ bit (change_at n w (t + 1 + k) && (not now && nat_lt (t + 1 + k) (later w)))
  port_more w k p m is on true true was now goes = let not_going = stays m.0 now in let no : ⊥ = cc in absurd no
  port_more w k p m is false true false was now goes = let is_on = fewer m.0 now in let no : ⊥ = cc in absurd no
  port_more w k p m is true true false was now goes =
      let one = not_counted (change_at n w (t + 1 + k)) (nat_lt (t + 1 + k) (until w)) in
      let two = not_counted (change_at n w (t + 1 + k)) (nat_lt (t + 1 + k) (later w)) in
      omega (arith, one, two)
  port_more w k p m is true false false was now goes = let going = leaves m.0 was now in let no : ⊥ = cc in absurd no
  port_more w k p m is false false true was now goes = let not_going = rests m.0 was in let no : ⊥ = cc in absurd no
  port_more w k p m is false false false was now goes =
      let alike = ap (λ (u : ℕ). bit (change_at n w (t + 1 + k) && nat_lt (t + 1 + k) u)) (same w p m is was) in
      omega (arith, alike)
  port_more w k p m is true false true was now goes =
      let found = finds_only_ports n w p m is in
      let one = not_counted (change_at n w (t + 1 + k)) (nat_lt (t + 1 + k) (until w)) in
      let until_then : later w ≡ t + 1 + delay_in (module_at n m.0) p =
      slept w p m found.part is found.stands was now ∙ ap (λ (slot : Option ModuleRecord). t + 1 + delay_in slot p) (sym found.stands) in
      let alike : bit (change_at n w (t + 1 + k) && nat_lt (t + 1 + k) (later w)) ≡ bit (change_at n w (t + 1 + k) && nat_lt k (delay_in (module_at n m.0) p)) =
      ap (λ (u : ℕ). bit (change_at n w (t + 1 + k) && nat_lt (t + 1 + k) u)) until_then ∙ ap (λ (b : Bool). bit (change_at n w (t + 1 + k) && b)) (shifted t k (delay_in (module_at n m.0) p)) in
      omega (arith, one, alike)

  tail_more : (w k : ℕ) (d : Driver) → driver n w ≡ d → IsMore w k d
  tail_more w k Nothing is =
      let one = not_counted (change_at n w (t + 1 + k)) (nat_lt (t + 1 + k) (until w)) in
      let two = not_counted (change_at n w (t + 1 + k)) (nat_lt (t + 1 + k) (later w)) in
      omega (arith, one, two)
  tail_more w k Stimulus is =
      let one = not_counted (change_at n w (t + 1 + k)) (nat_lt (t + 1 + k) (until w)) in
      let two = not_counted (change_at n w (t + 1 + k)) (nat_lt (t + 1 + k) (later w)) in
      omega (arith, one, two)
  tail_more w k (Port m p) is = port_more w k p m is (active m.0) (after m.0) (leaving m.0) refl refl refl

  -- the tails when modules sleep more
  pub tails_more : (olds news : List StimulusChange) → AreTails n active until t olds → IsPermutation (olds ++ taken) news → AreInOrder news → AreTails n after later t news
  tails_more olds news were moved order = record {
    listed = in_order (t + 1) news (All-permutation (λ (c : StimulusChange). t + 1 ≤ c.time) (olds ++ taken) news moved
        (All-append (λ (c : StimulusChange). t + 1 ≤ c.time) olds taken (later_all (t + 1) olds were.listed)
        (All-weaker (IsTail n t) (λ (c : StimulusChange). t + 1 ≤ c.time) (λ c tail. let after_t = tail.later in omega (arith, after_t)) taken are.own))) order;
    each = λ w u after_t.
        let at : t + 1 + (u - (t + 1)) ≡ u = omega (arith, after_t) in
        subst (λ (v : ℕ). count_by (is_change w v) news ≡ bit (change_at n w v && is_tail n after later w v)) at (each w (u - (t + 1)));
    set = All-permutation (IsSetting n) (olds ++ taken) news moved
        (All-append (IsSetting n) olds taken were.set (All-weaker (IsTail n t) (IsSetting n) (λ c tail. record { sort = tail.kind; level = tail.level }) taken are.own));
  }
    where
      each : (w k : ℕ) → count_by (is_change w (t + 1 + k)) news ≡ bit (change_at n w (t + 1 + k) && is_tail n after later w (t + 1 + k))
      each w k =
          sum_by-IsPermutation (λ (c : StimulusChange). cond (is_change w (t + 1 + k) c) 1 0) (olds ++ taken) news moved
          ∙ sum_by-append (λ (c : StimulusChange). cond (is_change w (t + 1 + k) c) 1 0) olds taken
          ∙ ap (λ j. j + count_by (is_change w (t + 1 + k)) taken) (were.each w (t + 1 + k) (omega arith))
          ∙ ap (λ j. bit (change_at n w (t + 1 + k) && is_tail n active until w (t + 1 + k)) + j) (counted_taken w (t + 1 + k) taken ∙ are.each w k)
          ∙ tail_more w k (driver n w) refl
