-- The numbers that modules' inputs read at first are those that there are.
use Rattle.std.proofs.Common.{◌≡◌, ℕ, zero, suc, ◌<◌, Bool, List, [], ◌∷◌, Option, Some, None, All, length, slice_index_or, ap, sym, subst, ◌∙◌, arith, inl, inr}
use Rattle.std.proofs.lemmas.Bool.{cases_lt}
use Rattle.std.proofs.lemmas.List.{get_or_past}
use Rattle.std.proofs.lemmas.List.Elements.{All-head, All-tail}
use Rattle.std.proofs.lemmas.Option.{none-some, same_Some}
use Rattle.mp_netlist.specs.Circuit.{Circuit}
use Rattle.mp_simulation.specs.units.DataSeats.{number_at}
use Rattle.mp_active.specs.compare.Numbering.{AreInputs}
use Rattle.mp_redo.specs.declared.rerun.first_simulation.First.{First}
use Rattle.mp_redo.specs.rerun.Starting.{IsFirst}

number_low : (bound : ℕ) (xs : List ℕ) → All (λ x. x < bound) xs → (p x : ℕ) → number_at xs p ≡ Some x → x < bound
number_low bound [] all p x is = absurd (none-some x is)
number_low bound (y ∷ xs) all zero x is = subst (λ k. k < bound) (same_Some y x is) (All-head (λ k. k < bound) y xs all)
number_low bound (y ∷ xs) all (suc p) x is = number_low bound xs (All-tail (λ k. k < bound) y xs all) p x is

pub first_inputs : (n : Circuit) (active : ℕ → Bool) (first : First) → IsFirst n active first → (count : ℕ) → count ≡ length first.wired.wiring.next.items → AreInputs n count first.wired.inputs.items
first_inputs n active first is count many = record {
  modules = is.modules;
  below = λ m p x at. elim (cases_lt m (length n.modules)) as (λ _. x < count) [
    | inl low ↦
        let inside = number_low (length first.simulation.bits.simulator.fanout) (is.numbering.inputs m) (is.wired.low m) p x (sym (is.by_port m low p) ∙ at) in
        let same = is.count in
        omega (arith, inside, same, many)
    | inr past ↦
        let long = is.modules in
        absurd (none-some x (sym (ap (λ (ports : List (Option ℕ)). slice_index_or ports p None) (get_or_past first.wired.inputs.items m [] (omega (arith, past, long)))) ∙ at))
  ];
}
