-- The last window that begins up to a time.
use Rattle.std.proofs.Common.{◌≡◌, ℕ, ◌-◌, ◌%◌, ◌<◌, ◌≤◌, refl, sym, ap, subst, ◌∙◌, arith, inl, inr}
use Rattle.std.proofs.lemmas.Bool.{cases_lt}
use Rattle.mp_netlist.specs.Circuit.{Circuit, IsCircuit}
use Rattle.mp_netlist.specs.Delays.{least_delay}
use Rattle.mp_netlist.specs.Limits.{checkpoint_units}
use Rattle.mp_depend.specs.work.Work.{window_of, window_end, IsWindow}
use Rattle.mp_depend.proofs.lemmas.work.WindowLemmas.{window_cover, windows_apart}

module _ (n : Circuit) (ok : IsCircuit n) (time units least : ℕ) (below : time < n.horizon) (units_are : units ≡ checkpoint_units n.horizon) (least_is : least ≡ least_delay n) where
  begin_is : window_of n time ≡ time - time % units % least
  begin_is = ap (λ k. time - time % k % least_delay n) (sym units_are) ∙ ap (λ k. time - time % units % k) (sym least_is)

  pub begin_begins : window_of n (time - time % units % least) ≡ time - time % units % least
  begin_begins = subst (λ t. window_of n t ≡ t) begin_is (window_cover n ok time below).0.begins

  pub begin_last : (from : ℕ) → from < n.horizon → from ≤ time → window_of n from ≡ from → from ≤ time - time % units % least
  begin_last from low early begins = subst (λ t. from ≤ t) begin_is (elim (cases_lt (window_of n time) from) as (λ _. from ≤ window_of n time) [
    | inl less ↦
        let cover = window_cover n ok time below in
        let window : IsWindow n from (window_end n from) = record { below = low; begins = begins; ends = refl } in
        let apart = windows_apart n ok (window_of n time) (window_end n (window_of n time)) from (window_end n from) cover.0 window less in
        let last = cover.2 in
        let no : ⊥ = omega (arith, apart, last, early) in absurd no
    | inr not ↦ not
  ])
