use Rattle.std.proofs.Common.{◌<◌, length, slice_index_or, ap, sym, subst, ◌∙◌, arith, inl, inr}
use Rattle.std.proofs.lemmas.Bool.{cases_eq}
use Rattle.std.proofs.lemmas.List.{get_or_default}
use Rattle.mp_records.specs.declared.ports.Input.{Input}
use Rattle.mp_redo.specs.rerun.Resting.{HasRested}
use Rattle.mp_redo.proofs.rerun.rerun.Rerun.have_rested.Goals as goal

pub loop-port-preserved : goal.loop-port-preserved
loop-port-preserved c = λ k d low.
    let run = c.args.change.now.run.now in
    let from = c.args.from in
    let to = c.args.to in
    let inputs = c.args.inputs.now in
    let port = c.loop-port.port in
    let none : Input = record { wire = record { 0 = 0 }; delay = 0 } in
    let within : port < length inputs = omega arith in
    let here : HasRested run from to (slice_index_or inputs port none) = c.has_rested.ensures c.if-not-has_rested.false in
    elim (cases_eq k port) as (λ _. HasRested run from to (slice_index_or inputs k d)) [
      | inl same ↦ subst (λ (i : Input). HasRested run from to i) (sym (ap (λ j. slice_index_or inputs j d) same ∙ get_or_default inputs port d none within)) here
      | inr other ↦ c.loop-port.invariant k d (omega (arith, low, other))
    ]
