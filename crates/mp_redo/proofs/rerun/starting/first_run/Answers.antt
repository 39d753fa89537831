use Rattle.std.proofs.Common.{◌≡◌, ℕ, List, Option, length, refl, ap, sym, subst, ◌∙◌, Vec, Global}
use Rattle.mp_partition.specs.runs.Marks.{is_marked}
use Rattle.mp_active.specs.declared.compare.numbers.Numbers.{Numbers}
use Rattle.mp_active.specs.declared.compare.comparison.Comparison.{Comparison}
use Rattle.mp_active.specs.compare.Comparing.{wire_of, delay_of}
use Rattle.mp_active.specs.compare.Numbering.{AreNumbersOf, AreInputs}
use Rattle.mp_active.specs.compare.First.{AreFirst}
use Rattle.mp_redo.specs.declared.rerun.first_simulation.First.{First}
use Rattle.mp_redo.proofs.lemmas.rerun.FirstInputLemmas.{first_inputs}
use Rattle.mp_redo.proofs.rerun.starting.first_run.Goals as goal

pub first-requires-clause-inputs : goal.first-requires-clause-inputs
first-requires-clause-inputs c =
    let n = c.args.change.now.new.now in
    let first : First = c.in_ok-simulation.field-0 in
    let numbers : Numbers = c.in-Ok.numbers in
    let many = ap (λ (v : Vec ℕ Global). length v.items) c.in-Ok.ensures.wires ∙ c.in_ok-simulation.ensures.numbers.long in
    subst (AreInputs n (length numbers.wires.items)) (sym c.as_slice.ensures.value)
    (first_inputs n (is_marked c.args.active.now) first c.in_ok-simulation.ensures (length numbers.wires.items) many)

pub returns : goal.returns
returns c =
    let old = c.args.change.now.old.now in
    let new = c.args.change.now.new.now in
    let first : First = c.in_ok-simulation.field-0 in
    let numbers : Numbers = c.in-Ok.numbers in
    let comparison : Comparison = c.in-Ok-first.comparison in
    let is_first = c.in_ok-simulation.ensures in
    let told : comparison.numbers ≡ numbers = c.in-Ok-first.ensures.numbers in
    record {
      wired = first.wired;
      first = is_first;
      wires = ap (λ (ns : Numbers). ns.wires.items) told ∙ ap (λ (v : Vec ℕ Global). v.items) c.in-Ok.ensures.wires;
      inputs = refl;
      sources = λ x low.
          subst (λ (ns : Numbers). is_first.numbering.source x ≡ (wire_of ns x, delay_of ns x)) (sym told) (c.in-Ok.ensures.sources is_first.numbering.source is_first.numbers x low);
      numbers = subst (AreNumbersOf new) (sym told) c.in-Ok.ensures.are;
      compared = subst (λ (ports : List (List (Option ℕ))). AreFirst old new c.args.active.now ports comparison) c.as_slice.ensures.value c.in-Ok-first.ensures.first;
      cursors = c.in-Ok-first.ensures.cursors;
      unseen = c.in-Ok-first.ensures.unseen;
      complete = c.in-Ok-first.ensures.complete;
    }
