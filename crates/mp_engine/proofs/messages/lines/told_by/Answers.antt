use Rattle.std.proofs.Common.{◌≡◌, true, sym, ap, ◌∙◌, subst, arith, inl, inr}
use Rattle.std.proofs.lemmas.Bool.{cases_eq}
use Rattle.mp_partition.specs.runs.Marks.{is_marked}
use Rattle.mp_partition.specs.regions.Regions.{partition_of}
use Rattle.mp_partition.specs.regions.Divisions.{heard_by}
use Rattle.mp_engine.proofs.messages.lines.told_by.Goals as goal

pub loop-w-preserved : goal.loop-w-preserved
loop-w-preserved c =
    let before = c.loop-w.invariant in
    let marks = c.mark_if.ensures in
    let wires = c.args.division.now.wires.items in
    let places = before.places in
    record {
      places = marks.places ∙ before.places;
      marked = λ v low is within. elim (cases_eq v c.loop-w.w) as (λ _. is_marked c.mark_if.new.marks.items (partition_of wires v) ≡ true) [
        | inl same ↦
            let at = ap (partition_of wires) same ∙ sym (c.partition_of-home.ensures ∙ ap (λ ws. partition_of ws c.loop-w.w) c.as_slice-in-loop-w.ensures.value) in
            subst (λ k. is_marked c.mark_if.new.marks.items k ≡ true) (sym at) (marks.marked (c.is_heard.ensures ∙ ap (is_marked c.heard_by-heard.result.now) (sym same) ∙ is) (omega (arith, within, at, places)))
        | inr apart ↦ marks.kept (partition_of wires v) (before.marked v (omega (arith, low, apart)) is within)
      ];
    }

pub returns-clause-marked : goal.returns-clause-marked
returns-clause-marked c = λ w within is low. c.loop-w.invariant.marked w (omega (arith, within)) (ap (λ heard. is_marked heard w) (c.heard_by-heard.ensures ∙ ap (λ heards. heard_by heards c.args.part) c.as_slice.ensures.value) ∙ is) low
