use Rattle.std.proofs.Common.{◌≡◌, ◌+◌, ◌<◌, true, List, ℕ, Bool, sym, ap, ◌∙◌, subst, length}
use Rattle.std.proofs.lemmas.List.{length_push}
use Rattle.mp_netlist.specs.Circuit.{Circuit}
use Rattle.mp_modules.specs.automata.Codes.{bit}
use Rattle.mp_partition.specs.runs.Marks.{is_marked}
use Rattle.mp_partition.specs.regions.Regions.{partition_of}
use Rattle.mp_partition.specs.regions.Divisions.{heard_by}
use Rattle.mp_engine.specs.messages.Lines.{parts_of}
use Rattle.mp_engine.proofs.lemmas.messages.LineLemmas.{told_once, numbered_more}
use Rattle.mp_engine.proofs.messages.lines.Lines.between.Goals as goal

pub invariant_of-push : goal.invariant_of-push
invariant_of-push g c = record {
  once = told_once g.J.Subject.netlist c.args.division.now.homes.items g.J.Subject.wires g.J.Subject.heards c.args.division.now.parts c.loop-part.part c.in_ok-marks.marks.items (parts_of c.in_ok-lines_from.field-0.items) c.requires.division
      (λ w low heard few.
      subst (λ (ws : List ℕ). is_marked c.in_ok-marks.marks.items (partition_of ws w) ≡ true) c.requires.wires
      (c.in_ok-marks.ensures.marked w (subst (λ (n : Circuit). w < length n.wires) (sym c.requires.netlist) low)
      (ap (λ (hs : List (List Bool)). is_marked (heard_by hs c.loop-part.part) w) c.requires.heards ∙ heard)
      (subst (λ (ws : List ℕ). partition_of ws w < c.args.division.now.parts) (sym c.requires.wires) few)))
      (λ k. c.in_ok-lines_from.ensures k ∙ ap (λ marks. bit (is_marked marks k)) c.as_slice.ensures.value);
}

pub loop-part-preserved : goal.loop-part-preserved
loop-part-preserved g c =
    let before = c.loop-part.invariant in
    let places = before.places in
    let items = c.in_ok-push-2.ensures.items in
    record {
      places = ap (length) items ∙ length_push c.loop-part.mails.items _ ∙ ap (λ k. k + 1) places;
      numbered = numbered_more c.loop-part.mails.items c.push-in-loop-part.new.self.items _ items (sym places) before.numbered;
    }
