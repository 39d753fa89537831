use Rattle.std.proofs.Common.{sym, subst}
use Rattle.mp_netlist.specs.Circuit.{Circuit}
use Rattle.mp_partition.specs.runs.Runs.{IsRun}
use Rattle.mp_depend.specs.work.Revisions.{IsRevision}
use Rattle.mp_depend.specs.work.WorkSpans.{AreWorkSpans}
use Rattle.mp_depend.specs.work.Work.{IsEntry}
use Rattle.mp_phase.specs.Allowed.{IsAllowed}
use Rattle.mp_redo.proofs.lemmas.apart.PartWorkLemmas.{parts_are_revisions}
use Rattle.mp_redo.specs.parts.Changes.{homes_in, new_part, old_part}
use Rattle.mp_redo.proofs.lemmas.parts.AllowedLemmas.{part_allowed}
use Rattle.mp_redo.proofs.parts.changed_part.ChangedPart.redo_between.Goals as goal

pub redo-redone-requires-clause-revision : goal.redo-redone-requires-clause-revision
redo-redone-requires-clause-revision g c = λ asked lives.
    let change = c.args.self.change in
    let k = c.args.self.number in
    subst (λ (n : Circuit). IsRevision n c.args.new.now) (sym c.requires.old) (subst (λ (n : Circuit). IsRevision (old_part change k) n) (sym c.requires.new)
    (parts_are_revisions change.old.now change.new.now c.requires.change.revision (homes_in change) k))

pub redo-redone-requires-clause-run : goal.redo-redone-requires-clause-run
redo-redone-requires-clause-run g c = λ asked lives.
    subst (λ (n : Circuit). IsRun n c.in_ok-before.before) (sym c.requires.old) c.in_ok-before.ensures

pub redo-redone-requires-clause-allowed : goal.redo-redone-requires-clause-allowed
redo-redone-requires-clause-allowed g c = λ asked lives.
    let change = c.args.self.change in
    let k = c.args.self.number in
    let may = g.G.Gate.may c.args.gate.now in
    subst (λ (n : Circuit). IsAllowed (IsEntry n c.args.new.now) may) (sym c.requires.old) (subst (λ (n : Circuit). IsAllowed (IsEntry (old_part change k) n) may) (sym c.requires.new)
    (part_allowed change c.requires.change k c.requires.part may c.requires.allowed))

pub returns : goal.returns
returns g c =
    let change = c.args.self.change in
    let k = c.args.self.number in
    record {
      run = subst (λ (n : Circuit). IsRun n c.in_ok-run.run') c.requires.new c.in_ok-run.ensures.run;
      work_spans = subst (λ (n : Circuit). AreWorkSpans n (new_part change k) c.in_ok-run.work_spans.items) c.requires.old
          (subst (λ (n : Circuit). AreWorkSpans c.args.old.now n c.in_ok-run.work_spans.items) c.requires.new c.in_ok-run.ensures.work_spans);
    }
