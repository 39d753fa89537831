use Rattle.std.proofs.Common.{ℕ, List, slice_index_or, sym, subst}
use Rattle.mp_depend.specs.work.Work.{IsEntry}
use Rattle.mp_phase.specs.Allowed.{IsAllowed}
use Rattle.mp_near.proofs.lemmas.laws.RevisionLemmas.{regions_are_revisions}
use Rattle.mp_near.specs.region.Picks.{picking}
use Rattle.mp_near.proofs.lemmas.runs.WorkLemmas.{allowed_there}
use Rattle.mp_near.proofs.redoing.redo_small.Goals as goal

pub redo-redone-requires-clause-allowed : goal.redo-redone-requires-clause-allowed
redo-redone-requires-clause-allowed g c = λ asked lives.
    let may = g.G.Gate.may c.args.context.now.gate.now in
    subst (λ (xs : List ℕ). IsAllowed (IsEntry c.args.region.now.was c.args.region.now.now) (λ k from to. may (slice_index_or xs k 0) from to)) (sym c.as_slice.ensures.value)
    (allowed_there c.args.change.now c.requires.change c.args.region.now c.requires.region c.requires.least may c.requires.allowed)

pub redo-redone-requires-clause-revision : goal.redo-redone-requires-clause-revision
redo-redone-requires-clause-revision g c = λ asked lives.
    let change = c.args.change.now in
    let region = c.args.region.now in
    let is = c.requires.region in
    regions_are_revisions change.old.now change.new.now region.was region.now (picking change.new.now region.picked) c.requires.change.revision is.region is.grown.wires is.grown.modules
