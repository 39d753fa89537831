use Rattle.std.proofs.Common.{◌-◌, sym, subst}
use Rattle.mp_active.specs.compare.Comparing.{AreNumbers, AreUntracked}
use Rattle.mp_redo.proofs.lemmas.rerun.FindingLemmas.{below_never, wires_ahead_are, copies_ahead_are}
use Rattle.mp_redo.proofs.rerun.rerun.Rerun.tracks_none.Goals as goal

pub tracks_none-requires-clause-shape : goal.tracks_none-requires-clause-shape
tracks_none-requires-clause-shape c = c.requires.is.1.is.followed.cursors.shape

pub tracks_none-requires-clause-within : goal.tracks_none-requires-clause-within
tracks_none-requires-clause-within c =
    let s = c.args.self.now in
    let change = c.requires.change in
    let at = c.requires.is.1 in
    subst (AreNumbers s.comparison.numbers) (sym c.toggles_ahead-wires.ensures)
    (wires_ahead_are c.args.change.now.old.now c.args.change.now.new.now change.old_form change.form change.revision c.args.change.now.run.now at.numbering at.since (c.args.time - 1) s at.is)

pub tracks_none-requires-clause-time : goal.tracks_none-requires-clause-time
tracks_none-requires-clause-time c = below_never c.args.change.now.new.now c.requires.change.form c.args.time c.requires.below

pub tracks_none-requires-then-tracks_none-clause-shape : goal.tracks_none-requires-then-tracks_none-clause-shape
tracks_none-requires-then-tracks_none-clause-shape c = c.requires.is.1.is.followed.cursors.shape

pub tracks_none-requires-then-tracks_none-clause-within : goal.tracks_none-requires-then-tracks_none-clause-within
tracks_none-requires-then-tracks_none-clause-within c =
    let s = c.args.self.now in
    let change = c.requires.change in
    let at = c.requires.is.1 in
    subst (AreNumbers s.comparison.numbers) (sym c.slot-copies.ensures)
    (copies_ahead_are c.args.change.now.old.now c.args.change.now.new.now change.old_form change.form change.revision c.args.change.now.run.now at.numbering at.since (c.args.time - 1) s at.is)

pub tracks_none-requires-then-tracks_none-clause-time : goal.tracks_none-requires-then-tracks_none-clause-time
tracks_none-requires-then-tracks_none-clause-time c = below_never c.args.change.now.new.now c.requires.change.form c.args.time c.requires.below

pub returns-then-tracks_none-clause-wires : goal.returns-then-tracks_none-clause-wires
returns-then-tracks_none-clause-wires c none =
    subst (AreUntracked c.args.self.now.comparison c.args.time) c.toggles_ahead-wires.ensures (c.tracks_none.ensures c.if-tracks_none.true)

pub returns-then-tracks_none-clause-copies : goal.returns-then-tracks_none-clause-copies
returns-then-tracks_none-clause-copies c none = subst (AreUntracked c.args.self.now.comparison c.args.time) c.slot-copies.ensures (c.tracks_none-then-tracks_none.ensures none)
