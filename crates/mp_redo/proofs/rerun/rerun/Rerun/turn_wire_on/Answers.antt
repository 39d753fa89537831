use Rattle.std.proofs.Common.{rules, ◌<◌, Bool, length, sym, subst, arith}
use Rattle.mp_netlist.proofs.LimitLemmas.{horizon_within}
use Rattle.mp_model.proofs.SlotLemmas.{some_within}
use Rattle.mp_active.specs.steps.TurningOn.{CanTurnOn}
use Rattle.mp_active.proofs.lemmas.steps.TurnedOnLemmas.{wires_can_turn_on}
use Rattle.mp_redo.specs.rerun.Reruns.{active_of, on_of}
use Rattle.mp_redo.proofs.lemmas.rerun.OldWaveLemmas.{no_old_wave, old_low}
use Rattle.mp_redo.proofs.lemmas.rerun.TurningLemmas.{off_stands, turned_at, has_turned, HasFollowed, source_place, kind_place, told_rest, told_on, told_kind}
use Rattle.mp_redo.proofs.rerun.rerun.Rerun.turn_wire_on.Goals as goal

pub index-requires : goal.index-requires
index-requires c =
    let at = c.requires.is.1 in
    let low : c.args.wire.0 < length c.args.self.now.comparison.sources.items =
    source_place c.args.change.now.old.now c.args.change.now.new.now c.args.change.now.run.now at.numbering at.since c.args.now c.args.self.now at.is.followed c.args.wire.0 c.requires.stands in
    search rules

pub index-requires-2 : goal.index-requires-2
index-requires-2 c =
    let at = c.requires.is.1 in
    let low : c.args.wire.0 < length c.args.self.now.comparison.numbers.have_data.items =
    kind_place c.args.change.now.old.now c.args.change.now.new.now c.args.change.now.run.now at.numbering at.since c.args.now c.args.self.now at.is.followed c.args.wire.0 c.requires.stands in
    search rules

pub returns-then-index-clause-on : goal.returns-then-index-clause-on
returns-then-index-clause-on c =
    let at = c.requires.is.1 in
    told_on c.args.change.now.old.now c.args.change.now.new.now c.args.change.now.run.now at.numbering at.since c.args.now c.args.self.now at.is.followed c.args.wire.0 c.requires.stands c.index.result.now c.index.ensures c.if-index.true

pub returns-in_default-clause-on : goal.returns-in_default-clause-on
returns-in_default-clause-on c =
    let s = c.args.self.now in
    let w = c.args.wire.0 in
    let at = c.requires.is.1 in
    let are = c.requires.change in
    let rests = told_rest c.args.change.now.old.now c.args.change.now.new.now c.args.change.now.run.now at.numbering at.since c.args.now s at.is.followed w c.requires.stands c.index.result.now c.index.ensures c.if-index.false in
    let no : ⊥ =
    no_old_wave c.args.change.now.old.now c.args.change.now.run.now are.run w c.in_default.ensures
    (off_stands c.args.change.now.old.now c.args.change.now.new.now c.args.change.now.run.now are.old_form are.form at.numbering at.since c.args.now s at.is.followed w rests c.requires.stands) in
    absurd no

pub turn_on-requires : goal.turn_on-requires
turn_on-requires c =
    let s = c.args.self.now in
    let w = c.args.wire.0 in
    let old = c.args.change.now.old.now in
    let new = c.args.change.now.new.now in
    let run = c.args.change.now.run.now in
    let are = c.requires.change in
    let at = c.requires.is.1 in
    let most = horizon_within new are.form in
    let below = c.requires.below in
    let sort = told_kind old new run at.numbering at.since c.args.now s at.is.followed w c.requires.stands c.index-2.result.now c.index-2.ensures in
    subst (λ (wide : Bool). CanTurnOn wide c.in-Some.wave.now w c.args.now s.simulation) (sym sort)
    (wires_can_turn_on new are.form (active_of s) (on_of s) at.numbering w c.args.now c.in-Some.wave.now s.simulation at.is.shows (some_within new.wires w c.requires.stands) (omega (arith, most, below))
    (λ narrow u. old_low old new are.old_form are.revision run are.run w c.in-Some.wave.now c.in-Some.ensures c.requires.stands narrow u))

pub follow-requires-clause-within : goal.follow-requires-clause-within
follow-requires-clause-within c =
    let at = c.requires.is.1 in
    source_place c.args.change.now.old.now c.args.change.now.new.now c.args.change.now.run.now at.numbering at.since c.args.now c.args.self.now at.is.followed c.args.wire.0 c.requires.stands

pub returns-clause-is : goal.returns-clause-is
returns-clause-is c =
    let s = c.args.self.now in
    let w = c.args.wire.0 in
    let old = c.args.change.now.old.now in
    let new = c.args.change.now.new.now in
    let run = c.args.change.now.run.now in
    let at = c.requires.is.1 in
    let most = horizon_within new c.requires.change.form in
    let below = c.requires.below in
    let rests = told_rest old new run at.numbering at.since c.args.now s at.is.followed w c.requires.stands c.index.result.now c.index.ensures c.if-index.false in
    let sort = told_kind old new run at.numbering at.since c.args.now s at.is.followed w c.requires.stands c.index-2.result.now c.index-2.ensures in
    turned_at c.args.change.now c.requires.change c.wires_agree.ensures.wires w c.args.now s c.in-Some.wave.now c.index-2.result.now c.turn_on.new.simulation c.follow.new.self
    (omega (arith, most, below)) below rests c.in-Some.ensures (sym sort) c.in_ok-turn_on.ensures
    (record { kept = c.in_ok-follow.ensures.kept; cursors = c.in_ok-follow.ensures.cursors; complete = c.in_ok-follow.ensures.complete; sources = c.in_ok-follow.ensures.sources })

pub returns-clause-turned : goal.returns-clause-turned
returns-clause-turned c =
    let follows : HasFollowed c.args.change.now.run.now c.args.wire.0 c.args.now c.args.self.now.comparison c.follow.new.self =
    record { kept = c.in_ok-follow.ensures.kept; cursors = c.in_ok-follow.ensures.cursors; complete = c.in_ok-follow.ensures.complete; sources = c.in_ok-follow.ensures.sources } in
    has_turned c.args.wire.0 c.args.now c.args.change.now.run.now c.args.self.now c.turn_on.new.simulation c.follow.new.self follows
