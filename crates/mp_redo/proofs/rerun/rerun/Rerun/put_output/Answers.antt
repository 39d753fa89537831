use Rattle.std.proofs.Common.{◌≡◌, ◌+◌, ◌-◌, Option, Some, None, max, refl, ap, sym, subst, ◌∙◌, arith}
use Rattle.mp_netlist.proofs.LimitLemmas.{horizon_within}
use Rattle.mp_simulation.specs.declared.units.netlist_simulation.NetlistSimulation.{NetlistSimulation}
use Rattle.mp_simulation.specs.run.Stimuli.{left_of}
use Rattle.mp_active.specs.steps.Putting.{entries_of, room}
use Rattle.mp_redo.specs.declared.rerun.rerun.Rerun.{Rerun}
use Rattle.mp_redo.specs.rerun.Returning.{AreTailsIn, HasPutSpan, tail_of}
use Rattle.mp_redo.proofs.lemmas.rerun.PutLemmas.{room_kept}
use Rattle.mp_redo.proofs.lemmas.rerun.BackLemmas.{no_wire_back}
use Rattle.mp_redo.proofs.lemmas.rerun.OutputLemmas.{until_low, short, has_wave, has_room, tails_in, told_until, told_kind, delay_is, can_put_last, two_back, three_back}
use Rattle.mp_redo.proofs.rerun.rerun.Rerun.put_output.Goals as goal

none_of : {X : Type 0} (o : Option X) → ((x : X) → o ≡ Some x → ⊥) → o ≡ None
none_of None not = refl
none_of (Some x) not = absurd (not x refl)

pub returns-in_default : goal.returns-in_default
returns-in_default c = λ next.
    no_wire_back c.args.change.now.old.now c.args.change.now.new.now c.args.change.now.run.now c.args.now c.args.id.0 c.args.port c.args.output c.args.self.now next (none_of c.args.output.wire c.in_default.not-Some)

pub returns-in_default-wave : goal.returns-in_default-wave
returns-in_default-wave c = λ next.
    let are = c.requires.change in
    let no : ⊥ = has_wave c.args.change.now.old.now c.args.change.now.new.now c.args.change.now.run.now are.old_form are.form are.revision are.run c.wires_agree.ensures.sleepers c.args.now c.args.id.0 c.args.port c.args.output c.args.self.now next
    c.in-Some.wire.0 c.in-Some.is c.in_default-wave.ensures in
    absurd no

pub take_tail_back-requires-clause-below : goal.take_tail_back-requires-clause-below
take_tail_back-requires-clause-below c = let most = horizon_within c.args.change.now.new.now c.requires.change.form in let below = c.requires.below in omega (arith, most, below)

pub take_tail_back-requires-clause-pending_outputs : goal.take_tail_back-requires-clause-pending_outputs
take_tail_back-requires-clause-pending_outputs c =
    let are = c.requires.change in
    let next = c.requires.next in
    let s = c.args.self.now in
    let wide = c.index-2.result.now in
    subst (λ u. AreTailsIn c.in-Some.wire.0 c.args.now u (room wide s.simulation) wide (left_of s.pending_outputs))
    (told_until c.args.change.now.old.now c.args.change.now.new.now c.args.change.now.run.now are.old_form are.form are.revision are.run c.wires_agree.ensures.sleepers c.args.now c.args.id.0 c.args.port c.args.output c.args.self.now next c.in-Some.wire.0 c.in-Some.is c.index.result.now c.index.ensures)
    (tails_in c.args.change.now.old.now c.args.change.now.new.now c.args.change.now.run.now are.old_form are.form are.revision are.run c.wires_agree.ensures.sleepers c.args.now c.args.id.0 c.args.port c.args.output c.args.self.now next c.in-Some.wire.0 c.in-Some.is wide (told_kind c.args.change.now.old.now c.args.change.now.new.now c.args.change.now.run.now are.old_form are.form are.revision are.run c.wires_agree.ensures.sleepers c.args.now c.args.id.0 c.args.port c.args.output c.args.self.now next c.in-Some.wire.0 c.in-Some.is wide c.index-2.ensures))

pub overflow_add-now : goal.overflow_add-now
overflow_add-now c = let most = horizon_within c.args.change.now.new.now c.requires.change.form in let below = c.requires.below in omega (arith, most, below)

pub overflow_add-known : goal.overflow_add-known
overflow_add-known c = let most = horizon_within c.args.change.now.new.now c.requires.change.form in let below = c.requires.below in omega (arith, most, below)

pub overflow_add-known-2 : goal.overflow_add-known-2
overflow_add-known-2 c =
    let are = c.requires.change in
    let next = c.requires.next in
    let most = horizon_within c.args.change.now.new.now are.form in
    let below = c.requires.below in
    let brief = (short c.args.change.now.old.now c.args.change.now.new.now c.args.change.now.run.now are.old_form are.form are.revision are.run c.wires_agree.ensures.sleepers c.args.now c.args.id.0 c.args.port c.args.output c.args.self.now next c.in-Some.wire.0 c.in-Some.is).1 in
    omega (arith, most, below, brief)

pub overflow_sub-own : goal.overflow_sub-own
overflow_sub-own c = let first = c.max-own.ensures in omega (arith, first)

pub put_near_changes-requires-clause-later : goal.put_near_changes-requires-clause-later
put_near_changes-requires-clause-later c = let first = c.max-own.ensures in omega (arith, first)

pub put_near_changes-requires-clause-within : goal.put_near_changes-requires-clause-within
put_near_changes-requires-clause-within c =
    let are = c.requires.change in
    let next = c.requires.next in
    let s = c.args.self.now in
    let wide = c.index-2.result.now in
    let fits = has_room c.args.change.now.old.now c.args.change.now.new.now c.args.change.now.run.now are.old_form are.form are.revision are.run c.wires_agree.ensures.sleepers c.args.now c.args.id.0 c.args.port c.args.output c.args.self.now next c.in-Some.wire.0 c.in-Some.is wide in
    let same = room_kept wide wide (entries_of c.in-Some.wire.0 c.args.now (tail_of c.in-Some.wire.0 (left_of s.pending_outputs))) s.simulation c.take_tail_back.new.self.simulation c.in_ok-take_tail_back.ensures.put in
    let low = until_low c.args.change.now.old.now c.args.change.now.new.now c.args.change.now.run.now are.old_form are.form are.revision are.run c.wires_agree.ensures.sleepers c.args.now c.args.id.0 c.args.port c.args.output c.args.self.now next c.in-Some.wire.0 c.in-Some.is in
    let until = told_until c.args.change.now.old.now c.args.change.now.new.now c.args.change.now.run.now are.old_form are.form are.revision are.run c.wires_agree.ensures.sleepers c.args.now c.args.id.0 c.args.port c.args.output c.args.self.now next c.in-Some.wire.0 c.in-Some.is c.index.result.now c.index.ensures in
    let first = c.max-own.ensures in
    let least = c.min.ensures in
    let kept = c.max-kept.ensures in
    omega (arith, fits, same, low, until, first, least, kept)

pub put_last_changes-requires-clause-last : goal.put_last_changes-requires-clause-last
put_last_changes-requires-clause-last c =
    let are = c.requires.change in
    let next = c.requires.next in
    let low = until_low c.args.change.now.old.now c.args.change.now.new.now c.args.change.now.run.now are.old_form are.form are.revision are.run c.wires_agree.ensures.sleepers c.args.now c.args.id.0 c.args.port c.args.output c.args.self.now next c.in-Some.wire.0 c.in-Some.is in
    let until = told_until c.args.change.now.old.now c.args.change.now.new.now c.args.change.now.run.now are.old_form are.form are.revision are.run c.wires_agree.ensures.sleepers c.args.now c.args.id.0 c.args.port c.args.output c.args.self.now next c.in-Some.wire.0 c.in-Some.is c.index.result.now c.index.ensures in
    let first = c.max-own.ensures in
    let least = c.min.ensures in
    let kept = c.max-kept.ensures in
    let end = c.horizon.ensures in
    let some = c.if-kept-known.true in
    omega (arith, low, until, first, least, kept, end, some)

pub put_last_changes-requires-clause-can : goal.put_last_changes-requires-clause-can
put_last_changes-requires-clause-can c =
    let are = c.requires.change in
    let next = c.requires.next in
    let s = c.args.self.now in
    let w = c.in-Some.wire.0 in
    let wide = c.index-2.result.now in
    let sim2 : NetlistSimulation = c.put_near_changes.new.simulation in
    let s1 : Rerun = c.take_tail_back.new.self in
    let until = told_until c.args.change.now.old.now c.args.change.now.new.now c.args.change.now.run.now are.old_form are.form are.revision are.run c.wires_agree.ensures.sleepers c.args.now c.args.id.0 c.args.port c.args.output c.args.self.now next c.in-Some.wire.0 c.in-Some.is c.index.result.now c.index.ensures in
    let first = c.max-own.ensures in
    let kept = c.max-kept.ensures in
    let some = c.if-kept-known.true in (
      next.part,
      w,
      can_put_last c.args.change.now.old.now c.args.change.now.new.now c.args.change.now.run.now are.old_form are.form are.revision are.run c.wires_agree.ensures.sleepers c.args.now c.args.id.0 c.args.port c.args.output c.args.self.now next c.in-Some.wire.0 c.in-Some.is c.max-kept.result (omega (arith, until, first, kept)) (omega (arith, some)) sim2 s1.pending_outputs
          (record s1 { simulation = sim2 }) (ap (λ (x : Rerun). (let y : Rerun = record x { simulation = sim2 } in y)) c.in_ok-take_tail_back.ensures.kept)
          (λ kind.
          room_kept kind wide _ s1.simulation sim2 c.in_ok-put_near_changes.ensures
          ∙ room_kept kind wide (entries_of w c.args.now (tail_of w (left_of s.pending_outputs))) s.simulation s1.simulation c.in_ok-take_tail_back.ensures.put),
    )

pub returns-in_ok-put_last_changes : goal.returns-in_ok-put_last_changes
returns-in_ok-put_last_changes c = λ next.
    let are = c.requires.change in
    let s = c.args.self.now in
    let w = c.in-Some.wire.0 in
    let wide = c.index-2.result.now in
    let sim2 : NetlistSimulation = c.put_near_changes.new.simulation in
    let s1 : Rerun = c.take_tail_back.new.self in
    let low = until_low c.args.change.now.old.now c.args.change.now.new.now c.args.change.now.run.now are.old_form are.form are.revision are.run c.wires_agree.ensures.sleepers c.args.now c.args.id.0 c.args.port c.args.output c.args.self.now next c.in-Some.wire.0 c.in-Some.is in
    let until = told_until c.args.change.now.old.now c.args.change.now.new.now c.args.change.now.run.now are.old_form are.form are.revision are.run c.wires_agree.ensures.sleepers c.args.now c.args.id.0 c.args.port c.args.output c.args.self.now next c.in-Some.wire.0 c.in-Some.is c.index.result.now c.index.ensures in
    let first = c.max-own.ensures in
    let least = c.min.ensures in
    let kept = c.max-kept.ensures in
    let end = c.horizon.ensures in
    let some = c.if-kept-known.true in
    three_back c.args.change.now.old.now c.args.change.now.new.now c.args.change.now.run.now are.old_form are.form are.revision are.run c.wires_agree.ensures.sleepers c.args.now c.args.id.0 c.args.port c.args.output c.args.self.now next c.in-Some.wire.0 c.in-Some.is wide (told_kind c.args.change.now.old.now c.args.change.now.new.now c.args.change.now.run.now are.old_form are.form are.revision are.run c.wires_agree.ensures.sleepers c.args.now c.args.id.0 c.args.port c.args.output c.args.self.now next c.in-Some.wire.0 c.in-Some.is wide c.index-2.ensures) c.in-Some-wave.wave.now c.in-Some-wave.ensures c.max-own.result c.max-kept.result
    (first ∙ ap (λ u. max u (c.args.now + 1)) (sym until)) (omega (arith, kept)) (omega (arith, low, until, first, least, kept)) (λ more. omega (arith, more, least, kept, end))
    s1.simulation sim2 c.in_ok-take_tail_back.ensures.put c.in_ok-put_near_changes.ensures s1.pending_outputs c.in_ok-take_tail_back.ensures.left
    (record s1 { simulation = sim2 }) (ap (λ (x : Rerun). (let y : Rerun = record x { simulation = sim2 } in y)) c.in_ok-take_tail_back.ensures.kept)
    c.put_last_changes.new.self (subst (λ d. HasPutSpan c.args.change.now.new.now w c.args.now (c.max-kept.result - 1) (c.args.now + 1 + d) (record s1 { simulation = sim2 }) c.put_last_changes.new.self) (delay_is c.args.change.now.old.now c.args.change.now.new.now c.args.change.now.run.now are.old_form are.form are.revision are.run c.wires_agree.ensures.sleepers c.args.now c.args.id.0 c.args.port c.args.output c.args.self.now next c.in-Some.wire.0 c.in-Some.is)
    (c.in_ok-put_last_changes.ensures next.part w (can_put_last c.args.change.now.old.now c.args.change.now.new.now c.args.change.now.run.now are.old_form are.form are.revision are.run c.wires_agree.ensures.sleepers c.args.now c.args.id.0 c.args.port c.args.output c.args.self.now next c.in-Some.wire.0 c.in-Some.is c.max-kept.result (omega (arith, until, first, kept)) (omega (arith, some)) sim2 s1.pending_outputs
    (record s1 { simulation = sim2 }) (ap (λ (x : Rerun). (let y : Rerun = record x { simulation = sim2 } in y)) c.in_ok-take_tail_back.ensures.kept)
    (λ kind.
    room_kept kind wide _ s1.simulation sim2 c.in_ok-put_near_changes.ensures
    ∙ room_kept kind wide (entries_of w c.args.now (tail_of w (left_of s.pending_outputs))) s.simulation s1.simulation c.in_ok-take_tail_back.ensures.put))))

pub returns-else-kept-known : goal.returns-else-kept-known
returns-else-kept-known c = λ next.
    let are = c.requires.change in
    let s = c.args.self.now in
    let w = c.in-Some.wire.0 in
    let wide = c.index-2.result.now in
    let sim2 : NetlistSimulation = c.put_near_changes.new.simulation in
    let s1 : Rerun = c.take_tail_back.new.self in
    let low = until_low c.args.change.now.old.now c.args.change.now.new.now c.args.change.now.run.now are.old_form are.form are.revision are.run c.wires_agree.ensures.sleepers c.args.now c.args.id.0 c.args.port c.args.output c.args.self.now next c.in-Some.wire.0 c.in-Some.is in
    let until = told_until c.args.change.now.old.now c.args.change.now.new.now c.args.change.now.run.now are.old_form are.form are.revision are.run c.wires_agree.ensures.sleepers c.args.now c.args.id.0 c.args.port c.args.output c.args.self.now next c.in-Some.wire.0 c.in-Some.is c.index.result.now c.index.ensures in
    let first = c.max-own.ensures in
    let least = c.min.ensures in
    let kept = c.max-kept.ensures in
    let end = c.horizon.ensures in
    let none = c.if-kept-known.false in
    two_back c.args.change.now.old.now c.args.change.now.new.now c.args.change.now.run.now are.old_form are.form are.revision are.run c.wires_agree.ensures.sleepers c.args.now c.args.id.0 c.args.port c.args.output c.args.self.now next c.in-Some.wire.0 c.in-Some.is wide (told_kind c.args.change.now.old.now c.args.change.now.new.now c.args.change.now.run.now are.old_form are.form are.revision are.run c.wires_agree.ensures.sleepers c.args.now c.args.id.0 c.args.port c.args.output c.args.self.now next c.in-Some.wire.0 c.in-Some.is wide c.index-2.ensures) c.in-Some-wave.wave.now c.in-Some-wave.ensures c.max-own.result c.max-kept.result
    (first ∙ ap (λ u. max u (c.args.now + 1)) (sym until)) (omega (arith, kept)) (omega (arith, low, until, first, least, kept)) (λ more. omega (arith, more, least, kept, end))
    s1.simulation sim2 c.in_ok-take_tail_back.ensures.put c.in_ok-put_near_changes.ensures s1.pending_outputs c.in_ok-take_tail_back.ensures.left
    (record s1 { simulation = sim2 }) (ap (λ (x : Rerun). (let y : Rerun = record x { simulation = sim2 } in y)) c.in_ok-take_tail_back.ensures.kept)
    (omega (arith, low, until, first, least, kept, none))
