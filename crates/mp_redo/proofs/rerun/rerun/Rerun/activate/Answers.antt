use Rattle.std.proofs.Common.{◌≡◌, ◌-◌, false, List, [], ◌∷◌, ap, ◌∙◌, arith}
use Rattle.std.specs.Prelude.{◌++◌}
use Rattle.mp_records.specs.declared.ids.ModuleId.{ModuleId}
use Rattle.mp_model.proofs.BuiltLemmas.{width_of_module}
use Rattle.mp_model.proofs.SlotLemmas.{slot_within}
use Rattle.mp_redo.specs.declared.rerun.rerun.Rerun.{Rerun}
use Rattle.mp_redo.specs.rerun.Reruns.{active_of, on_of}
use Rattle.mp_redo.specs.rerun.Returning.{ArePortsLit}
use Rattle.mp_redo.proofs.lemmas.rerun.SeatLemmas.{has_places, can_return}
use Rattle.mp_redo.proofs.lemmas.rerun.ReturnLemmas.{returned}
use Rattle.mp_redo.proofs.lemmas.rerun.WakingLemmas.{memory_is, has_woken, joined_before}
use Rattle.mp_redo.proofs.rerun.rerun.Rerun.activate.Goals as goal

pub built-part-requires-clause-width : goal.built-part-requires-clause-width
built-part-requires-clause-width c =
    let ok = c.requires.change.form in
    width_of_module c.args.change.now.new.now ok c.args.found.now (ok.modules_ok c.args.id.0 c.args.found.now c.requires.stands)

pub built-part-requires-clause-params : goal.built-part-requires-clause-params
built-part-requires-clause-params c = (c.requires.change.form.modules_ok c.args.id.0 c.args.found.now c.requires.stands).params

pub turn_ports_on-requires-clause-below : goal.turn_ports_on-requires-clause-below
turn_ports_on-requires-clause-below c = let some = c.requires.some in let below = c.requires.below in omega (arith, some, below)

pub seat-requires-clause-places : goal.seat-requires-clause-places
seat-requires-clause-places c =
    let at = c.in_ok-turn_ports_on.ensures.is c.requires.is.0 c.requires.is.1 in
    has_places c.args.change.now.old.now c.args.change.now.new.now c.args.change.now.run.now at.numbering at.since (c.args.time - 1) c.args.id.0 c.turn_ports_on.new.self c.requires.change.form at.is
    (slot_within c.args.change.now.new.now.modules c.args.id.0 c.args.found.now c.requires.stands)

pub put_outputs-requires-clause-below : goal.put_outputs-requires-clause-below
put_outputs-requires-clause-below c = let some = c.requires.some in let below = c.requires.below in omega (arith, some, below)

pub put_outputs-requires-clause-can : goal.put_outputs-requires-clause-can
put_outputs-requires-clause-can c =
    let at = c.in_ok-turn_ports_on.ensures.is c.requires.is.0 c.requires.is.1 in
    let asleep : active_of c.turn_ports_on.new.self c.args.id.0 ≡ false = ap (λ (x : Rerun). active_of x c.args.id.0) c.in_ok-turn_ports_on.ensures.turned.kept ∙ c.requires.asleep in (
      at.numbering,
      at.since,
      can_return c.args.change.now.old.now c.args.change.now.new.now c.args.change.now.run.now c.requires.change.form at.numbering at.since (c.args.time - 1) c.args.id.0 c.args.found.now c.args.state.now.memory
          c.turn_ports_on.new.self c.seat.new.self at.is c.requires.stands asleep c.in_ok-seat.ensures,
    )

pub tell_awake-requires-clause-below : goal.tell_awake-requires-clause-below
tell_awake-requires-clause-below c = let some = c.requires.some in let below = c.requires.below in omega (arith, some, below)

pub tell_awake-requires-clause-returned : goal.tell_awake-requires-clause-returned
tell_awake-requires-clause-returned c =
    let was = c.requires.is.1 in
    let at = c.in_ok-turn_ports_on.ensures.is c.requires.is.0 c.requires.is.1 in
    let are = c.requires.change in
    let asleep : active_of c.turn_ports_on.new.self c.args.id.0 ≡ false = ap (λ (x : Rerun). active_of x c.args.id.0) c.in_ok-turn_ports_on.ensures.turned.kept ∙ c.requires.asleep in
    let lit : ArePortsLit c.args.change.now.new.now c.args.id.0 (on_of c.turn_ports_on.new.self) = record { read = c.in_ok-turn_ports_on.ensures.read; driven = c.in_ok-turn_ports_on.ensures.driven } in
    let stays = c.requires.state
    ∙ memory_is c.args.change.now.old.now c.args.change.now.new.now c.args.change.now.run.now was.numbering was.since c.args.time c.args.id.0 c.args.found.now c.args.self.now c.requires.some was.is.followed c.requires.stands c.requires.asleep
    c.sleepers_agree.ensures.agree are.old_form are.form are.revision in
    let can = can_return c.args.change.now.old.now c.args.change.now.new.now c.args.change.now.run.now are.form at.numbering at.since (c.args.time - 1) c.args.id.0 c.args.found.now c.args.state.now.memory
    c.turn_ports_on.new.self c.seat.new.self at.is c.requires.stands asleep c.in_ok-seat.ensures in (
      at.numbering,
      at.since,
      returned c.args.change.now.old.now c.args.change.now.new.now c.args.change.now.run.now are.form at.numbering at.since (c.args.time - 1) c.args.id.0 c.args.found.now c.args.state.now.memory
          c.turn_ports_on.new.self c.seat.new.self c.put_outputs.new.self at.is lit c.requires.stands asleep stays c.in_ok-seat.ensures (c.in_ok-put_outputs.ensures at.numbering at.since can),
    )

pub returns-clause-is : goal.returns-clause-is
returns-clause-is c = λ latest before.
    let was = c.requires.is.1 in
    let at = c.in_ok-turn_ports_on.ensures.is latest before in
    let are = c.requires.change in
    let asleep : active_of c.turn_ports_on.new.self c.args.id.0 ≡ false = ap (λ (x : Rerun). active_of x c.args.id.0) c.in_ok-turn_ports_on.ensures.turned.kept ∙ c.requires.asleep in
    let lit : ArePortsLit c.args.change.now.new.now c.args.id.0 (on_of c.turn_ports_on.new.self) = record { read = c.in_ok-turn_ports_on.ensures.read; driven = c.in_ok-turn_ports_on.ensures.driven } in
    let stays = c.requires.state
    ∙ memory_is c.args.change.now.old.now c.args.change.now.new.now c.args.change.now.run.now was.numbering was.since c.args.time c.args.id.0 c.args.found.now c.args.self.now c.requires.some was.is.followed c.requires.stands c.requires.asleep
    c.sleepers_agree.ensures.agree are.old_form are.form are.revision in
    let can = can_return c.args.change.now.old.now c.args.change.now.new.now c.args.change.now.run.now are.form at.numbering at.since (c.args.time - 1) c.args.id.0 c.args.found.now c.args.state.now.memory
    c.turn_ports_on.new.self c.seat.new.self at.is c.requires.stands asleep c.in_ok-seat.ensures in
    record {
      numbering = at.numbering;
      since = at.since;
      is = c.in_ok-tell_awake.ensures.is at.numbering at.since
          (returned c.args.change.now.old.now c.args.change.now.new.now c.args.change.now.run.now are.form at.numbering at.since (c.args.time - 1) c.args.id.0 c.args.found.now c.args.state.now.memory
          c.turn_ports_on.new.self c.seat.new.self c.put_outputs.new.self at.is lit c.requires.stands asleep stays c.in_ok-seat.ensures (c.in_ok-put_outputs.ensures at.numbering at.since can));
      early = at.early;
    }

pub returns-clause-woken : goal.returns-clause-woken
returns-clause-woken c =
    let at = c.in_ok-turn_ports_on.ensures.is c.requires.is.0 c.requires.is.1 in
    let asleep : active_of c.turn_ports_on.new.self c.args.id.0 ≡ false = ap (λ (x : Rerun). active_of x c.args.id.0) c.in_ok-turn_ports_on.ensures.turned.kept ∙ c.requires.asleep in
    let can = can_return c.args.change.now.old.now c.args.change.now.new.now c.args.change.now.run.now c.requires.change.form at.numbering at.since (c.args.time - 1) c.args.id.0 c.args.found.now c.args.state.now.memory
    c.turn_ports_on.new.self c.seat.new.self at.is c.requires.stands asleep c.in_ok-seat.ensures in
    has_woken c.args.change.now.new.now c.args.found.now c.args.state.now.memory c.args.id.0 at.numbering (c.args.time - 1) _ c.args.self.now c.turn_ports_on.new.self c.seat.new.self c.put_outputs.new.self c.tell_awake.new.self
    c.in_ok-turn_ports_on.ensures.turned c.in_ok-seat.ensures (c.in_ok-put_outputs.ensures at.numbering at.since can) c.in_ok-tell_awake.ensures.told

pub returns-clause-joined : goal.returns-clause-joined
returns-clause-joined c =
    let at = c.in_ok-turn_ports_on.ensures.is c.requires.is.0 c.requires.is.1 in
    let asleep : active_of c.turn_ports_on.new.self c.args.id.0 ≡ false = ap (λ (x : Rerun). active_of x c.args.id.0) c.in_ok-turn_ports_on.ensures.turned.kept ∙ c.requires.asleep in
    let can = can_return c.args.change.now.old.now c.args.change.now.new.now c.args.change.now.run.now c.requires.change.form at.numbering at.since (c.args.time - 1) c.args.id.0 c.args.found.now c.args.state.now.memory
    c.turn_ports_on.new.self c.seat.new.self at.is c.requires.stands asleep c.in_ok-seat.ensures in
    c.in_ok-tell_awake.ensures.joined
    ∙ ap (λ (xs : List ModuleId). xs ++ c.args.id ∷ []) (joined_before c.args.change.now.new.now c.args.found.now c.args.state.now.memory c.args.id.0 at.numbering (c.args.time - 1) _ c.args.self.now c.turn_ports_on.new.self c.seat.new.self c.put_outputs.new.self
    c.tell_awake.new.self c.in_ok-turn_ports_on.ensures.turned c.in_ok-seat.ensures (c.in_ok-put_outputs.ensures at.numbering at.since can) c.in_ok-tell_awake.ensures.told)
