use Rattle.std.proofs.Common.{◌≡◌, ◌∙◌, ℕ, List, All, length, sym, ap, subst}
use Rattle.std.proofs.lemmas.Bool.{eqb-true}
use Rattle.mp_kernel.specs.events.Firing.{scheduled}
use Rattle.mp_kernel.specs.declared.datapath.level_change.LevelChange.{LevelChange}
use Rattle.mp_kernel.specs.datapath.DataModules.{CanFire}
use Rattle.mp_kernel.specs.datapath.LevelWheels.{scheduled as levels_scheduled}
use Rattle.mp_kernel.proofs.lemmas.datapath.FiringLemmas.{can_fire, stepped_next, wheel_next, changes_next}
use Rattle.mp_kernel.proofs.lemmas.datapath.NoDataLemmas.{no_events, no_changes}
use Rattle.mp_kernel.proofs.datapath.firing.fire_data_modules.Goals as goal

pub returns-then-is_empty-clause-events : goal.returns-then-is_empty-clause-events
returns-then-is_empty-clause-events c =
    let v = c.args.modules.now in
    let modules = v.items in
    let none : length modules ≡ 0 = sym v.ok.0 ∙ eqb-true v.len 0 (sym c.if-is_empty.ensures) in
    ap (λ (xs : List (ℕ × ℕ)). scheduled c.args.events.now xs) (sym (no_events c.args.levels.now c.args.places.now modules c.requires.placed none c.args.due.now))

pub returns-then-is_empty-clause-changes : goal.returns-then-is_empty-clause-changes
returns-then-is_empty-clause-changes c =
    let v = c.args.modules.now in
    let modules = v.items in
    let none : length modules ≡ 0 = sym v.ok.0 ∙ eqb-true v.len 0 (sym c.if-is_empty.ensures) in
    ap (λ (xs : List (ℕ × LevelChange)). levels_scheduled c.args.changes.now xs) (sym (no_changes c.args.levels.now c.args.places.now modules c.requires.placed none c.args.due.now))

pub fire_number-requires-clause-fit : goal.fire_number-requires-clause-fit
fire_number-requires-clause-fit c =
    let v = c.loop-place.invariant in
    let numbers = length c.args.levels.now in
    subst (λ k. All (CanFire numbers (length c.loop-place.events) k) c.loop-place.modules.items) (sym v.slots)
    (subst (λ k. All (CanFire numbers k (length c.args.changes.now)) c.loop-place.modules.items) (sym v.units)
    (can_fire c.args.levels.now c.args.places.now c.args.modules.now.items c.loop-place.modules.items c.args.due.now c.loop-place.place-index c.loop-place-test.true c.requires.once
    c.requires.placed v.modules numbers (length c.args.events.now) (length c.args.changes.now) c.requires.fit))

pub loop-place-preserved : goal.loop-place-preserved
loop-place-preserved c =
    let v = c.loop-place.invariant in
    let e = c.in_ok-fire_number.ensures in
    let levels = c.args.levels.now in
    let places = c.args.places.now in
    let first = c.args.modules.now.items in
    let now = c.loop-place.modules.items in
    let due = c.args.due.now in
    let i = c.loop-place.place-index in
    let within = c.loop-place-test.true in
    let once = c.requires.once in
    let placed = c.requires.placed in
    record {
      modules = stepped_next levels places first now due i within once placed v.modules c.fire_number.new.modules.items e.modules;
      events = wheel_next levels places first now due i within once placed v.modules c.args.events.now c.loop-place.events c.fire_number.new.events v.events e.events;
      changes = changes_next levels places first now due i within once placed v.modules c.args.changes.now c.loop-place.changes c.fire_number.new.changes v.changes e.changes;
      units = e.units ∙ v.units;
      slots = e.slots ∙ v.slots;
    }
