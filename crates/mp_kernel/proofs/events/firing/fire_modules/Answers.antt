use Rattle.std.proofs.Common.{◌<◌, length, sym, ◌∙◌, arith, subst}
use Rattle.std.specs.Prelude.{slice_index_or}
use Rattle.mp_kernel.proofs.lemmas.events.FiringLemmas.{not_yet, coded, fired_next_states, flips_next, fired_next, others_next}
use Rattle.mp_kernel.proofs.events.firing.fire_modules.Goals as goal

pub loop-place-preserved : goal.loop-place-preserved
loop-place-preserved c =
    let due = c.args.due.now in
    let i = c.loop-place.place in
    let most = c.batch_of_modules-to.ensures.within in
    let here = c.loop-place-test.true in
    let within : i < length due = omega arith in
    let once = c.requires.once in
    let v = c.loop-place.invariant in
    let e = c.in_ok-fire_module.ensures in
    let low : slice_index_or due i 0 < length c.args.states.now.items = c.requires.states i 0 within in
    let same = v.placed in
    let placed : slice_index_or due i 0 < length c.loop-place.states.items = omega arith in
    let states = c.args.states.now.items in
    let now = c.loop-place.states.items in
    let new = c.fire_module.new.states.items in
    let leveled = v.leveled in
    let long = c.requires.levels in
    let seated : slice_index_or due i 0 < length c.loop-place.levels.items = omega arith in
    record {
      states = λ state_of is. fired_next_states due i within once states now new state_of (v.states state_of is) placed
          (e.states (state_of (slice_index_or due i 0)) (coded due i within once states now state_of v.others low is)) e.others;
      wheel = λ state_of is. fired_next due i within once state_of c.args.ports.now c.args.wheel.now c.loop-place.wheel c.fire_module.new.wheel (v.wheel state_of is)
          (e.wheel (state_of (slice_index_or due i 0)) (coded due i within once states now state_of v.others low is));
      levels = λ state_of is. flips_next due i within once c.args.levels.now.items c.loop-place.levels.items c.fire_module.new.levels.items state_of (v.levels state_of is) seated
          (e.levels (state_of (slice_index_or due i 0)) (coded due i within once states now state_of v.others low is));
      others = others_next due i within once states now new v.others e.others;
      placed = e.others.placed ∙ v.placed;
      leveled = e.kept ∙ v.leveled;
      units = e.places ∙ v.units;
    }

pub fire_module-requires-clause-levels : goal.fire_module-requires-clause-levels
fire_module-requires-clause-levels c =
    let most = c.batch_of_modules-to.ensures.within in
    let here = c.loop-place-test.true in
    let within : c.loop-place.place < length c.args.due.now = omega arith in
    let low : slice_index_or c.args.due.now c.loop-place.place 0 < length c.args.states.now.items = c.requires.states c.loop-place.place 0 within in
    let long = c.requires.levels in
    let leveled = c.loop-place.invariant.leveled in
    omega arith

pub fire_module-requires-clause-low : goal.fire_module-requires-clause-low
fire_module-requires-clause-low c =
    let most = c.batch_of_modules-to.ensures.within in
    let here = c.loop-place-test.true in
    let within : c.loop-place.place < length c.args.due.now = omega arith in
    let w = slice_index_or c.args.due.now c.loop-place.place 0 in
    let none = not_yet c.args.due.now c.loop-place.place within c.requires.once in
    subst (λ k. k < 2112) (sym (c.loop-place.invariant.others w none)) (c.requires.low w)
