use Rattle.std.proofs.Common.{◌≤◌, ◌-◌, [], true, sym, subst, arith}
use Rattle.mp_partition.specs.runs.Marks.{is_marked}
use Rattle.mp_engine.proofs.lemmas.region_runs.RegionRunLemmas.{can_less}
use Rattle.mp_engine.specs.ActivityProbes.{IsLookedAt}
use Rattle.mp_engine.proofs.quiet.look_at.Goals as goal

pub next-requires : goal.next-requires
next-requires g c = let within = c.loop-look.invariant.within in let same = c.horizon-horizon.ensures.value in omega (arith, within, same)

pub run_units-requires-clause-later : goal.run_units-requires-clause-later
run_units-requires-clause-later g c = c.loop-look.invariant.some

pub run_units-requires-clause-before : goal.run_units-requires-clause-before
run_units-requires-clause-before g c =
    let r = c.args.region.now in
    let within = c.in-Some.ensures.within in
    let same = c.horizon-horizon.ensures.value in
    let low : c.in-Some.to ≤ r.horizon = omega (arith, within, same) in
    can_less r (c.loop-look.looks.to - 1) c.in-Some.to r.horizon c.loop-look.run low (record { keeps = true; is_heard = is_marked []; is = c.loop-look.invariant.over })

pub loop-look-preserved : goal.loop-look-preserved
loop-look-preserved g c =
    let r = c.args.region.now in
    let seen = c.loop-look.invariant in
    let within = c.in-Some.ensures.within in
    let same = c.horizon-horizon.ensures.value in
    let later = c.in-Some.ensures.later in
    let some = seen.some in
    let low : c.in-Some.to ≤ r.horizon = omega (arith, within, same) in
    subst (λ k. IsLookedAt r k c.run_units.new.self) (sym c.add.ensures) (record {
      some = omega (arith, some, later);
      within = low;
      over = c.in_ok-fired.ensures true (is_marked []) r.horizon low seen.over;
    })
