use Rattle.std.proofs.Common.{ℕ, ◌<◌, All, subst, arith}
use Rattle.std.proofs.lemmas.List.{take_all}
use Rattle.std.proofs.lemmas.List.Elements.{All-more}
use Rattle.mp_partition.proofs.regions.division.are_below.Goals as goal

pub loop-home-preserved : goal.loop-home-preserved
loop-home-preserved c =
    let homes = c.args.homes.now in
    let i = c.loop-home.home-index in
    All-more (λ (home : ℕ). home < c.args.parts) homes i 0 c.loop-home-test.true c.loop-home.invariant (let not = c.if-home-parts.false in omega (arith, not))

pub returns : goal.returns
returns c = λ _. subst (All (λ (home : ℕ). home < c.args.parts)) (take_all c.loop-home.home-index c.args.homes.now (omega arith)) c.loop-home.invariant
