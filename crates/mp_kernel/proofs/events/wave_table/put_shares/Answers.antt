use Rattle.std.proofs.Common.{◌≡◌, ℕ, ◌<◌, [], length, arith, subst}
use Rattle.std.proofs.lemmas.List.{get_or_default}
use Rattle.mp_kernel.specs.events.Toggling.{wave_at}
use Rattle.mp_kernel.specs.events.WaveTables.{AreLate, late_times, whole_wave}
use Rattle.mp_kernel.proofs.lemmas.events.WaveTableLemmas.{ArePutBefore, late_at, share_put, all_put}
use Rattle.mp_kernel.proofs.events.wave_table.put_shares.Goals as goal

pub put_into-requires : goal.put_into-requires
put_into-requires c =
    let share = c.loop-share.share in
    let within : share < length c.loop-share.late = let long = c.loop-share.invariant.count in let test = c.loop-share-test.true in omega arith in (
      share,
      subst (λ l. AreLate c.loop-share.waves.items share l) (get_or_default c.loop-share.late share [] c.index-late-share.result within)
          (late_at c.args.late.now c.loop-share.late c.args.waves.now.items c.loop-share.waves.items share c.requires c.loop-share.invariant),
    )

pub loop-share-preserved : goal.loop-share-preserved
loop-share-preserved c =
    let share = c.loop-share.share in
    let within : share < length c.loop-share.late = let long = c.loop-share.invariant.count in let test = c.loop-share-test.true in omega arith in
    let same = get_or_default c.loop-share.late share c.index-late-share.result [] within in
    share_put c.args.late.now c.loop-share.late c.args.waves.now.items c.loop-share.waves.items c.put_into.new.waves.items share c.put_into.new.self c.requires c.loop-share.invariant
    c.loop-share-test.true c.put_into.ensures.places
    (subst (λ l. (v : ℕ) → late_times v l ≡ [] → wave_at c.put_into.new.waves.items v ≡ wave_at c.loop-share.waves.items v) same c.put_into.ensures.others)
    (subst (λ l. (v : ℕ) → wave_at c.put_into.new.waves.items v ≡ whole_wave c.loop-share.waves.items l v) same c.in_ok-put_into.ensures.put)

pub returns : goal.returns
returns c =
    let least = c.loop-share-test.false in
    let most = c.loop-share.auto.share-end in
    let all : c.loop-share.share ≡ length c.args.late.now = omega arith in
    all_put c.args.late.now c.loop-share.late c.args.waves.now.items c.loop-share.waves.items
    (subst (λ k. ArePutBefore c.args.late.now c.loop-share.late c.args.waves.now.items c.loop-share.waves.items k) all c.loop-share.invariant)
