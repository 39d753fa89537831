use Rattle.std.proofs.Common.{ℕ, List, [], ◌∷◌, ap, sym, arith}
use Rattle.mp_wave.specs.Building.{Building}
use Rattle.mp_wave.proofs.WaveformLemmas.{AreChanges-append, last_from-append, last_time-append}
use Rattle.mp_wave.proofs.wave_builder.WaveBuilder.push_level.Goals as goal

pub invariant_of-self-2 : goal.invariant_of-self-2
invariant_of-self-2 c =
    let kept = c.self.invariant in
    let initial = c.self.inside.wave.initial in
    let before = c.self.inside.wave.changes in
    let change : List (ℕ × ℕ) = (c.args.time, c.args.level) ∷ [] in
    let next_is = ap (λ (b : Building). b.next) c.self.view_is in
    rw c.in_ok-push_change.ensures.ok (
      record {
        form = AreChanges-append 0 initial before change kept.0.form (omega (arith, kept.0.over, next_is, c.requires.later), omega arith, tt);
        over = rw last_time-append (omega arith);
      },
      sym (last_from-append initial before change),
    )
