use Rattle.std.proofs.Common.{sym, ◌∙◌}
use Rattle.mp_wave.proofs.PrefixLemmas.{AreChanges-earlier_than, last_time-earlier_than, last_from-earlier_than}
use Rattle.mp_wave.proofs.wave_builder.WaveBuilder.from_prefix.Goals as goal

pub invariant_of-result : goal.invariant_of-result
invariant_of-result c =
    let wave = c.args.wave.now in
    let form = c.level_at-level.ensures.form in
    rw c.in_ok-prefix.ensures (
      record {
        form = AreChanges-earlier_than c.args.upto 0 wave.initial wave.changes form;
        over = last_time-earlier_than c.args.upto 0 wave.initial wave.changes c.requires form;
      },
      c.level_at-level.ensures.value ∙ sym (last_from-earlier_than c.args.upto 0 wave.initial wave.changes c.requires form),
    )
