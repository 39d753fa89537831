use Rattle.std.proofs.Common.{[], refl, ap, ◌∙◌}
use Rattle.std.specs.Prelude.{slice_set}
use Rattle.mp_kernel.specs.events.WaveTables.{waves_by}
use Rattle.mp_kernel.proofs.lemmas.events.WaveTableLemmas.{none_wait}
use Rattle.mp_kernel.proofs.events.wave_table.WaveTable.set.Goals as goal

pub returns : goal.returns
returns c =
    let waves = slice_set c.settle.new.waves.items c.args.wire c.args.wave in
    ap (λ l. waves_by l waves) c.in_ok-settle.ensures.none
    ∙ none_wait [] waves (λ k. refl)
    ∙ ap (λ l. slice_set l c.args.wire c.args.wave) (c.in_ok-settle.ensures.settled ∙ c.self.view_is)
