use Rattle.std.proofs.Common.{length, sym, ap, ◌∙◌}
use Rattle.mp_kernel.proofs.lemmas.events.WaveTableLemmas.{length_by}
use Rattle.mp_kernel.proofs.events.wave_table.WaveTable.len.Goals as goal

pub returns : goal.returns
returns c = c.len.ensures ∙ c.self.inside.waves.ok.0 ∙ sym (length_by c.self.inside.late.items c.self.inside.waves.items) ∙ ap length c.self.view_is
