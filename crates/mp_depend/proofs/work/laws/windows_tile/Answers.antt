use Rattle.mp_depend.proofs.lemmas.work.WindowLemmas.{window_cover, windows_apart}
use Rattle.mp_depend.proofs.work.laws.windows_tile.Goals as goal

pub returns : goal.returns
returns c = record { cover = window_cover; apart = windows_apart }
