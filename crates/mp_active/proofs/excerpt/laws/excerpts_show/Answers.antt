use Rattle.mp_active.proofs.lemmas.excerpt.LevelLemmas.{excerpt_level, excerpt_state, excerpt_decided, excerpt_off}
use Rattle.mp_active.proofs.excerpt.laws.excerpts_show.Goals as goal

pub returns : goal.returns
returns c = record { levels = excerpt_level; states = excerpt_state; decided = excerpt_decided; off = excerpt_off }
