use Rattle.mp_near.proofs.redoing.redo_region.Goals as goal

pub run_after-after-requires : goal.run_after-after-requires
run_after-after-requires g c = record { known = c.requires.change; region = c.requires.region; run = c.in_ok-found.ensures.run }
