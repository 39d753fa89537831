use Rattle.mp_check.proofs.rounds.+ways_of.Given as goal

abbrev pub decreases-ways_of : goal.decreases-ways_of
decreases-ways_of l = l.count
