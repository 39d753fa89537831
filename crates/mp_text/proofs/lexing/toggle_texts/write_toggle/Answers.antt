use Rattle.mp_text.proofs.lemmas.lexing.Names.{arith, length-set}
use Rattle.mp_text.proofs.lemmas.lexing.ToggleLemmas.{toggle_placed}
use Rattle.mp_text.proofs.lexing.toggle_texts.write_toggle.Goals as goal

pub returns-clause-placed : goal.returns-clause-placed
returns-clause-placed c =
    toggle_placed c.args.time c.args.level c.args.room.now c.write_time-sign.new.room c.args.at c.write_time-sign.result c.requires.low
    (omega (arith, c.requires.within)) c.write_time-sign.ensures.placed
    (omega (arith, c.write_time-sign.ensures.short, c.requires.within, c.write_time-sign.auto.room, length-set c.args.room.now c.args.at 32))
