use Rattle.std.proofs.Common.{Ok, take}
use Rattle.std.specs.List.{flat_map}
use Rattle.mp_streams.specs.Outgoing.{Writes}
use Rattle.mp_text.specs.lexing.WaveLines.{change_text}
use Rattle.mp_text.proofs.edit_lines.pairs.PairsText.put_to.Given as goal

-- the pairs so far are written
abbrev pub invariant-loop-pair : goal.invariant-loop-pair
invariant-loop-pair g l = Writes {T = Unit {0}} (Ok tt) l.fn.out l.out (flat_map change_text (take l.pair-index l.self.pairs.now))
