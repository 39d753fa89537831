use Rattle.std.proofs.Common.{Ok, ◌∷◌, [], length, take}
use Rattle.std.specs.List.{flat_map, range_with_len}
use Rattle.mp_streams.specs.Outgoing.{Writes}
use Rattle.mp_picture.specs.wave_json.Waves.{character}
use Rattle.mp_picture.proofs.wave_json.wave_characters.WaveCharactersText.put_to.Given as goal

-- the columns so far are written
abbrev pub invariant-loop-column : goal.invariant-loop-column
invariant-loop-column g l =
    Writes {T = Unit {0}} (Ok tt) l.fn.out l.out (flat_map (λ k. character l.self.width l.self.cells.now k ∷ []) (take l.column (range_with_len 0 (length l.self.cells.now))))
