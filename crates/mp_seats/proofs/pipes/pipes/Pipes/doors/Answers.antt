use Rattle.std.proofs.Common.{◌∙◌, sym, ap, get_or, arith}
use Rattle.std.proofs.lemmas.List.{get_or-map}
use Rattle.mp_seats.specs.pipes.PipeTexts.{paths_in}
use Rattle.mp_seats.proofs.pipes.pipes.Pipes.doors.Goals as goal

pub door-requires : goal.door-requires
door-requires c =
    let at = c.requires in (
      at.0,
      at.1,
      c.index-paths-place.is ∙ ap (λ l. get_or l c.loop-place.place c.index-paths-place.result) at.2
          ∙ get_or-map (paths_in at.0 at.1) c.args.seats.now c.loop-place.place c.index-seats-place.result c.index-paths-place.result (omega arith)
          ∙ ap (paths_in at.0 at.1) (sym c.index-seats-place.is),
    )
