use Rattle.std.proofs.Common.{◌≡◌, ◌+◌, ◌-◌, IfOk, map, option_map, sym, subst, arith}
use Rattle.mp_model.specs.Tracks.{advanced}
use Rattle.mp_model.specs.Evaluations.{AreTracks, AreCells, delivered}
use Rattle.mp_model.proofs.TracksLemmas.{tracks_advanced}
use Rattle.mp_model.proofs.CellsLemmas.{first_cells_are, cells_next}
use Rattle.mp_model.proofs.EndsLemmas.{first_tracks_are, waves_are}
use Rattle.mp_model.proofs.evaluation.plain_waves.Goals as goal

pub answer_all-requires-clause-tracks : goal.answer_all-requires-clause-tracks
answer_all-requires-clause-tracks c =
    let n = c.args.netlist.now in
    subst (AreTracks n (delivered 0 0 0) 0) (sym c.in_ok-tracks.ensures) (first_tracks_are n c.horizon-horizon.ensures.form)

pub answer_all-requires-clause-cells : goal.answer_all-requires-clause-cells
answer_all-requires-clause-cells c = subst (AreCells c.args.netlist.now 0 0) (sym c.in_ok-cells.ensures) (first_cells_are c.args.netlist.now)

pub answer_all-requires-in-loop-time-clause-tracks : goal.answer_all-requires-in-loop-time-clause-tracks
answer_all-requires-in-loop-time-clause-tracks c =
    let n = c.args.netlist.now in
    let t = c.loop-time.time in
    let e : t - 1 + 1 ≡ t = omega arith in
    subst (AreTracks n (delivered t 0 0) t) (sym c.advance_all.ensures)
    (subst (λ u. AreTracks n (delivered u 0 0) u (map (option_map (advanced u)) c.loop-time.tracks.items)) e (tracks_advanced n c.horizon-horizon.ensures.form (t - 1) c.loop-time.tracks.items (omega arith) c.loop-time.invariant.0))

pub answer_all-requires-in-loop-time-clause-cells : goal.answer_all-requires-in-loop-time-clause-cells
answer_all-requires-in-loop-time-clause-cells c =
    let n = c.args.netlist.now in
    let t = c.loop-time.time in
    let e : t - 1 + 1 ≡ t = omega arith in
    subst (λ u. AreCells n u 0 c.loop-time.cells.items) e (cells_next n (t - 1) c.loop-time.cells.items c.loop-time.invariant.1)

pub returns : goal.returns
returns c =
    let n = c.args.netlist.now in
    let t = c.loop-time.time - 1 in
    subst (λ found. IfOk c.finished.result (λ waves. waves.items ≡ found)) (waves_are n c.horizon-horizon.ensures.form t c.loop-time.tracks.items (omega arith) c.loop-time.invariant.0) c.finished.ensures
