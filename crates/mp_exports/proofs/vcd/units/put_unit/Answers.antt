use Rattle.mp_exports.proofs.lemmas.vcd.Names.{◌≢◌, sym, rules, writes_failed, changed, left_whole, left_as, left_then, left_failed}
use Rattle.mp_exports.proofs.lemmas.vcd.AgendaLemmas.{chain_at, chain_next, marked_some}
use Rattle.mp_exports.proofs.vcd.units.put_unit.Goals as goal

pub returns-in_err-put_time_mark : goal.returns-in_err-put_time_mark
returns-in_err-put_time_mark g c =
    let n = c.args.of.netlist.now in
    let t = c.args.time in
    let chain = chain_at n c.args.agenda.now t _ c.requires.from c.requires.times c.requires.told c.first-place.ensures in
    let some : c.first-place.result ≢ 0 = search rules in
    let is = c.from_residual.ensures.0 in
    left_failed _ (left_as (marked_some n t (changed n t) _ _ chain some) (left_whole _ _)) _ is (writes_failed _ is c.in_err-put_time_mark.ensures)

pub line_of-requires : goal.line_of-requires
line_of-requires g c = c.args.of.narrow c.entry-change.result.wire

pub returns-in_err-put_piece : goal.returns-in_err-put_piece
returns-in_err-put_piece g c =
    let left = c.loop-place.invariant in
    let next = chain_next c.args.of.netlist.now _ _ _ _ _ _ c.args.of.are_widths (sym c.entry-change.ensures) left.1 (search rules) c.line_of.ensures in
    let is = c.from_residual-in_err-put_piece.ensures.0 in
    left_failed _ (left_as next.lines left.2) _ is (writes_failed _ is c.in_err-put_piece.ensures)

pub loop-place-smaller : goal.loop-place-smaller
loop-place-smaller g c =
    (chain_next c.args.of.netlist.now _ _ _ _ _ _ c.args.of.are_widths (sym c.entry-change.ensures) c.loop-place.invariant.1 (search rules) c.line_of.ensures).smaller

pub loop-place-preserved : goal.loop-place-preserved
loop-place-preserved g c =
    let left = c.loop-place.invariant in
    let next = chain_next c.args.of.netlist.now _ _ _ _ _ _ c.args.of.are_widths (sym c.entry-change.ensures) left.1 (search rules) c.line_of.ensures in
    (next.later, next.chain, left_then (left_as next.lines left.2) c.in_ok-put_piece.ensures)
