use Rattle.std.proofs.Common.{◌++◌, codes}
use Rattle.mp_streams.proofs.OutLemmas.{puts_then, puts_sooner, writes_failed}
use Rattle.mp_picture.specs.Graphs.{bundle_edge}
use Rattle.mp_picture.proofs.bundle_lines.put_bundle.Goals as goal

pub returns-in_err-put_box : goal.returns-in_err-put_box
returns-in_err-put_box g c =
    let n = c.args.wired.netlist.now in
    let r = c.args.bundle.now in
    let later = bundle_edge n r.name r.acknowledge (codes ":a:w") ++ bundle_edge n r.name r.payload (codes ":d:w") in
    writes_failed _ c.from_residual.ensures.0 (puts_sooner (bundle_edge n r.name r.request (codes ":r:w") ++ later) c.in_err-put_box.ensures)

pub returns-in_err-put_line : goal.returns-in_err-put_line
returns-in_err-put_line g c =
    let n = c.args.wired.netlist.now in
    let r = c.args.bundle.now in
    let later = bundle_edge n r.name r.acknowledge (codes ":a:w") ++ bundle_edge n r.name r.payload (codes ":d:w") in
    let line = rw c.as_str-name.ensures at c.in_err-put_line.ensures in
    writes_failed _ c.from_residual-in_err-put_line.ensures.0 (puts_then c.in_ok-put_box.ensures (puts_sooner later line))

pub returns-in_err-put_line-2 : goal.returns-in_err-put_line-2
returns-in_err-put_line-2 g c =
    let n = c.args.wired.netlist.now in
    let r = c.args.bundle.now in
    let first = rw c.as_str-name.ensures at c.in_ok-put_line.ensures in
    let line = rw c.as_str-name.ensures at c.in_err-put_line-2.ensures in
    writes_failed _ c.from_residual-in_err-put_line-2.ensures.0
    (puts_then c.in_ok-put_box.ensures (puts_then first (puts_sooner (bundle_edge n r.name r.payload (codes ":d:w")) line)))

pub returns : goal.returns
returns g c =
    let first = rw c.as_str-name.ensures at c.in_ok-put_line.ensures in
    let second = rw c.as_str-name.ensures at c.in_ok-put_line-2.ensures in
    let third = rw c.as_str-name.ensures at c.put_line-3.ensures in
    puts_then c.in_ok-put_box.ensures (puts_then first (puts_then second third))
