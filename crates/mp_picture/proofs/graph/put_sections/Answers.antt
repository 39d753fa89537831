use Rattle.std.proofs.Common.{ℕ, List, [], ◌∷◌, ◌++◌}
use Rattle.mp_netlist.specs.Circuit.{Circuit}
use Rattle.mp_streams.proofs.OutLemmas.{puts_then, puts_sooner, writes_failed}
use Rattle.mp_picture.specs.declared.graph.GraphSection.TheVariants.{Modules, Wires, Reads, Bundles}
use Rattle.mp_picture.specs.GraphSections.{section_text, head, graph}
use Rattle.mp_picture.proofs.graph.put_sections.Goals as goal

abbrev last : List ℕ
last = 125 ∷ 10 ∷ []

abbrev from_bundles : Circuit → List ℕ
from_bundles n = section_text n Bundles ++ last

abbrev from_reads : Circuit → List ℕ
from_reads n = section_text n Reads ++ from_bundles n

abbrev from_wires : Circuit → List ℕ
from_wires n = section_text n Wires ++ from_reads n

abbrev from_modules : Circuit → List ℕ
from_modules n = section_text n Modules ++ from_wires n

pub returns-in_err-put_text : goal.returns-in_err-put_text
unfolding graph head
returns-in_err-put_text g c = writes_failed _ c.from_residual.ensures.0 (puts_sooner (from_modules c.args.wired.netlist.now) c.in_err-put_text.ensures)

pub returns-in_err-put_section : goal.returns-in_err-put_section
unfolding graph head
returns-in_err-put_section g c =
    puts_then c.in_ok-put_text.ensures
    (writes_failed _ c.from_residual-in_err-put_section.ensures.0 (puts_sooner (from_wires c.args.wired.netlist.now) c.in_err-put_section.ensures))

pub returns-in_err-put_section-2 : goal.returns-in_err-put_section-2
unfolding graph head
returns-in_err-put_section-2 g c =
    puts_then c.in_ok-put_text.ensures
    (puts_then c.in_ok-put_section.ensures
    (writes_failed _ c.from_residual-in_err-put_section-2.ensures.0 (puts_sooner (from_reads c.args.wired.netlist.now) c.in_err-put_section-2.ensures)))

pub returns-in_err-put_section-3 : goal.returns-in_err-put_section-3
unfolding graph head
returns-in_err-put_section-3 g c =
    puts_then c.in_ok-put_text.ensures
    (puts_then c.in_ok-put_section.ensures
    (puts_then c.in_ok-put_section-2.ensures
    (writes_failed _ c.from_residual-in_err-put_section-3.ensures.0 (puts_sooner (from_bundles c.args.wired.netlist.now) c.in_err-put_section-3.ensures))))

pub returns-in_err-put_section-4 : goal.returns-in_err-put_section-4
unfolding graph head
returns-in_err-put_section-4 g c =
    puts_then c.in_ok-put_text.ensures
    (puts_then c.in_ok-put_section.ensures
    (puts_then c.in_ok-put_section-2.ensures
    (puts_then c.in_ok-put_section-3.ensures
    (writes_failed _ c.from_residual-in_err-put_section-4.ensures.0 (puts_sooner last c.in_err-put_section-4.ensures)))))

pub returns : goal.returns
unfolding graph head
returns g c =
    puts_then c.in_ok-put_text.ensures
    (puts_then c.in_ok-put_section.ensures
    (puts_then c.in_ok-put_section-2.ensures
    (puts_then c.in_ok-put_section-3.ensures
    (puts_then c.in_ok-put_section-4.ensures c.put_text-2.ensures))))
