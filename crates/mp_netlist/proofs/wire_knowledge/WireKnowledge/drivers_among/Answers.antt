use Rattle.std.proofs.Common.{◌≡◌, ℕ, false, None, IfSome, sym, subst}
use Rattle.mp_records.specs.declared.module_record.ModuleRecord.{ModuleRecord}
use Rattle.mp_netlist.specs.Around.{is_in}
use Rattle.mp_netlist.specs.Drivers.{port_from}
use Rattle.mp_netlist.specs.Knowledge.{Knows}
use Rattle.mp_netlist.proofs.KnowledgeLemmas.{got_drivers}
use Rattle.mp_netlist.proofs.wire_knowledge.WireKnowledge.drivers_among.Goals as goal

pub returns-in-At : goal.returns-in-At
returns-in-At c =
    subst (λ known. IfSome c.at.result (λ row. (m : ℕ) (r : ModuleRecord) → Knows known m r → is_in m row.now ≡ false → port_from 0 r.outputs c.args.wire.0 ≡ None))
    (sym c.in-At.is) (got_drivers c.in-At.around c.args.wire.0 c.at.result c.at.ensures)
