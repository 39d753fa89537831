use Rattle.std.proofs.Common.{◌≡◌, List, ℕ, None, get_or, ap, sym, subst, ◌∙◌, rules}
use Rattle.mp_records.specs.declared.module_record.ModuleRecord.{ModuleRecord}
use Rattle.mp_netlist.specs.Tables.{KeepsNames}
use Rattle.mp_netlist.specs.Least.{least_among, lesser_of}
use Rattle.mp_netlist.proofs.KnowledgeLemmas.{kept_within}
use Rattle.mp_netlist.proofs.LeastLemmas.{least_set}
use Rattle.mp_netlist.proofs.module_table.ModuleTable.put.Goals as goal

abbrev name_of : ModuleRecord → List ℕ
name_of r = r.name

pub least_after-self-inside-requires : goal.least_after-self-inside-requires
least_after-self-inside-requires c =
    let inside = c.match-placed.self-inside in
    let placed = c.args.placed in
    let table : inside.table ≡ c.args.self.now = search rules in
    let least : inside.least.delay ≡ least_among inside.table = search rules in
    let keeps = subst (λ things. KeepsNames name_of (get_or things c.args.number None) placed) (sym table) c.requires in
    let changed = least_set inside.table c.args.number placed (kept_within name_of inside.table c.args.number placed keeps) in
    record {
      rest = changed.rest;
      was = least ∙ changed.was ∙ ap (lesser_of changed.rest) (sym c.least_at-before.ensures);
      is = ap least_among c.in_ok-put.ensures.ok ∙ changed.is ∙ ap (lesser_of changed.rest) (sym c.least_of-after.ensures);
    }
