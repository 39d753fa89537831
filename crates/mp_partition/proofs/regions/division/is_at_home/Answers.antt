use Rattle.std.proofs.Common.{◌≡◌, ℕ, Bool, List, All, ap, sym, subst, ◌∙◌}
use Rattle.mp_records.specs.declared.ports.Input.{Input}
use Rattle.mp_records.specs.declared.ports.Output.{Output}
use Rattle.mp_partition.specs.regions.Divisions.{heard_by, IsDrivenAt, IsReadAt}
use Rattle.mp_partition.specs.regions.Regions.{partition_of}
use Rattle.mp_partition.proofs.lemmas.regions.DivisionLemmas.{home_some}
use Rattle.mp_partition.proofs.regions.division.is_at_home.Goals as goal

pub returns-then-are_driven_at : goal.returns-then-are_driven_at
returns-then-are_driven_at c = λ read.
    let n = c.args.netlist.now in
    let division = c.args.division.now in
    let m = c.args.id.0 in
    let home : c.partition_of-home.result ≡ partition_of division.homes.items m = c.partition_of-home.ensures ∙ ap (λ (xs : List ℕ). partition_of xs m) c.as_slice.ensures.value in
    let heard : c.heard_by-heard.result.now ≡ heard_by division.heard.items (partition_of division.homes.items m) =
    c.heard_by-heard.ensures ∙ ap (λ (hs : List (List Bool)). heard_by hs c.partition_of-home.result) c.as_slice-2.ensures.value ∙ ap (heard_by division.heard.items) home in
    let outputs = c.are_driven_at.ensures c.if-are_driven_at.true in
    let inputs = c.are_read_at.ensures read in
    home_some n division.homes.items division.wires.items division.heard.items division.parts m c.in-Some.found.now (sym c.in-Some.ensures.value)
    (subst (λ xs. All (λ (output : Output). IsDrivenAt division.wires.items (partition_of division.homes.items m) output) xs) c.as_slice-3.ensures
    (subst (λ h. All (λ (output : Output). IsDrivenAt division.wires.items h output) c.as_slice-3.result.now) home
    (subst (λ (ws : List ℕ). All (λ (output : Output). IsDrivenAt ws c.partition_of-home.result output) c.as_slice-3.result.now) c.as_slice-wires.ensures.value outputs)))
    (subst (λ xs. All (λ (input : Input). IsReadAt division.wires.items (heard_by division.heard.items (partition_of division.homes.items m)) division.parts (partition_of division.homes.items m) input) xs) c.as_slice-then-are_driven_at.ensures
    (subst (λ hs. All (λ (input : Input). IsReadAt division.wires.items hs division.parts (partition_of division.homes.items m) input) c.as_slice-then-are_driven_at.result.now) heard
    (subst (λ h. All (λ (input : Input). IsReadAt division.wires.items c.heard_by-heard.result.now division.parts h input) c.as_slice-then-are_driven_at.result.now) home
    (subst (λ (ws : List ℕ). All (λ (input : Input). IsReadAt ws c.heard_by-heard.result.now division.parts c.partition_of-home.result input) c.as_slice-then-are_driven_at.result.now) c.as_slice-wires.ensures.value inputs))))
