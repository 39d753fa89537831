use Rattle.std.proofs.Common.{◌≡◌, ℕ, List, ap, sym, ◌∙◌, arith}
use Rattle.mp_partition.specs.regions.Regions.{partition_of}
use Rattle.mp_redo.proofs.lemmas.parts.WholeLemmas.{within_home}
use Rattle.mp_redo.proofs.parts.whole_run.part_of_wire.Goals as goal

pub returns-then-home-change-clause-within : goal.returns-then-home-change-clause-within
returns-then-home-change-clause-within c =
    let change = c.args.change.now in
    let division = change.partition.now.division in
    let w = c.args.wire.0 in
    let home : c.partition_of-home.result ≡ partition_of division.wires.items w = c.partition_of-home.ensures ∙ ap (λ (xs : List ℕ). partition_of xs w) c.as_slice.ensures.value in
    within_home change.new.now division.homes.items division.wires.items division.parts w c.partition_of-home.result c.requires.partition.division (λ low. sym home)

pub returns-else-home-change-clause-within : goal.returns-else-home-change-clause-within
returns-else-home-change-clause-within c =
    let change = c.args.change.now in
    let division = change.partition.now.division in
    let w = c.args.wire.0 in
    let home : c.partition_of-home.result ≡ partition_of division.wires.items w = c.partition_of-home.ensures ∙ ap (λ (xs : List ℕ). partition_of xs w) c.as_slice.ensures.value in
    let past = c.if-home-change.false in
    within_home change.new.now division.homes.items division.wires.items division.parts w 0 c.requires.partition.division (λ low. absurd (let no : ⊥ = omega (arith, low, past, home) in no))
