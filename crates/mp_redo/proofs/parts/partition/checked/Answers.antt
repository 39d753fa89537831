use Rattle.std.proofs.Common.{◌≡◌, ℕ, List, [], subst}
use Rattle.mp_partition.specs.regions.Divisions.{IsDivision}
use Rattle.mp_redo.specs.apart.Parts.{AreUnconnected}
use Rattle.mp_redo.specs.parts.Drivers.{HasDelay}
use Rattle.mp_redo.proofs.lemmas.parts.DelayLemmas.{part_has_least}
use Rattle.mp_redo.proofs.parts.partition.checked.Goals as goal

pub returns : goal.returns
returns c =
    let division = c.args.division in
    let homes = division.homes.items in
    let none : division.heard.items ≡ [] = c.hears_nothing.ensures c.if-not-hears_nothing.false in
    record {
      division = subst (λ hs. IsDivision c.args.new.now homes division.wires.items hs division.parts) none c.requires;
      unconnected = subst (λ (hs : List ℕ). AreUnconnected c.args.old.now hs) c.as_slice-homes.ensures.value (c.are_unconnected.ensures c.if-not-are_unconnected.false);
      drivers = c.in-Ok.ensures;
      least = λ k low.
          part_has_least c.args.new.now c.horizon-new_horizon.ensures.form homes k c.least_delay.result c.least_delay.ensures
          (subst (λ (hs : List ℕ). HasDelay c.args.new.now hs k c.least_delay.result) c.as_slice-homes.ensures.value (c.have_delay.ensures c.if-not-have_delay.false k low));
    }
