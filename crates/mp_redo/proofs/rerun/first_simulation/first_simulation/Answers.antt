use Rattle.std.proofs.Common.{◌≡◌, ℕ, Bool, List, true, ap, ◌∙◌}
use Rattle.std.proofs.lemmas.Result.{IfOk-weaker}
use Rattle.mp_netlist.specs.Circuit.{Circuit}
use Rattle.mp_netlist.specs.Drivers.{driver}
use Rattle.mp_modules.specs.automata.Codes.{bit}
use Rattle.mp_partition.specs.runs.Marks.{is_marked}
use Rattle.mp_partition.specs.regions.Regions.{partition_of}
use Rattle.mp_active.specs.excerpt.Excerpts.{excerpt, is_followed}
use Rattle.mp_redo.proofs.lemmas.rerun.FirstPartLemmas.{part_is, hears_others}
use Rattle.mp_redo.proofs.rerun.first_simulation.first_simulation.Goals as goal

-- the lists as they are passed
at_home : (active : List Bool) (items passed : List ℕ) → passed ≡ items → ((m : ℕ) → partition_of items m ≡ bit (is_marked active m)) → (m : ℕ) → partition_of passed m ≡ bit (is_marked active m)
at_home active items passed same are m = ap (λ (xs : List ℕ). partition_of xs m) same ∙ are m

hears : (n : Circuit) (active items passed : List Bool) → passed ≡ items → ((w : ℕ) → is_marked items w ≡ is_followed (λ m. is_marked active m) (driver n w)) →
    (w : ℕ) → is_marked passed w ≡ is_followed (λ m. is_marked active m) (driver n w)
hears n active items passed same are w = ap (λ (xs : List Bool). is_marked xs w) same ∙ are w

pub new-part-requires : goal.new-part-requires
new-part-requires c =
    let n = c.args.new.now in
    let active = c.args.active.now in
    hears_others n active c.as_slice.result.now c.as_slice-2.result.now (at_home active c.in_ok-homes.homes.items c.as_slice.result.now c.as_slice.ensures.value c.in_ok-homes.ensures)
    (hears n active c.in_ok-heard.heard.items c.as_slice-2.result.now c.as_slice-2.ensures.value c.in_ok-heard.ensures) c.horizon-horizon.ensures.form

pub simulation_of-first-requires-clause-part : goal.simulation_of-first-requires-clause-part
simulation_of-first-requires-clause-part c =
    let n = c.args.new.now in
    let active = c.args.active.now in
    let part : c.new-part.result ≡ excerpt n (λ m. is_marked active m) (λ w. true) =
    c.new-part.ensures
    ∙ part_is n active c.as_slice.result.now c.as_slice-2.result.now (at_home active c.in_ok-homes.homes.items c.as_slice.result.now c.as_slice.ensures.value c.in_ok-homes.ensures)
    (hears n active c.in_ok-heard.heard.items c.as_slice-2.result.now c.as_slice-2.ensures.value c.in_ok-heard.ensures) in
    ((λ m. is_marked active m), part)

pub returns : goal.returns
returns c =
    let n = c.args.new.now in
    let active = c.args.active.now in
    let part : c.new-part.result ≡ excerpt n (λ m. is_marked active m) (λ w. true) =
    c.new-part.ensures
    ∙ part_is n active c.as_slice.result.now c.as_slice-2.result.now (at_home active c.in_ok-homes.homes.items c.as_slice.result.now c.as_slice.ensures.value c.in_ok-homes.ensures)
    (hears n active c.in_ok-heard.heard.items c.as_slice-2.result.now c.as_slice-2.ensures.value c.in_ok-heard.ensures) in
    IfOk-weaker c.simulation_of-first.result _ _ (λ first is. is (λ m. is_marked active m) part) c.simulation_of-first.ensures
