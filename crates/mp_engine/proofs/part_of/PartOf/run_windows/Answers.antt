use Rattle.std.proofs.Common.{◌≡◌, ℕ, ◌+◌, ◌-◌, Bool, List, sym, ap, ◌∙◌, subst, arith}
use Rattle.mp_netlist.specs.Circuit.{Circuit}
use Rattle.mp_simulation.specs.units.NetlistSimulations.{IsSimulated}
use Rattle.mp_partition.specs.runs.Marks.{is_marked}
use Rattle.mp_partition.specs.regions.Regions.{partition_of, region}
use Rattle.mp_partition.specs.regions.Divisions.{heard_by}
use Rattle.mp_partition.proofs.lemmas.regions.DivisionLemmas.{divided_apart}
use Rattle.mp_engine.specs.region_runs.RegionRuns.{AreTidings, IsUnderWay}
use Rattle.mp_engine.specs.messages.Messages.{AreTold, IsToldOnce, KnowsAhead}
use Rattle.mp_engine.specs.messages.Lines.{parts_of}
use Rattle.mp_engine.proofs.HearingLemmas.{renamed, tidings_are}
use Rattle.mp_engine.proofs.part_of.PartOf.run_windows.Goals as goal

pub new-region-requires : goal.new-region-requires
new-region-requires g c m p w drives home =
    let division = c.args.self.division.now in
    let part = c.args.self.part in
    ap (λ (marks : List Bool). is_marked marks w) (c.heard_by-heard.ensures ∙ ap (λ (hs : List (List Bool)). heard_by hs part) c.as_slice.ensures.value)
    ∙ divided_apart c.args.self.netlist.now division.homes.items division.wires.items division.heard.items division.parts part c.requires.channels.0.division m p w drives
    (ap (λ (hs : List ℕ). partition_of hs m) (sym c.as_slice-2.ensures.value) ∙ home)

pub loop-from-init : goal.loop-from-init
loop-from-init g c =
    let n = c.args.self.netlist.now in
    let part = c.args.self.part in
    let homes = c.args.self.division.now.homes.items in
    let heard = heard_by c.args.self.division.now.heard.items part in
    let here : c.new-region.result ≡ region n homes part heard =
    c.new-region.ensures ∙ ap (λ (hs : List ℕ). region n hs part c.heard_by-heard.result.now) c.as_slice-2.ensures.value
    ∙ ap (λ (marks : List Bool). region n homes part marks) (c.heard_by-heard.ensures ∙ ap (λ (hs : List (List Bool)). heard_by hs part) c.as_slice.ensures.value)
    in
    let low = c.horizon-horizon.ensures.low in
    record {
      later = omega arith;
      within = low;
      horizon = c.horizon-horizon.ensures.value;
      some = (let shorter = c.min-span.ensures in let stretch = c.stretch_of-stretch.ensures in let delay = c.requires.channels.0.crossing.some in omega (arith, shorter, stretch, delay));
      span = (let shorter = c.min-span.ensures in omega (arith, shorter));
      channels = c.requires.channels.1;
      under_way = subst (λ (r : Circuit). IsUnderWay r c.args.self.keeps (is_marked heard) 0 1 c.args.run.now) (sym here) c.requires.begun;
    }

pub send-requires-clause-knows : goal.send-requires-clause-knows
send-requires-clause-knows g c =
    let n = c.args.self.netlist.now in
    let part = c.args.self.part in
    let homes = c.args.self.division.now.homes.items in
    let heard = heard_by c.args.self.division.now.heard.items part in
    let here : c.new-region.result ≡ region n homes part heard =
    c.new-region.ensures ∙ ap (λ (hs : List ℕ). region n hs part c.heard_by-heard.result.now) c.as_slice-2.ensures.value
    ∙ ap (λ (marks : List Bool). region n homes part marks) (c.heard_by-heard.ensures ∙ ap (λ (hs : List (List Bool)). heard_by hs part) c.as_slice.ensures.value)
    in
    let before = c.loop-from.invariant in
    let later = before.later in
    let horizon = before.horizon in
    let span = before.span in
    let low = c.loop-from-test.true in
    let last = c.min-until.ensures in
    let sum = c.saturating_add.ensures in
    let high = c.horizon-horizon.type_inv in
    let about = c.requires.channels.0 in
    renamed about.netlist about.wires_are about.heards_are (sym before.channels) (λ m ws hs p. KnowsAhead m ws hs p (record { from = c.loop-from.from; until = c.min-until.result }) c.loop-from.run.simulation) (record {
      homes = homes;
      parts = c.args.self.division.now.parts;
      form = c.horizon-horizon.ensures.form;
      division = about.division;
      before = c.loop-from.from - 1;
      from = omega (arith, later);
      delay = c.args.self.division.now.delay;
      crossing = about.crossing;
      some = omega (arith, low, last, sum, high);
      short = omega (arith, last, sum, span);
      within = omega (arith, last, horizon);
      simulated = subst (λ (r : Circuit). IsSimulated r (c.loop-from.from - 1) c.loop-from.run.simulation) here before.under_way.simulated;
    })

pub run_units-requires-clause-before : goal.run_units-requires-clause-before
run_units-requires-clause-before g c =
    let n = c.args.self.netlist.now in
    let part = c.args.self.part in
    let homes = c.args.self.division.now.homes.items in
    let heard = heard_by c.args.self.division.now.heard.items part in
    let here : c.new-region.result ≡ region n homes part heard =
    c.new-region.ensures ∙ ap (λ (hs : List ℕ). region n hs part c.heard_by-heard.result.now) c.as_slice-2.ensures.value
    ∙ ap (λ (marks : List Bool). region n homes part marks) (c.heard_by-heard.ensures ∙ ap (λ (hs : List (List Bool)). heard_by hs part) c.as_slice.ensures.value)
    in
    let wires = c.args.self.division.now.wires.items in
    let heards = c.args.self.division.now.heard.items in
    let before = c.loop-from.invariant in
    let from = c.loop-from.from in
    let until = c.min-until.result in
    let changes = c.in_ok-receive.field-0.items in
    let bys = parts_of c.send.new.self.from.items in
    let later = before.later in
    let horizon = before.horizon in
    let next : c.loop-from.from ≡ c.loop-from.from - 1 + 1 = omega (arith, later) in
    let about = c.requires.channels.0 in
    let once = renamed (sym about.netlist) (sym about.wires_are) (sym about.heards_are) (c.send.ensures.same.0 ∙ before.channels) (λ m ws hs p. IsToldOnce m ws (heard_by hs p) bys) c.send.new.self.once in
    let told = renamed (sym about.netlist) (sym about.wires_are) (sym about.heards_are) (c.send.ensures.same.0 ∙ before.channels) (λ m ws hs p. AreTold m ws (heard_by hs p) bys (record { from = from; until = until }) changes) c.in_ok-receive.ensures.told in
    let told_next = subst (λ k. AreTold n wires (heard_by heards part) bys (record { from = k; until = until }) changes) next told in
    let low = c.min-until.ensures in
    let tidings = tidings_are n c.horizon-horizon.ensures.form homes wires heards c.args.self.division.now.parts about.division part bys (from - 1) until changes (omega (arith, low, horizon)) once told_next in
    let over = c.receive-in-loop-from.ensures c.new-region.result c.args.self.keeps (is_marked heard) (from - 1) until (subst (λ k. IsUnderWay c.new-region.result c.args.self.keeps (is_marked heard) (from - 1) k c.loop-from.run) next before.under_way)
    (subst (λ (r : Circuit). AreTidings r (is_marked heard) (from - 1) until changes) (sym here) tidings) in
    record { keeps = c.args.self.keeps; is_heard = is_marked heard; is = over }

pub loop-from-preserved : goal.loop-from-preserved
loop-from-preserved g c =
    let n = c.args.self.netlist.now in
    let part = c.args.self.part in
    let homes = c.args.self.division.now.homes.items in
    let heard = heard_by c.args.self.division.now.heard.items part in
    let here : c.new-region.result ≡ region n homes part heard =
    c.new-region.ensures ∙ ap (λ (hs : List ℕ). region n hs part c.heard_by-heard.result.now) c.as_slice-2.ensures.value
    ∙ ap (λ (marks : List Bool). region n homes part marks) (c.heard_by-heard.ensures ∙ ap (λ (hs : List (List Bool)). heard_by hs part) c.as_slice.ensures.value)
    in
    let wires = c.args.self.division.now.wires.items in
    let heards = c.args.self.division.now.heard.items in
    let before = c.loop-from.invariant in
    let from = c.loop-from.from in
    let until = c.min-until.result in
    let changes = c.in_ok-receive.field-0.items in
    let bys = parts_of c.send.new.self.from.items in
    let later = before.later in
    let horizon = before.horizon in
    let next : c.loop-from.from ≡ c.loop-from.from - 1 + 1 = omega (arith, later) in
    let about = c.requires.channels.0 in
    let once = renamed (sym about.netlist) (sym about.wires_are) (sym about.heards_are) (c.send.ensures.same.0 ∙ before.channels) (λ m ws hs p. IsToldOnce m ws (heard_by hs p) bys) c.send.new.self.once in
    let told = renamed (sym about.netlist) (sym about.wires_are) (sym about.heards_are) (c.send.ensures.same.0 ∙ before.channels) (λ m ws hs p. AreTold m ws (heard_by hs p) bys (record { from = from; until = until }) changes) c.in_ok-receive.ensures.told in
    let told_next = subst (λ k. AreTold n wires (heard_by heards part) bys (record { from = k; until = until }) changes) next told in
    let low = c.min-until.ensures in
    let tidings = tidings_are n c.horizon-horizon.ensures.form homes wires heards c.args.self.division.now.parts about.division part bys (from - 1) until changes (omega (arith, low, horizon)) once told_next in
    let over = c.receive-in-loop-from.ensures c.new-region.result c.args.self.keeps (is_marked heard) (from - 1) until (subst (λ k. IsUnderWay c.new-region.result c.args.self.keeps (is_marked heard) (from - 1) k c.loop-from.run) next before.under_way)
    (subst (λ (r : Circuit). AreTidings r (is_marked heard) (from - 1) until changes) (sym here) tidings) in
    let sum = c.saturating_add.ensures in
    let some = c.loop-from-test.true in
    record {
      later = omega (arith, later, low, sum, some);
      within = omega (arith, low);
      horizon = before.horizon;
      some = before.some;
      span = before.span;
      channels = c.in_ok-receive.ensures.same.0 ∙ c.send.ensures.same.0 ∙ before.channels;
      under_way = c.in_ok-run_units.ensures c.args.self.keeps (is_marked heard) until (omega arith) over;
    }

pub loop-from-smaller : goal.loop-from-smaller
loop-from-smaller g c =
    let before = c.loop-from.invariant in
    let some = c.loop-from-test.true in
    let low = c.min-until.ensures in
    let sum = c.saturating_add.ensures in
    let high = c.horizon-horizon.type_inv in
    let step = before.some in
    omega (arith, step, some, low, sum, high)

pub returns : goal.returns
returns g c =
    let n = c.args.self.netlist.now in
    let part = c.args.self.part in
    let homes = c.args.self.division.now.homes.items in
    let heard = heard_by c.args.self.division.now.heard.items part in
    let here : c.new-region.result ≡ region n homes part heard =
    c.new-region.ensures ∙ ap (λ (hs : List ℕ). region n hs part c.heard_by-heard.result.now) c.as_slice-2.ensures.value
    ∙ ap (λ (marks : List Bool). region n homes part marks) (c.heard_by-heard.ensures ∙ ap (λ (hs : List (List Bool)). heard_by hs part) c.as_slice.ensures.value)
    in
    let before = c.loop-from.invariant in
    let within = before.within in
    let past = c.loop-from-test.false in
    let now : c.loop-from.from ≡ n.horizon = (let last : c.loop-from.from ≡ c.horizon-horizon.result = omega (arith, within, past) in last ∙ before.horizon) in
    let is = subst (λ (r : Circuit). IsUnderWay r c.args.self.keeps (is_marked heard) (c.loop-from.from - 1) c.loop-from.from c.loop-from.run) here before.under_way in
    subst (λ k. IsUnderWay (region n homes part heard) c.args.self.keeps (is_marked heard) (k - 1) k c.loop-from.run) now is
