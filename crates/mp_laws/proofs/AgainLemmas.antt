-- What is found in a netlist that repeats is found again.
use Rattle.std.proofs.Common.{◌≡◌, ℕ, ◌+◌, ◌-◌, ◌<◌, ◌≤◌, true, Option, Some, None, is_some, refl, ap, sym, subst, ◌∙◌, arith}
use Rattle.std.specs.Prelude.{IsSome}
use Rattle.std.proofs.lemmas.Option.{same_Some}
use Rattle.mp_modules.specs.declared.finding_code.FindingCode.{FindingCode}
use Rattle.mp_modules.specs.declared.finding_code.FindingCode.TheVariants as codes
use Rattle.mp_modules.specs.declared.memory.Memory.{Memory}
use Rattle.mp_modules.specs.Findings.{has_code}
use Rattle.mp_modules.specs.storage.AnyModules.{found}
use Rattle.mp_records.specs.declared.ids.WireId.{WireId}
use Rattle.mp_records.specs.declared.wire_record.WireRecord.{WireRecord}
use Rattle.mp_records.specs.declared.module_record.ModuleRecord.{ModuleRecord}
use Rattle.mp_records.specs.declared.bundle_record.BundleRecord.{BundleRecord}
use Rattle.mp_netlist.specs.Circuit.{Circuit, IsCircuit, wire_at, module_at}
use Rattle.mp_model.specs.Levels.{built, inputs_by}
use Rattle.mp_model.specs.Waves.{level, state}
use Rattle.mp_model.specs.FindingLaws.{BundleRule, Changes, IsBusy, IsRequestedSoon, Rule}
use Rattle.mp_model.specs.declared.finding.Place.{Place}
use Rattle.mp_model.specs.declared.finding.Place.TheVariants.{Module, Bundle}
use Rattle.mp_model.proofs.FindingLemmas.{finds_by_rule}
use Rattle.mp_laws.specs.Stimuli.{AreSetAlike}
use Rattle.mp_steady.specs.WireSets.{all_wires, has_wire, is_whole}
use Rattle.mp_steady.specs.Periods.{longest_period, repeats, told_until}
use Rattle.mp_laws.specs.Repeating.{FindingsRepeatForEver, GoesOnAt, IsBelowHorizon, IsDriving, IsTold}
use Rattle.mp_laws.proofs.AlikeLemmas.{same_module}
use Rattle.mp_steady.proofs.ControlLemmas.{in_all}
use Rattle.mp_laws.proofs.WholeLemmas.{all_whole}
use Rattle.mp_laws.proofs.RepeatLemmas.{again_for_ever, begun_by, heard_for_ever, same_heard, same_levels, same_states, state_for_ever}

-- ---- the levels of a netlist that goes on

module _ (n later : Circuit) (ok : IsCircuit n) (later_ok : IsCircuit later) (whole : is_whole n (all_wires n) ≡ true) (goes : GoesOnAt (all_wires n) n later) (units : ℕ) (some : 1 ≤ units)
    (few : units ≤ longest_period n (all_wires n)) (again : repeats n (all_wires n) units ≡ true) where
  stands_there : (w : ℕ) → IsSome (wire_at later w) → has_wire (all_wires n) w ≡ true
  stands_there w stands = by (wire_at n w) (wire_at later w) refl (goes.alike.wires w) stands
    where
      by : (a b : Option WireRecord) → wire_at n w ≡ a → AreSetAlike 0 a b → IsSome b → has_wire (all_wires n) w ≡ true
      by None None at alike here = let no : ⊥ = cc in absurd no
      by (Some r) b at alike here = in_all n w (ap is_some at)
      by None (Some s) at alike here = absurd alike

  -- the level of a wire so many units later
  later_level : (w t : ℕ) → IsSome (wire_at later w) → told_until n (all_wires n) - units ≤ t → level later w (t + units) ≡ level later w t
  later_level w t stands low =
      let has = stands_there w stands in
      let begin = begun_by n ok (all_wires n) whole units some few again in
      same_levels n ok (all_wires n) whole later later_ok goes w (t + units) has ∙ again_for_ever n ok (all_wires n) whole units some few again w t has (omega (arith, begin, low))
      ∙ sym (same_levels n ok (all_wires n) whole later later_ok goes w t has)

  -- ---- bundles

  module _ (r : BundleRecord) (t : ℕ) (past : told_until n (all_wires n) - units < t) where
    -- a change so many units later, and the other way
    changes_later : (w : WireId) (s : ℕ) → IsSome (wire_at later w.0) → t ≤ s → Changes later w s → Changes later w (s + units)
    changes_later w s stands from differs =
        let back : s + units - 1 ≡ s - 1 + units = omega (arith, from, past) in
        λ same.
        differs (sym (ap (level later w.0) back ∙ later_level w.0 (s - 1) stands (omega (arith, from, past))) ∙ same ∙ later_level w.0 s stands (omega (arith, from, past)))

    changes_sooner : (w : WireId) (s : ℕ) → IsSome (wire_at later w.0) → t ≤ s → Changes later w (s + units) → Changes later w s
    changes_sooner w s stands from differs =
        let back : s + units - 1 ≡ s - 1 + units = omega (arith, from, past) in
        λ same.
        differs (ap (level later w.0) back ∙ later_level w.0 (s - 1) stands (omega (arith, from, past)) ∙ same ∙ sym (later_level w.0 s stands (omega (arith, from, past))))

    module _ (request : IsSome (wire_at later r.request.0)) (acknowledge : IsSome (wire_at later r.acknowledge.0)) (payload : IsSome (wire_at later r.payload.0)) where
      before : t + units - 1 ≡ t - 1 + units
      before = omega (arith, past)

      busy_later : IsBusy later r (t - 1) → IsBusy later r (t + units - 1)
      busy_later busy =
          λ same.
          busy (sym (ap (level later r.request.0) before ∙ later_level r.request.0 (t - 1) request (omega (arith, past))) ∙ same
          ∙ ap (level later r.acknowledge.0) before ∙ later_level r.acknowledge.0 (t - 1) acknowledge (omega (arith, past)))

      busy_sooner : IsBusy later r (t + units - 1) → IsBusy later r (t - 1)
      busy_sooner busy =
          λ same.
          busy (ap (level later r.request.0) before ∙ later_level r.request.0 (t - 1) request (omega (arith, past)) ∙ same
          ∙ sym (ap (level later r.acknowledge.0) before ∙ later_level r.acknowledge.0 (t - 1) acknowledge (omega (arith, past))))

      soon_later : t + units + r.setup < later.horizon → IsRequestedSoon later r t → IsRequestedSoon later r (t + units)
      soon_later within soon = record {
        at = soon.at + units;
        since = omega (arith, soon.since);
        until = omega (arith, soon.until);
        within = omega (arith, soon.until, within);
        event = changes_later r.request soon.at request soon.since soon.event;
      }

      soon_sooner : IsRequestedSoon later r (t + units) → IsRequestedSoon later r t
      soon_sooner soon =
          let at : ℕ = soon.at - units in
          let back : at + units ≡ soon.at = omega (arith, soon.since) in
          record {
            at = at;
            since = omega (arith, soon.since);
            until = omega (arith, soon.until, back);
            within = omega (arith, soon.within, back);
            event = changes_sooner r.request at request (omega (arith, soon.since)) (subst (λ k. Changes later r.request k) (sym back) soon.event);
          }

      rule_later : t + units + r.setup < later.horizon → (code : FindingCode) → BundleRule later r t code → BundleRule later r (t + units) code
      rule_later within codes.DataWhileBusy rule = (changes_later r.payload t payload (omega arith) rule.0, busy_later rule.1)
      rule_later within codes.Setup rule = (changes_later r.payload t payload (omega arith) rule.0, soon_later within rule.1)
      rule_later within codes.RequestWhileBusy rule = (changes_later r.request t request (omega arith) rule.0, busy_later rule.1)
      rule_later within codes.AckWhileIdle rule = (changes_later r.acknowledge t acknowledge (omega arith) rule.0, λ busy. rule.1 (busy_sooner busy))
      rule_later within codes.MergeCollision rule = absurd rule
      rule_later within codes.Withdrawn rule = absurd rule
      rule_later within codes.SelectUnstable rule = absurd rule
      rule_later within codes.CallOverlap rule = absurd rule
      rule_later within codes.DoneWithoutCall rule = absurd rule
      rule_later within codes.RepeatRequest rule = absurd rule
      rule_later within codes.DoneWithoutGrant rule = absurd rule
      rule_later within codes.CaptureWhileHeld rule = absurd rule
      rule_later within codes.PassWhileOpen rule = absurd rule
      rule_later within codes.DataAtCapture rule = absurd rule

      rule_sooner : (code : FindingCode) → BundleRule later r (t + units) code → BundleRule later r t code
      rule_sooner codes.DataWhileBusy rule = (changes_sooner r.payload t payload (omega arith) rule.0, busy_sooner rule.1)
      rule_sooner codes.Setup rule = (changes_sooner r.payload t payload (omega arith) rule.0, soon_sooner rule.1)
      rule_sooner codes.RequestWhileBusy rule = (changes_sooner r.request t request (omega arith) rule.0, busy_sooner rule.1)
      rule_sooner codes.AckWhileIdle rule = (changes_sooner r.acknowledge t acknowledge (omega arith) rule.0, λ busy. rule.1 (busy_later busy))
      rule_sooner codes.MergeCollision rule = absurd rule
      rule_sooner codes.Withdrawn rule = absurd rule
      rule_sooner codes.SelectUnstable rule = absurd rule
      rule_sooner codes.CallOverlap rule = absurd rule
      rule_sooner codes.DoneWithoutCall rule = absurd rule
      rule_sooner codes.RepeatRequest rule = absurd rule
      rule_sooner codes.DoneWithoutGrant rule = absurd rule
      rule_sooner codes.CaptureWhileHeld rule = absurd rule
      rule_sooner codes.PassWhileOpen rule = absurd rule
      rule_sooner codes.DataAtCapture rule = absurd rule

  -- ---- modules

  module _ (m t : ℕ) (code : FindingCode) (told : IsDriving n (all_wires n) m) (past : told_until n (all_wires n) - units < t) where
    abbrev r : ModuleRecord
    r = told.part

    there : module_at later m ≡ Some r
    there = same_module n later ok later_ok 0 goes.alike m ∙ told.stands

    states_equal : state later m (t + units - 1) ≡ state later m (t - 1)
    states_equal =
        let back : t + units - 1 ≡ t - 1 + units = omega (arith, past) in
        let alike = same_states n ok (all_wires n) whole later later_ok goes told.wire m told.port r told.has told.stands told.drives told.holds in
        alike (t + units - 1) ∙ ap (state n m) back
        ∙ state_for_ever n ok (all_wires n) whole units some few again told.wire m told.port r told.has told.stands told.drives told.holds (t - 1) (omega (arith, past)) ∙ sym (alike (t - 1))

    heard_equal : inputs_by later (level later) r (t + units) ≡ inputs_by later (level later) r t
    heard_equal =
        let alike = same_heard n ok (all_wires n) whole later later_ok goes told.wire m told.port r told.has told.stands told.drives told.holds in
        alike (t + units) ∙ heard_for_ever n ok (all_wires n) whole units some few again told.wire m told.port r told.has told.stands told.drives told.holds t (omega (arith, past)) ∙ sym (alike t)

    found_equal : has_code (found (built later r) (state later m (t + units - 1)) (inputs_by later (level later) r (t + units))) code
        ≡ has_code (found (built later r) (state later m (t - 1)) (inputs_by later (level later) r t)) code
    found_equal =
        ap (λ (s : Memory). has_code (found (built later r) s (inputs_by later (level later) r (t + units))) code) states_equal
        ∙ ap (λ x. has_code (found (built later r) (state later m (t - 1)) x) code) heard_equal

    found_by : (s : ℕ) → Rule later (Module (record { 0 = m })) s code → has_code (found (built later r) (state later m (s - 1)) (inputs_by later (level later) r s)) code ≡ true
    found_by s rule =
        let same : rule.0 ≡ r = same_Some {A = ModuleRecord} rule.0 r (sym rule.1 ∙ there) in
        subst (λ (k : ModuleRecord). has_code (found (built later k) (state later m (s - 1)) (inputs_by later (level later) k s)) code ≡ true) same rule.2

    module_later : Rule later (Module (record { 0 = m })) t code → Rule later (Module (record { 0 = m })) (t + units) code
    module_later rule = (r, there, found_equal ∙ found_by t rule)

    module_sooner : Rule later (Module (record { 0 = m })) (t + units) code → Rule later (Module (record { 0 = m })) t code
    module_sooner rule = (r, there, sym found_equal ∙ found_by (t + units) rule)

  -- ---- both

  rules_later : (place : Place) (t : ℕ) (code : FindingCode) → IsTold n (all_wires n) place → told_until n (all_wires n) - units < t → IsBelowHorizon later place (t + units)
      → Rule later place t code → Rule later place (t + units) code
  rules_later (Module m) t code told past below rule = module_later m.0 t code told past rule
  rules_later (Bundle b) t code told past below rule =
      let form = later_ok.bundles_ok b.0 rule.0 rule.1 in
      (rule.0, rule.1, rule_later rule.0 t past form.request.0 form.acknowledge.0 form.payload (below.1 rule.0 rule.1) code rule.2)

  rules_sooner : (place : Place) (t : ℕ) (code : FindingCode) → IsTold n (all_wires n) place → told_until n (all_wires n) - units < t → Rule later place (t + units) code → Rule later place t code
  rules_sooner (Module m) t code told past rule = module_sooner m.0 t code told past rule
  rules_sooner (Bundle b) t code told past rule =
      let form = later_ok.bundles_ok b.0 rule.0 rule.1 in
      (rule.0, rule.1, rule_sooner rule.0 t past form.request.0 form.acknowledge.0 form.payload code rule.2)

  below_horizon : (place : Place) (s : ℕ) → IsBelowHorizon later place s → s < later.horizon
  below_horizon (Module m) s below = below
  below_horizon (Bundle b) s below = below.0

pub findings_repeat_for_ever : FindingsRepeatForEver
findings_repeat_for_ever n later ok later_ok goes units some few again place t code told past below =
    let whole = all_whole n ok in
    let within = below_horizon n later ok later_ok whole goes units some few again place (t + units) below in (
      λ listed.
          (let f = (finds_by_rule later (record { time = t; place = place; code = code })).0 listed in
          (finds_by_rule later (record { time = t + units; place = place; code = code })).1 (omega (arith, f.0), within, rules_later n later ok later_ok whole goes units some few again place t code told past below f.2)),
      λ listed.
          (let f = (finds_by_rule later (record { time = t + units; place = place; code = code })).0 listed in
          (finds_by_rule later (record { time = t; place = place; code = code })).1 (omega (arith, past), omega (arith, within), rules_sooner n later ok later_ok whole goes units some few again place t code told past f.2)),
    )
