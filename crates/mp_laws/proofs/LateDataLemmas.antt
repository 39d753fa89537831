-- What late data come from.
use Rattle.std.proofs.Common.{◌≡◌, ℕ, ◌-◌, ◌<◌, ◌≤◌, ◌==◌, ◌||◌, ◌&&◌, ◌⊎◌, inl, inr, Bool, true, false, cond, List, [], ◌∷◌, length, map, filter, Option, Some, None, option_map, zero, suc, refl, ap, sym, subst, ◌∙◌, true≢false, arith, Contains, flat_map}
use Rattle.std.specs.List.{list_any, filter_map, cons_option, range_with_len}
use Rattle.std.proofs.lemmas.Bool.{lt-ltb}
use Rattle.std.proofs.lemmas.Option.{none-some, same_Some}
use Rattle.mp_modules.specs.Histories.{has_event}
use Rattle.mp_modules.specs.declared.kind.Kind.{Kind}
use Rattle.mp_records.specs.declared.bundle_record.BundleRecord.{BundleRecord}
use Rattle.mp_records.specs.declared.ports.Input.{Input}
use Rattle.mp_netlist.specs.Circuit.{Circuit, IsCircuit, bundle_at}
use Rattle.mp_model.specs.Waves.{level}
use Rattle.mp_model.proofs.MemberLemmas.{contains_cases, flat_map_contains, range_contains}
use Rattle.mp_questions.specs.declared.causes.wire_change.WireChange.{WireChange}
use Rattle.mp_questions.specs.declared.causes.input_event.InputEvent.{InputEvent}
use Rattle.mp_questions.specs.causes.Changes.{change_at, last_change}
use Rattle.mp_questions.specs.timing.Events.{last_event}
use Rattle.mp_questions.specs.causes.Causes.{DrivingPort, Outside, Start, Events, driving_port, hears, event_at, events_at, cause_by, cause_of}
use Rattle.mp_questions.specs.causes.Laws.{IsChange, Explains}
use Rattle.mp_questions.specs.late.Sources.{has_memory, sources, sources_by, leading}
use Rattle.mp_questions.specs.late.Lateness.{is_outside, is_excused, units_behind, late_units, late_by, late_in, late_at, all_late}
use Rattle.mp_questions.specs.late.Searching.{source_at}
use Rattle.mp_questions.specs.declared.late.late.Late.{Late}
use Rattle.mp_questions.proofs.lemmas.causes.EventLemmas.{hears_is, last_event_is}
use Rattle.mp_questions.proofs.lemmas.causes.ChainLemmas.{has_cause}
use Rattle.mp_questions.proofs.lemmas.late.LastLemmas.{event_is_last}
use Rattle.mp_questions.proofs.lemmas.timing.LawLemmas.{filter_map_contains}
use Rattle.mp_questions.proofs.lemmas.late.SourceLemmas.{Before, sources_before, sources_are, excused_step}
use Rattle.mp_laws.specs.LateData.{LeadsAreNoLater, StimuliAreNeverLate, OnlyStartsAreLateAlone}

-- ---- what leads to a change

before_at : (t : ℕ) (cs : List WireChange) (c : WireChange) → Before t cs → Contains cs c → c.time < t
before_at t [] c before h = absurd (omega (arith, h.1))
before_at t (d ∷ ds) c before h = by (contains_cases c d ds h) (before_at t ds c before.1)
  where
    by : (d ≡ c) ⊎ Contains ds c → (Contains ds c → c.time < t) → c.time < t
    by (inl same) later = subst (λ (x : WireChange). x.time < t) same before.0
    by (inr behind) later = later behind

no_later : (n : Circuit) → IsCircuit n → (steps : ℕ) (c d : WireChange) → Contains (leading n steps c) d → d.time ≤ c.time
no_later n ok zero c d h = by (contains_cases d c [] h)
  where
    by : (c ≡ d) ⊎ Contains [] d → d.time ≤ c.time
    by (inl same) = omega (arith, ap (λ (x : WireChange). x.time) same)
    by (inr none) = absurd (omega (arith, none.1))
no_later n ok (suc steps) c d h = by (contains_cases d c (flat_map (leading n steps) (sources n c)) h) (no_later n ok steps)
  where
    by : (c ≡ d) ⊎ Contains (flat_map (leading n steps) (sources n c)) d → ((e f : WireChange) → Contains (leading n steps e) f → f.time ≤ e.time) → d.time ≤ c.time
    by (inl same) further = omega (arith, ap (λ (x : WireChange). x.time) same)
    by (inr behind) further =
        let found = flat_map_contains (leading n steps) d (sources n c) behind in
        let source = before_at c.time (sources n c) found.0 (sources_before n ok c) found.1 in
        let rest = further found.0 d found.2 in
        omega (arith, source, rest)

pub leads_are_no_later : LeadsAreNoLater
leads_are_no_later n c d ok h = no_later n ok c.time c d h

-- ---- what holds of late data

-- the data of a bundle change at a time from 1 on, and have no excuse behind the last request before
record IsUnexcused (n : Circuit) (b : BundleRecord) (t : ℕ) : Type 0 where
  pub from : 1 ≤ t
  pub changes : has_event (level n b.payload.0) t ≡ true
  pub request : ℕ
  pub before : request < t
  pub none : is_excused n b.request.0 request (change_at n b.payload t) ≡ false

module _ (n : Circuit) (b : BundleRecord) (t : ℕ) (from : 1 ≤ t) where
  unexcused : (units : ℕ) → late_units n b t ≡ Some units → IsUnexcused n b t
  unexcused units is = by (has_event (level n b.payload.0) t) refl is
    where
      tested : (r : ℕ) → last_event (level n b.request.0) (t - 1) ≡ Some r → has_event (level n b.payload.0) t ≡ true → (e : Bool) → is_excused n b.request.0 r (change_at n b.payload t) ≡ e
          → cond e None (Some (t - r)) ≡ Some units → IsUnexcused n b t
      tested r at changes true excuse e = absurd (none-some units e)
      tested r at changes false excuse e =
          record { from = from; changes = changes; request = r; before = omega (arith, from, (last_event_is (level n b.request.0) (t - 1) r at).within); none = excuse }

      behind : (o : Option ℕ) → last_event (level n b.request.0) (t - 1) ≡ o → has_event (level n b.payload.0) t ≡ true → units_behind n b t o ≡ Some units → IsUnexcused n b t
      behind None at changes e = absurd (none-some units e)
      behind (Some r) at changes e = tested r at changes (is_excused n b.request.0 r (change_at n b.payload t)) refl e

      by : (event : Bool) → has_event (level n b.payload.0) t ≡ event → cond event (units_behind n b t (last_event (level n b.request.0) (t - 1))) None ≡ Some units → IsUnexcused n b t
      by true changes e = behind (last_event (level n b.request.0) (t - 1)) refl changes e
      by false changes e = absurd (none-some units e)

late_is : (n : Circuit) (l : Late) (b : BundleRecord) → Contains (all_late n) l → bundle_at n l.bundle.0 ≡ Some b → IsUnexcused n b l.time
late_is n l b found stands =
    let at_time = flat_map_contains (λ t. filter_map (late_at n t) (range_with_len 0 (length n.bundles))) l (range_with_len 1 (n.horizon - 1)) found in
    let t = at_time.0 in
    let from = (range_contains 1 (n.horizon - 1) t at_time.1).0 in
    let at_bundle = filter_map_contains (late_at n t) l (range_with_len 0 (length n.bundles)) at_time.2 in
    in_slot t at_bundle.0 from (bundle_at n at_bundle.0) refl at_bundle.2
  where
    made : (t k : ℕ) → 1 ≤ t → (c : BundleRecord) → bundle_at n k ≡ Some c → (o : Option ℕ) → late_units n c t ≡ o → option_map (late_by k t) o ≡ Some l → IsUnexcused n b l.time
    made t k from c at None units e = absurd (none-some l e)
    made t k from c at (Some v) units e =
        let is = same_Some {A = Late} (late_by k t v) l e in
        let time : t ≡ l.time = ap (λ (x : Late). x.time) is in
        let number : k ≡ l.bundle.0 = ap (λ (x : Late). x.bundle.0) is in
        let same : c ≡ b = same_Some {A = BundleRecord} c b (sym at ∙ ap (bundle_at n) number ∙ stands) in
        subst (IsUnexcused n b) time (subst (λ (x : BundleRecord). IsUnexcused n x t) same (unexcused n c t from v units))

    in_slot : (t k : ℕ) → 1 ≤ t → (slot : Option BundleRecord) → bundle_at n k ≡ slot → late_in n t k slot ≡ Some l → IsUnexcused n b l.time
    in_slot t k from None at e = absurd (none-some l e)
    in_slot t k from (Some c) at e = made t k from c at (late_units n c t) refl e

-- ---- what is set from outside

outside_excuses : (n : Circuit) → IsCircuit n → (w r : ℕ) (c : WireChange) → r < c.time → cause_of n c ≡ Outside → is_excused n w r c ≡ true
outside_excuses n ok w r c later outside =
    excused_step n ok w r c
    ∙ ap (λ b. ((c.wire.0 == w && c.time == r) || (b && is_outside (cause_of n c))) || list_any (is_excused n w r) (sources n c)) (lt-ltb r c.time later)
    ∙ ap (λ k. ((c.wire.0 == w && c.time == r) || (true && is_outside k)) || list_any (is_excused n w r) (sources n c)) outside
    ∙ ap (λ b. b || list_any (is_excused n w r) (sources n c)) (by (c.wire.0 == w && c.time == r))
  where
    by : (b : Bool) → (b || true) ≡ true
    by true = refl
    by false = refl

late_comes_from_module : (n : Circuit) → IsCircuit n → (b : BundleRecord) (t : ℕ) → IsUnexcused n b t → cause_of n (change_at n b.payload t) ≡ Outside → ⊥
late_comes_from_module n ok b t late outside =
    true≢false (sym (outside_excuses n ok b.request.0 late.request (change_at n b.payload t) late.before outside) ∙ late.none)

pub stimuli_are_never_late : StimuliAreNeverLate
stimuli_are_never_late n c ok late outside =
    late_comes_from_module n ok late.bundle late.late.time (late_is n late.late late.bundle late.found late.stands) (subst (λ (x : WireChange). cause_of n x ≡ Outside) late.change outside)

-- ---- what comes from nothing

module _ (n : Circuit) (ok : IsCircuit n) (kind : Kind) (u : ℕ) where
  -- an input that hears an event has a source
  has_source : (i : Input) → hears n u i ≡ true → (c : WireChange) × (source_at n kind u i ≡ Some c)
  has_source i has = by (has_memory kind) refl
    where
      last : last_change n i.wire (u - i.delay) ≡ Some (change_at n i.wire (u - i.delay))
      last = ap (option_map (change_at n i.wire)) (event_is_last (level n i.wire.0) (u - i.delay) (sym (hears_is n ok u i) ∙ has))

      by : (b : Bool) → has_memory kind ≡ b → (c : WireChange) × (source_at n kind u i ≡ Some c)
      by true keeps = (change_at n i.wire (u - i.delay), ap (λ b. cond b (last_change n i.wire (u - i.delay)) (cond (hears n u i) (Some (event_at n u i).change) None)) keeps ∙ last)
      by false forgets = (
        (event_at n u i).change,
        ap (λ b. cond b (last_change n i.wire (u - i.delay)) (cond (hears n u i) (Some (event_at n u i).change) None)) forgets
            ∙ ap (λ b. cond b (Some (event_at n u i).change) None) has,
      )

  no_source_no_event : (inputs : List Input) → filter_map (source_at n kind u) inputs ≡ [] → events_at n u inputs ≡ []
  no_source_no_event [] none = refl
  no_source_no_event (i ∷ is) none = by (hears n u i) refl (source_at n kind u i) refl (no_source_no_event is)
    where
      by : (b : Bool) → hears n u i ≡ b → (o : Option WireChange) → source_at n kind u i ≡ o → (filter_map (source_at n kind u) is ≡ [] → events_at n u is ≡ [])
          → map (event_at n u) (cond (hears n u i) (i ∷ filter (hears n u) is) (filter (hears n u) is)) ≡ []
      by true has (Some c) at rest = let no : ⊥ = (let e = sym (ap (λ o. cons_option o (filter_map (source_at n kind u) is)) at) ∙ none in cc) in absurd no
      by true has None at rest = let found = has_source i has in absurd (none-some found.0 (sym at ∙ found.1))
      by false has (Some c) at rest = let no : ⊥ = (let e = sym (ap (λ o. cons_option o (filter_map (source_at n kind u) is)) at) ∙ none in cc) in absurd no
      by false has None at rest =
          ap (λ b. map (event_at n u) (cond b (i ∷ filter (hears n u) is) (filter (hears n u) is))) has
          ∙ rest (sym (ap (λ o. cons_option o (filter_map (source_at n kind u) is)) at) ∙ none)

alone_is_start : (n : Circuit) → IsCircuit n → (c : WireChange) → IsChange n c → (cause_of n c ≡ Outside → ⊥) → sources n c ≡ [] → (g : DrivingPort) × (cause_of n c ≡ Start g)
alone_is_start n ok c change inside none = by (driving_port n c.wire.0) refl
  where
    tested : (g : DrivingPort) → driving_port n c.wire.0 ≡ Some g → (b : Bool) → (c.time == g.delay) ≡ b → (g : DrivingPort) × (cause_of n c ≡ Start g)
    tested g at true start =
        (g, ap (cause_by n c.time) at ∙ ap (λ b. cond b (Start g) (Events g (events_at n (c.time - g.delay) g.part.inputs))) start)
    tested g at false later =
        let is : cause_of n c ≡ Events g (events_at n (c.time - g.delay) g.part.inputs) =
        ap (cause_by n c.time) at ∙ ap (λ b. cond b (Start g) (Events g (events_at n (c.time - g.delay) g.part.inputs))) later in
        let told : Explains n c (Events g (events_at n (c.time - g.delay) g.part.inputs)) = subst (Explains n c) is (has_cause n ok c change) in
        let still : filter_map (source_at n g.part.kind (c.time - g.delay)) g.part.inputs ≡ [] =
        sym (sources_are n c.time g later) ∙ sym (ap (λ o. sources_by n c.time (cause_by n c.time o)) at) ∙ none in
        let empty = no_source_no_event n ok g.part.kind (c.time - g.delay) g.part.inputs still in
        absurd (omega (arith, told.1, ap (λ (es : List InputEvent). length es) empty))

    by : (o : Option DrivingPort) → driving_port n c.wire.0 ≡ o → (g : DrivingPort) × (cause_of n c ≡ Start g)
    by None at = absurd (inside (ap (cause_by n c.time) at))
    by (Some g) at = tested g at (c.time == g.delay) refl

pub only_starts_are_late_alone : OnlyStartsAreLateAlone
only_starts_are_late_alone n c ok late none =
    let here = late_is n late.late late.bundle late.found late.stands in
    let at = change_at n late.bundle.payload late.late.time in
    let change : IsChange n c = subst (IsChange n) (sym late.change) (record { differs = here.changes; level_is = refl }) in
    alone_is_start n ok c change (stimuli_are_never_late n c ok late) none
