-- A module that the simulation has as active is told to be so.
use Rattle.std.proofs.Common.{◌≡◌, ℕ, ◌+◌, ◌<◌, ◌≤◌, Bool, true, false, not, cond, List, [], ◌∷◌, All, Option, Some, None, length, nat_lt, refl, ap, sym, subst, ◌∙◌, arith, inl, inr, get_or-set_same, get_or-set_other}
use Rattle.std.specs.Prelude.{◌==◌, ◌&&◌, ◌||◌, ◌⊎◌, slice_set}
use mathlib.Core.Path.{fun_ext}
use Rattle.std.proofs.lemmas.Bool.{cases_Bool, cases_lt, eqb-true, eqb-false, or_cases, or_parts, or_right, true≢false}
use Rattle.std.proofs.lemmas.List.{length-set, get_or_default}
use Rattle.mp_records.specs.declared.ids.ModuleId.{ModuleId}
use Rattle.mp_records.specs.declared.ports.Output.{Output}
use Rattle.mp_records.specs.declared.module_record.ModuleRecord.{ModuleRecord}
use Rattle.mp_records.specs.NamedWires.{is_wire}
use Rattle.mp_netlist.specs.declared.driver.Driver.{Driver}
use Rattle.mp_netlist.specs.declared.driver.Driver.TheVariants.{Nothing, Stimulus, Port}
use Rattle.mp_netlist.specs.Circuit.{Circuit, IsCircuit, Drives, module_at}
use Rattle.mp_netlist.specs.Drivers.{driver, is_port}
use Rattle.mp_model.proofs.SlotLemmas.{slot_within, some_within}
use Rattle.mp_simulation.specs.bits.WholeRuns.{is_stimulus}
use Rattle.mp_kernel.specs.timers.TimerWheels.{never}
use Rattle.mp_kernel.specs.events.Adding.{listed}
use Rattle.mp_partition.specs.runs.Marks.{is_marked}
use Rattle.mp_partition.specs.runs.Outcomes.{Outcome}
use Rattle.mp_active.specs.agreement.Sources.{IsAsBefore, AreSources}
use Rattle.mp_simulation.specs.run.Stimuli.{left_of}
use Rattle.mp_active.specs.excerpt.Excerpts.{is_followed, ArePortsOn}
use Rattle.mp_active.specs.excerpt.Numberings.{Numbering}
use Rattle.mp_active.specs.excerpt.Showing.{Shows}
use Rattle.mp_active.specs.excerpt.Leaving.{is_port_of}
use Rattle.mp_active.specs.excerpt.Activating.{with_module}
use Rattle.mp_active.specs.declared.compare.numbers.Numbers.{Numbers}
use Rattle.mp_active.specs.declared.compare.wire_source.WireSource.{WireSource}
use Rattle.mp_active.specs.declared.compare.comparison.Comparison.{Comparison}
use Rattle.mp_active.specs.compare.Comparing.{source_at, asleep_at, HasCursors, IsComplete}
use Rattle.mp_active.specs.compare.Waking.{numbers_in, AreReadAsleep, AreSourcesOf, from_then, woken}
use Rattle.mp_redo.specs.declared.rerun.rerun.Rerun.{Rerun}
use Rattle.mp_redo.specs.rerun.Numbered.{ports_at, readers_asleep, AreCounted}
use Rattle.mp_redo.specs.rerun.Following.{AreToCome, is_tail, is_set_anew, AreTails}
use Rattle.mp_redo.specs.rerun.Reruns.{active_of, on_of, until_of, IsFollowed, IsRerunBy}
use Rattle.mp_redo.specs.rerun.Returning.{is_output, HasReturned, IsToldAwake}
use Rattle.mp_redo.proofs.lemmas.rerun.StayingLemmas.{same_wiring, numbered_kept, sources_long}
use Rattle.mp_active.proofs.lemmas.agreement.SourceLemmas.{output_stands}
use Rattle.mp_redo.proofs.lemmas.rerun.ReaderLemmas.{numbers_by_port, none_listed, readers_more, output_drives, outputs_are}
use Rattle.mp_redo.proofs.lemmas.rerun.ReturnLemmas.{ports_with}

-- ---- what is told of wires
woken_on : (outputs : List Output) (w : ℕ) (source : WireSource) → (woken outputs w source).is_on ≡ source.is_on
woken_on [] w source = refl
woken_on (o ∷ outputs) w source = by (woken_on outputs w source) (is_wire o.wire w)
  where
    by : (woken outputs w source).is_on ≡ source.is_on → (b : Bool) → (cond b (from_then never source) (woken outputs w source)).is_on ≡ source.is_on
    by rest true = refl
    by rest false = rest

woken_here : (outputs : List Output) (w : ℕ) (source : WireSource) → is_output outputs w ≡ true → (woken outputs w source).until ≡ never
woken_here [] w source is = absurd (true≢false (sym is))
woken_here (o ∷ outputs) w source is = by (woken_here outputs w source) (is_wire o.wire w) is
  where
    by : (is_output outputs w ≡ true → (woken outputs w source).until ≡ never) → (b : Bool) → (b || is_output outputs w) ≡ true → (cond b (from_then never source) (woken outputs w source)).until ≡ never
    by rest true is = refl
    by rest false is = rest is

woken_else : (outputs : List Output) (w : ℕ) (source : WireSource) → is_output outputs w ≡ false → woken outputs w source ≡ source
woken_else [] w source is = refl
woken_else (o ∷ outputs) w source is = by (woken_else outputs w source) (is_wire o.wire w) is
  where
    by : (is_output outputs w ≡ false → woken outputs w source ≡ source) → (b : Bool) → (b || is_output outputs w) ≡ false → cond b (from_then never source) (woken outputs w source) ≡ source
    by rest true is = absurd (true≢false is)
    by rest false is = rest is

-- ---- what is marked
pub marked_set : (marks : List Bool) (m k : ℕ) → m < length marks → is_marked (slice_set marks m true) k ≡ (is_marked marks k || (k == m))
marked_set marks m k low = elim (cases_Bool (k == m)) as (λ _. is_marked (slice_set marks m true) k ≡ (is_marked marks k || (k == m))) [
  | inl here ↦ ap (is_marked (slice_set marks m true)) (eqb-true k m here) ∙ get_or-set_same marks m true false low ∙ sym (or_right (is_marked marks k) (k == m) here)
  | inr other ↦ get_or-set_other marks m k true false (eqb-false k m other) ∙ right (is_marked marks k) ∙ ap (λ b. is_marked marks k || b) (sym other)
]
  where
    right : (b : Bool) → b ≡ (b || false)
    right true = refl
    right false = refl

-- what is compared after a module is woken
pub record HasBeenWoken (run : Outcome) (ports : List (Option ℕ)) (outputs : List Output) (t : ℕ) (c d : Comparison) : Type 0 where
  pub kept : d ≡ record c { sources = d.sources; asleep = d.asleep; timers = d.timers; places = d.places }
  pub cursors : HasCursors run t [] d
  pub complete : IsComplete run t c → IsComplete run t d
  pub asleep : (x : ℕ) → asleep_at d x + listed x (numbers_in ports) ≡ asleep_at c x
  pub sources : (w : ℕ) → source_at d w ≡ woken outputs w (source_at c w)

module _ (old new : Circuit) (run : Outcome) (ok : IsCircuit new) (numbering : Numbering) (since : ℕ → ℕ) (t m : ℕ) (r : ModuleRecord) (s : Rerun) (at : module_at new m ≡ Some r)
    (ret : HasReturned old new run numbering since t m s) where
  inside : m < length new.modules
  inside = slot_within new.modules m r at

  same_ports : numbers_in (ports_at s.inputs.items m) ≡ numbering.inputs m
  same_ports = numbers_by_port (numbering.inputs m) (ports_at s.inputs.items m) (ret.followed.numbered.by_port m inside)

  readers : (x : ℕ) → readers_asleep (active_of s) numbering x 0 new.modules ≡ readers_asleep (with_module (active_of s) m) numbering x 0 new.modules + listed x (numbering.inputs m)
  readers x = readers_more (active_of s) numbering x m 0 m r new.modules (omega arith) at ret.asleep

  within : All (λ x. x < length s.comparison.numbers.wires.items) (numbering.inputs m)
  within = subst (λ k. All (λ x. x < k) (numbering.inputs m)) (sym ret.followed.numbered.count) (ret.followed.numbered.wired.low m)

  -- it can be woken
  pub read_asleep : AreReadAsleep (numbers_in (ports_at s.inputs.items m)) s.comparison
  read_asleep = subst (λ (xs : List ℕ). AreReadAsleep xs s.comparison) (sym same_ports) (record {
    within = within;
    counted = λ x. elim (cases_lt x (length s.comparison.numbers.wires.items)) as (λ _. listed x (numbering.inputs m) ≤ asleep_at s.comparison x) [
      | inl low ↦ let count = ret.followed.counted x low in let more = readers x in omega (arith, count, more)
      | inr past ↦ let none = none_listed (length s.comparison.numbers.wires.items) x (numbering.inputs m) within past in omega (arith, none)
    ];
  })

  pub its_sources : AreSourcesOf r.outputs s.comparison
  its_sources = λ k d low.
      let delay = (ok.modules_ok m r at).delays k d low in
      let some = delay.0 in
      let short = delay.1 in
      record {
        late = omega (arith, some);
        short = omega (arith, short);
        within = λ w is.
            let drives : Drives new m k w = record { part = r; stands = at; output = ap (λ (o : Output). o.wire) (get_or_default r.outputs k (record { wire = None; delay = 1 }) d low) ∙ is } in
            let stands = some_within new.wires w (output_stands new ok m k w drives) in
            let same = ret.followed.numbered.wires in
            omega (arith, stands, same);
      }

  pub has_row : m < length s.inputs.items
  has_row = let same = ret.followed.numbered.modules in let low = inside in omega (arith, same, low)

  pub has_mark : m < length s.activity.active.items
  has_mark = let same = ret.followed.modules in let low = inside in omega (arith, same, low)

  -- ---- after that
  module _ (s4 : Rerun) (woke : HasBeenWoken run (ports_at s.inputs.items m) r.outputs t s.comparison s4.comparison)
      (kept : s4 ≡ record s { comparison = s4.comparison; activity = record (s.activity) { active = s4.activity.active; joined = s4.activity.joined } })
      (marks : s4.activity.active.items ≡ slice_set s.activity.active.items m true) where
    abbrev made : Rerun
    made = record s { comparison = s4.comparison; activity = record (s.activity) { active = s4.activity.active; joined = s4.activity.joined } }

    abbrev d : Comparison
    d = s4.comparison

    same_numbers : d.numbers ≡ s.comparison.numbers
    same_numbers = ap (λ (x : Comparison). x.numbers) woke.kept

    now_active : (k : ℕ) → active_of made k ≡ (active_of s k || (k == m))
    now_active k = ap (λ (xs : List Bool). is_marked xs k) marks ∙ marked_set s.activity.active.items m k has_mark

    actives : active_of made ≡ with_module (active_of s) m
    actives = fun_ext now_active

    ons : on_of made ≡ on_of s
    ons = fun_ext (λ w. ap (λ (x : WireSource). x.is_on) (woke.sources w) ∙ woken_on r.outputs w (source_at s.comparison w))

    own_until : (w : ℕ) → is_output r.outputs w ≡ true → until_of made w ≡ never
    own_until w is = ap (λ (x : WireSource). x.until) (woke.sources w) ∙ woken_here r.outputs w (source_at s.comparison w) is

    else_until : (w : ℕ) → is_output r.outputs w ≡ false → until_of made w ≡ until_of s w
    else_until w is = ap (λ (x : WireSource). x.until) (woke.sources w ∙ woken_else r.outputs w (source_at s.comparison w) is)

    port_output : (w p : ℕ) (k : ModuleId) → driver new w ≡ Port k p → is_output r.outputs w ≡ (k.0 == m)
    port_output w p k drives = outputs_are new ok m r at w ∙ ap (is_port_of m) drives

    portless_output : (w : ℕ) → is_port (driver new w) ≡ false → is_output r.outputs w ≡ false
    portless_output w portless = outputs_are new ok m r at w ∙ by (driver new w) portless
      where
        by : (d : Driver) → is_port d ≡ false → is_port_of m d ≡ false
        by Nothing e = refl
        by Stimulus e = refl
        by (Port k p) e = absurd (true≢false e)

    sources_now : AreSources old new (with_module (active_of s) m) since (until_of made)
    sources_now = record {
      awake = λ w p k drives awake. elim (cases_Bool (k.0 == m)) as (λ _. until_of made w ≡ never) [
        | inl own ↦ own_until w (port_output w p k drives ∙ own)
        | inr other ↦
            else_until w (port_output w p k drives ∙ other)
            ∙ ret.followed.sources.awake w p k drives (elim (or_cases (active_of s k.0) (k.0 == m) awake) as (λ _. active_of s k.0 ≡ true) [ inl was ↦ was | inr own ↦ absurd (true≢false (sym own ∙ other)) ])
      ];
      asleep = λ w p k part drives sleeps there.
          let both = or_parts (active_of s k.0) (k.0 == m) sleeps in
          else_until w (port_output w p k drives ∙ both.1) ∙ ret.followed.sources.asleep w p k part drives both.0 there;
      others = λ w portless.
          subst (λ u. (u ≡ never) ⊎ ((u ≡ 0) × IsAsBefore old new w)) (sym (else_until w (portless_output w portless))) (ret.followed.sources.others w portless);
    }

    same_tail : (w u : ℕ) → is_tail new (with_module (active_of s) m) (until_of s) w u ≡ is_tail new (with_module (active_of s) m) (until_of made) w u
    same_tail w u = elim (cases_Bool (is_output r.outputs w)) as (λ _. is_tail new (with_module (active_of s) m) (until_of s) w u ≡ is_tail new (with_module (active_of s) m) (until_of made) w u) [
      | inl own ↦
          let never_followed = not_followed (driver new w) (sym (outputs_are new ok m r at w) ∙ own) in
          ap (λ b. b && nat_lt u (until_of s w)) never_followed ∙ sym (ap (λ b. b && nat_lt u (until_of made w)) never_followed)
      | inr other ↦ ap (λ v. is_followed (with_module (active_of s) m) (driver new w) && nat_lt u v) (sym (else_until w other))
    ]
      where
        not_followed : (d : Driver) → is_port_of m d ≡ true → is_followed (with_module (active_of s) m) d ≡ false
        not_followed Nothing e = absurd (true≢false (sym e))
        not_followed Stimulus e = absurd (true≢false (sym e))
        not_followed (Port k p) e = ap not (or_right (active_of s k.0) (k.0 == m) e)

    same_set : (w u : ℕ) → is_set_anew new (until_of s) w u ≡ is_set_anew new (until_of made) w u
    same_set w u = elim (cases_Bool (is_output r.outputs w)) as (λ _. is_set_anew new (until_of s) w u ≡ is_set_anew new (until_of made) w u) [
      | inl own ↦
          let no_stimulus = not_stimulus (driver new w) (sym (outputs_are new ok m r at w) ∙ own) in
          ap (λ b. b && (until_of s w == never)) no_stimulus ∙ sym (ap (λ b. b && (until_of made w == never)) no_stimulus)
      | inr other ↦ ap (λ v. is_stimulus (driver new w) && (v == never)) (sym (else_until w other))
    ]
      where
        not_stimulus : (d : Driver) → is_port_of m d ≡ true → is_stimulus d ≡ false
        not_stimulus Nothing e = refl
        not_stimulus Stimulus e = absurd (true≢false (sym e))
        not_stimulus (Port k p) e = refl

    counted_now : AreCounted new (with_module (active_of s) m) numbering d
    counted_now x low =
        let was = ret.followed.counted x (subst (λ (ns : Numbers). x < length ns.wires.items) same_numbers low) in
        let more = readers x in
        let less : asleep_at d x + listed x (numbering.inputs m) ≡ asleep_at s.comparison x = subst (λ (xs : List ℕ). asleep_at d x + listed x xs ≡ asleep_at s.comparison x) same_ports (woke.asleep x) in
        omega (arith, was, more, less)

    lit_now : (w : ℕ) → 0 < until_of made w → on_of s w ≡ true
    lit_now w some = elim (cases_Bool (is_output r.outputs w)) as (λ _. on_of s w ≡ true) [
      | inl own ↦ let drives = output_drives new ok m r at w own in ret.lit.driven drives.0 w drives.1
      | inr other ↦ ret.followed.lit w (subst (λ u. 0 < u) (else_until w other) some)
    ]

    followed_now : IsFollowed old new run numbering since t made
    followed_now = record {
      numbered = numbered_kept new numbering s.inputs.items s.comparison d s.simulation s.simulation same_numbers (sources_long s.comparison d same_numbers ret.followed.cursors.shape woke.cursors.shape)
          (same_wiring s.simulation) ret.followed.numbered;
      modules = ap (λ (xs : List Bool). length xs) marks ∙ length-set s.activity.active.items m true ∙ ret.followed.modules;
      seats = ret.followed.seats;
      ports = subst (λ (active : ℕ → Bool). ArePortsOn new active (on_of made)) (sym actives)
          (subst (ArePortsOn new (with_module (active_of s) m)) (sym ons) (ports_with new (active_of s) (on_of s) m ret.followed.ports ret.lit));
      lit = λ w some. ap (λ (on : ℕ → Bool). on w) ons ∙ lit_now w some;
      sleeping = λ k part there sleeps. ret.followed.sleeping k part there (or_parts (active_of s k) (k == m) (sym (now_active k) ∙ sleeps)).0;
      sources = subst (λ (active : ℕ → Bool). AreSources old new active since (until_of made)) (sym actives) sources_now;
      cursors = woke.cursors;
      complete = woke.complete ret.followed.complete;
      counted = subst (λ (active : ℕ → Bool). AreCounted new active numbering d) (sym actives) counted_now;
      pending_outputs = subst (λ (active : ℕ → Bool). AreTails new active (until_of made) t (left_of s.pending_outputs)) (sym actives)
          (subst (λ (comes : ℕ → ℕ → Bool). AreToCome new comes t (left_of s.pending_outputs)) (fun_ext (λ w. fun_ext (same_tail w))) ret.pending_outputs);
      stimuli = subst (λ (comes : ℕ → ℕ → Bool). AreToCome new comes t (left_of s.stimuli)) (fun_ext (λ w. fun_ext (same_set w))) ret.followed.stimuli;
    }

    by_now : IsRerunBy old new run numbering since t made
    by_now = record {
      shows = subst (λ (active : ℕ → Bool). Shows new active (on_of made) numbering t s.simulation) (sym actives)
          (subst (λ (on : ℕ → Bool). Shows new (with_module (active_of s) m) on numbering t s.simulation) (sym ons) ret.shows);
      followed = followed_now;
    }

    pub awake_by : IsRerunBy old new run numbering since t s4
    awake_by = subst (λ (x : Rerun). IsRerunBy old new run numbering since t x) (sym kept) by_now

    pub told_awake : IsToldAwake m s s4
    told_awake = record {
      kept = kept;
      seen = ap (λ (x : Comparison). x.seen) woke.kept;
      active = λ k. ap (λ (x : Rerun). active_of x k) kept ∙ now_active k;
    }
