-- Modules fall asleep one after the other.
use Rattle.std.proofs.Common.{◌≡◌, ◌≢◌, ℕ, ◌+◌, ◌-◌, ◌<◌, ◌≤◌, Bool, true, false, not, cond, List, [], All, Option, Some, None, length, refl, ap, sym, subst, ◌∙◌, arith, inl, inr}
use Rattle.std.specs.Prelude.{◌&&◌, ◌||◌, ◌==◌}
use Rattle.std.specs.List.{Contains}
use mathlib.Core.Path.{fun_ext}
use Rattle.std.proofs.lemmas.Bool.{cases_eq, cases_lt, both_ways, and_from, eq-eqb, ne_eqb}
use Rattle.std.proofs.lemmas.List.{get_or-set_same, get_or-set_other, get_or_past, length-set}
use Rattle.std.proofs.lemmas.Option.{none-some}
use Rattle.mp_records.specs.declared.ids.ModuleId.{ModuleId}
use Rattle.mp_records.specs.declared.ids.WireId.{WireId}
use Rattle.mp_records.specs.declared.ports.Output.{Output}
use Rattle.mp_records.specs.declared.module_record.ModuleRecord.{ModuleRecord}
use Rattle.mp_records.specs.Outputs.{output_at, delay_of}
use Rattle.mp_netlist.specs.Circuit.{Circuit, IsCircuit, Drives, module_at}
use Rattle.mp_netlist.specs.Drivers.{driver, is_port}
use Rattle.mp_netlist.proofs.DriverLemmas.{finds_only_ports}
use Rattle.mp_kernel.specs.events.Adding.{listed}
use Rattle.mp_partition.specs.runs.Marks.{is_marked}
use Rattle.mp_partition.specs.runs.Outcomes.{Outcome}
use Rattle.mp_active.specs.agreement.Sources.{AreSources}
use Rattle.mp_active.specs.declared.compare.comparison.Comparison.{Comparison}
use Rattle.mp_active.specs.declared.compare.wire_source.WireSource.{WireSource}
use Rattle.mp_active.specs.compare.Comparing.{source_at, HasCursors, IsComplete}
use Rattle.mp_active.specs.compare.Waking.{numbers_in}
use Rattle.mp_depend.specs.declared.recording.rerun_recorder.RerunRecorder.{RerunRecorder}
use Rattle.mp_depend.specs.recording.Recorders.{IsRecorder}
use Rattle.mp_active.specs.steps.Sleeping.{ArePutToSleep}
use Rattle.mp_active.proofs.lemmas.steps.AsleepLemmas.{none_asleep, puts_more_to_sleep}
use Rattle.mp_active.specs.excerpt.Numberings.{Numbering}
use Rattle.mp_redo.specs.declared.rerun.rerun.Rerun.{Rerun}
use Rattle.mp_redo.specs.rerun.Leaving.{HasFallenAsleep}
use Rattle.mp_redo.specs.rerun.Numbered.{ports_at, readers_asleep, AreCounted}
use Rattle.mp_redo.specs.rerun.Reruns.{IsRerunBy, active_of, on_of, until_of}
use Rattle.mp_redo.proofs.lemmas.rerun.CountLemmas.{readers_more}
use Rattle.mp_redo.proofs.lemmas.rerun.SourceLemmas.{slept_else, slept_on, sources_fall, lit_fall}
use Rattle.mp_redo.proofs.lemmas.rerun.ReaderLemmas.{numbers_by_port}

-- it was active, and isn't
abbrev pub has_left : Rerun → Rerun → ℕ → Bool
has_left s now m = active_of s m && not (active_of now m)

abbrev pub since_then : (ℕ → ℕ) → ℕ → Rerun → Rerun → ℕ → ℕ
since_then since time s now m = cond (has_left s now m) time (since m)

-- some of these modules have fallen asleep before a time, none of which has an output with a longer delay than so many units; what the wheels
-- have of their wires is still there
pub record AreFalling (old new : Circuit) (run : Outcome) (numbering : Numbering) (since : ℕ → ℕ) (time units : ℕ) (leaving : List ModuleId) (s now : Rerun) : Type 0 where
  pub kept : now ≡ record s { simulation = now.simulation; comparison = now.comparison; activity = record (s.activity) { active = now.activity.active }; recorder = now.recorder }
  pub compared : now.comparison ≡ record (s.comparison) {
    sources = now.comparison.sources;
    asleep = now.comparison.asleep;
    timers = now.comparison.timers;
    places = now.comparison.places;
  }
  pub modules : length now.activity.active.items ≡ length new.modules
  pub fewer : (m : ℕ) → active_of now m ≡ true → active_of s m ≡ true
  pub only : (m : ℕ) → has_left s now m ≡ true → Contains leaving (record { 0 = m })
  pub seats : ArePutToSleep (has_left s now) s.simulation now.simulation
  pub cursors : HasCursors run (time - 1) [] now.comparison
  pub complete : IsComplete run (time - 1) now.comparison
  pub counted : AreCounted new (active_of now) numbering now.comparison
  pub sources : AreSources old new (active_of now) (since_then since time s now) (until_of now)
  pub others : (w : ℕ) → is_port (driver new w) ≡ false → until_of now w ≡ until_of s w
  pub on : (w : ℕ) → on_of now w ≡ on_of s w
  pub lit : (w : ℕ) → 0 < until_of now w → on_of now w ≡ true
  pub room : (m p w : ℕ) (r : ModuleRecord) → has_left s now m ≡ true → module_at new m ≡ Some r → Drives new m p w → delay_of r p ≤ units
  pub recorder : IsRecorder old new run (λ m. time) time (active_of now) now.recorder

not_left : (b : Bool) → (b && not b) ≡ false
not_left true = refl
not_left false = refl

or_none : (b : Bool) → b ≡ (b || false)
or_none true = refl
or_none false = refl

or_more : (b : Bool) → true ≡ (b || true)
or_more true = refl
or_more false = refl

-- before the first
pub falling_begins : (old new : Circuit) (run : Outcome) (numbering : Numbering) (since : ℕ → ℕ) (time : ℕ) (leaving : List ModuleId) (s : Rerun) → IsRerunBy old new run numbering since (time - 1) s
    → IsRecorder old new run (λ m. time) time (active_of s) s.recorder → AreFalling old new run numbering since time 0 leaving s s
falling_begins old new run numbering since time leaving s is recorder = record {
  kept = refl;
  compared = refl;
  modules = is.followed.modules;
  fewer = λ m on. on;
  only = λ m gone. absurd (both_ways (has_left s s m) (not_left (active_of s m)) gone);
  seats = subst (λ (gone : ℕ → Bool). ArePutToSleep gone s.simulation s.simulation) (fun_ext (λ (m : ℕ). sym (not_left (active_of s m)))) (none_asleep s.simulation);
  cursors = is.followed.cursors;
  complete = is.followed.complete;
  counted = is.followed.counted;
  sources = subst (λ (first : ℕ → ℕ). AreSources old new (active_of s) first (until_of s)) (fun_ext (λ (m : ℕ). sym (ap (λ (b : Bool). cond b time (since m)) (not_left (active_of s m))))) is.followed.sources;
  others = λ w port. refl;
  on = λ w. refl;
  lit = is.followed.lit;
  room = λ m p w r gone. absurd (both_ways (has_left s s m) (not_left (active_of s m)) gone);
  recorder = recorder;
}

-- one more
module _ (old new : Circuit) (ok : IsCircuit new) (run : Outcome) (numbering : Numbering) (since : ℕ → ℕ) (time units more m : ℕ) (leaving : List ModuleId) (s now next : Rerun) (recorder : RerunRecorder) (r : ModuleRecord)
    (some : 0 < time) (is : IsRerunBy old new run numbering since (time - 1) s) (are : AreFalling old new run numbering since time units leaving s now)
    (at : module_at new m ≡ Some r) (within : m < length new.modules) (awake : active_of now m ≡ true) (leaves : Contains leaving (record { 0 = m }))
    (falls : HasFallenAsleep run m time r now next) (least : units ≤ more) (longest : All (λ (o : Output). o.delay ≤ more) r.outputs) where
  pub off : active_of next m ≡ false
  off =
      let long = are.modules in
      ap (λ (marks : List Bool). is_marked marks m) falls.active ∙ get_or-set_same now.activity.active.items m false false (omega (arith, within, long))

  pub other_active : (q : ℕ) → q ≢ m → active_of next q ≡ active_of now q
  other_active q other = ap (λ (marks : List Bool). is_marked marks q) falls.active ∙ get_or-set_other now.activity.active.items m q false false other

  was : active_of s m ≡ true
  was = are.fewer m awake

  left_here : has_left s next m ≡ true
  left_here = and_from (active_of s m) (not (active_of next m)) was (ap not off)

  left_there : (q : ℕ) → q ≢ m → has_left s next q ≡ has_left s now q
  left_there q other = ap (λ (b : Bool). active_of s q && not b) (other_active q other)

  left_more : (q : ℕ) → (has_left s now q || (q == m)) ≡ has_left s next q
  left_more q = elim (cases_eq q m) as (λ _. (has_left s now q || (q == m)) ≡ has_left s next q) [
    | inl same ↦ ap (λ (b : Bool). has_left s now q || b) (eq-eqb q m same) ∙ sym (or_more (has_left s now q)) ∙ sym (ap (has_left s next) same ∙ left_here)
    | inr other ↦ ap (λ (b : Bool). has_left s now q || b) (ne_eqb q m other) ∙ sym (or_none (has_left s now q)) ∙ sym (left_there q other)
  ]

  same_numbers : next.comparison.numbers ≡ now.comparison.numbers
  same_numbers = ap (λ (c : Comparison). c.numbers) falls.compared

  same_inputs : now.inputs.items ≡ s.inputs.items
  same_inputs = ap (λ (x : Rerun). x.inputs.items) are.kept

  reads : numbers_in (ports_at now.inputs.items m) ≡ numbering.inputs m
  reads = ap (λ (inputs : List (List (Option ℕ))). numbers_in (ports_at inputs m)) same_inputs ∙ numbers_by_port (numbering.inputs m) (ports_at s.inputs.items m) (is.followed.numbered.by_port m within)

  fewer : (q : ℕ) → active_of next q ≡ true → active_of s q ≡ true
  fewer q on = elim (cases_eq q m) as (λ _. active_of s q ≡ true) [
    | inl same ↦ let no : ⊥ = both_ways (active_of next m) off (sym (ap (active_of next) same) ∙ on) in absurd no
    | inr other ↦ are.fewer q (sym (other_active q other) ∙ on)
  ]

  only : (q : ℕ) → has_left s next q ≡ true → Contains leaving (record { 0 = q })
  only q gone = elim (cases_eq q m) as (λ _. Contains leaving (record { 0 = q })) [
    | inl same ↦ subst (λ (k : ℕ). Contains leaving (record { 0 = k })) (sym same) leaves
    | inr other ↦ are.only q (sym (left_there q other) ∙ gone)
  ]

  counted : AreCounted new (active_of next) numbering next.comparison
  counted x low =
      falls.asleep x
      ∙ ap (λ k. k + listed x (numbers_in (ports_at now.inputs.items m))) (are.counted x (subst (λ n. x < length n.wires.items) same_numbers low))
      ∙ ap (λ (xs : List ℕ). readers_asleep (active_of now) numbering x 0 new.modules + listed x xs) reads
      ∙ sym (readers_more (active_of now) (active_of next) numbering x m r awake off other_active 0 m new.modules (omega arith) at)

  room : (q p w : ℕ) (part : ModuleRecord) → has_left s next q ≡ true → module_at new q ≡ Some part → Drives new q p w → delay_of part p ≤ more
  room q p w part gone there drives = elim (cases_eq q m) as (λ _. delay_of part p ≤ more) [
    | inl same ↦
        let one : Some part ≡ Some r = sym there ∙ ap (module_at new) same ∙ at in
        let is_part : part ≡ r = cc in
        let two : Some drives.part ≡ Some r = sym drives.stands ∙ ap (module_at new) same ∙ at in
        let drives_part : drives.part ≡ r = cc in
        let output : (output_at r p).wire ≡ Some (record { 0 = w }) = ap (λ (x : ModuleRecord). (output_at x p).wire) (sym drives_part) ∙ drives.output in
        subst (λ (x : ModuleRecord). delay_of x p ≤ more) (sym is_part) (delay_low p w output)
    | inr other ↦ let low = are.room q p w part (sym (left_there q other) ∙ gone) there drives in omega (arith, low, least)
  ]
    where
      delay_low : (p w : ℕ) → (output_at r p).wire ≡ Some (record { 0 = w }) → delay_of r p ≤ more
      delay_low p w output = elim (cases_lt p (length r.outputs)) as (λ _. delay_of r p ≤ more) [
        | inl low ↦ longest p (record { wire = None; delay = 1 }) low
        | inr past ↦
            let none : (output_at r p).wire ≡ None = ap (λ (o : Output). o.wire) (get_or_past r.outputs p (record { wire = None; delay = 1 }) past) in
            let wire : WireId = record { 0 = w } in
            absurd (none-some wire (sym none ∙ output))
      ]

  -- the sources
  others : (w : ℕ) → is_port (driver new w) ≡ false → until_of next w ≡ until_of s w
  others w port =
      ap (λ (x : WireSource). x.until) (falls.sources w ∙ slept_else new ok m r at time w (source_at now.comparison w) (λ p its. both_ways (is_port (driver new w)) port (ap is_port its)))
      ∙ are.others w port

  on : (w : ℕ) → on_of next w ≡ on_of s w
  on w = ap (λ (x : WireSource). x.is_on) (falls.sources w) ∙ slept_on new ok m r at time w (source_at now.comparison w) ∙ are.on w

  lit : (w : ℕ) → 0 < until_of next w → on_of next w ≡ true
  lit w later = elim (lit_fall new ok m r at time w (source_at now.comparison w)) as (λ _. on_of next w ≡ true) [
    | inl same ↦ ap (λ (x : WireSource). x.is_on) (falls.sources w ∙ same) ∙ are.lit w (subst (λ (k : ℕ). 0 < k) (ap (λ (x : WireSource). x.until) (falls.sources w ∙ same)) later)
    | inr its ↦ on w ∙ is.followed.ports.driven m its.0 w was (finds_only_ports new w its.0 (record { 0 = m }) its.1)
  ]

  pub falling_more : IsRecorder old new run (λ k. time) time (active_of next) recorder → AreFalling old new run numbering since time more leaving s (record next { recorder = recorder })
  falling_more told = record {
    kept =
        ap (λ (x : Rerun). (let y : Rerun = record x { recorder = recorder } in y)) falls.kept
        ∙ ap (λ (x : Rerun). (let y : Rerun = record x { simulation = next.simulation; comparison = next.comparison; activity = record (x.activity) { active = next.activity.active }; recorder = recorder } in y)) are.kept;
    compared =
        falls.compared
        ∙ ap (λ (x : Comparison). (let y : Comparison = record x { sources = next.comparison.sources; asleep = next.comparison.asleep; timers = next.comparison.timers; places = next.comparison.places } in y)) are.compared;
    modules = ap length falls.active ∙ length-set now.activity.active.items m false ∙ are.modules;
    fewer = fewer;
    only = only;
    seats = subst (λ (gone : ℕ → Bool). ArePutToSleep gone s.simulation next.simulation) (fun_ext left_more)
        (puts_more_to_sleep (has_left s now) m s.simulation now.simulation next.simulation (let places = is.shows.bits.places in omega (arith, within, places)) (let long = is.shows.modules.long in omega (arith, within, long)) are.seats falls.place);
    cursors = falls.cursors;
    complete = falls.complete are.complete;
    counted = counted;
    sources = sources_fall old new ok (active_of now) (active_of next) (since_then since time s now) (since_then since time s next) (source_at now.comparison) (source_at next.comparison) time m r some at off other_active
        (ap (λ (b : Bool). cond b time (since m)) left_here) (λ q other. ap (λ (b : Bool). cond b time (since q)) (left_there q other)) falls.sources are.sources;
    others = others;
    on = on;
    lit = lit;
    room = room;
    recorder = told;
  }
