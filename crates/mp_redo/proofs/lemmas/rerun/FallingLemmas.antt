-- A module falls asleep, if it still is active.
use Rattle.std.proofs.Common.{◌≡◌, ℕ, ◌+◌, ◌-◌, ◌*◌, ◌<◌, ◌≤◌, ◌^◌, Bool, true, false, List, All, Option, Some, None, IsSome, is_some, length, slice_index_or, refl, ap, sym, subst, ◌∙◌, arith, inl, inr}
use Rattle.std.specs.Prelude.{IfSome}
use Rattle.std.specs.List.{Contains}
use Rattle.std.proofs.lemmas.Bool.{cases_eq, cases_lt}
use Rattle.std.proofs.lemmas.List.{get_or-set_same, get_or-set_other, get_or_past, get_or_default}
use Rattle.std.proofs.lemmas.Option.{none-some}
use Rattle.mp_modules.specs.Kinds.{output_width}
use Rattle.mp_records.specs.declared.ids.ModuleId.{ModuleId}
use Rattle.mp_records.specs.declared.ids.WireId.{WireId}
use Rattle.mp_records.specs.declared.ports.Output.{Output}
use Rattle.mp_records.specs.declared.module_record.ModuleRecord.{ModuleRecord}
use Rattle.mp_records.specs.Outputs.{output_at}
use Rattle.mp_netlist.specs.Circuit.{Circuit, IsCircuit, HasWidth, wire_at, module_at, module_width}
use Rattle.mp_netlist.proofs.DriverLemmas.{finds_ports}
use Rattle.mp_netlist.proofs.LimitLemmas.{horizon_within, modules_within}
use Rattle.mp_model.proofs.SlotLemmas.{slot_within, some_within}
use Rattle.mp_kernel.specs.events.Adding.{listed}
use Rattle.mp_partition.specs.runs.Checkpoints.{IsBorder}
use Rattle.mp_partition.specs.runs.Marks.{is_marked}
use Rattle.mp_partition.specs.runs.Outcomes.{Outcome}
use Rattle.mp_active.specs.declared.compare.comparison.Comparison.{Comparison}
use Rattle.mp_active.specs.declared.compare.numbers.Numbers.{Numbers}
use Rattle.mp_active.specs.compare.Comparing.{asleep_at}
use Rattle.mp_active.specs.compare.Waking.{numbers_in, AreSourcesOf, HaveOwnLevels}
use Rattle.mp_depend.specs.declared.recording.rerun_recorder.RerunRecorder.{RerunRecorder}
use Rattle.mp_depend.specs.recording.Recorders.{IsRecorder}
use Rattle.mp_depend.specs.recording.Live.{LeavesAt}
use Rattle.mp_active.specs.excerpt.Numberings.{Numbering}
use Rattle.mp_redo.specs.declared.rerun.rerun.Rerun.{Rerun}
use Rattle.mp_redo.specs.rerun.Leaving.{CanFallAsleep, HasGone, HasLeftOne}
use Rattle.mp_redo.specs.rerun.Numbered.{ports_at, AreNumbered}
use Rattle.mp_redo.specs.rerun.Reruns.{IsRerunBy, active_of}
use Rattle.mp_redo.proofs.lemmas.rerun.CountLemmas.{read_few, readers_few}
use Rattle.mp_redo.proofs.lemmas.rerun.KeepingLemmas.{border_window}
use Rattle.mp_redo.proofs.lemmas.rerun.FallLemmas.{AreFalling, falling_more}
use Rattle.mp_redo.proofs.lemmas.rerun.ReaderLemmas.{numbers_by_port}

-- with more room
falling_wider : (old new : Circuit) (run : Outcome) (numbering : Numbering) (since : ℕ → ℕ) (time units more : ℕ) (leaving : List ModuleId) (s now : Rerun) → units ≤ more
    → AreFalling old new run numbering since time units leaving s now → AreFalling old new run numbering since time more leaving s now
falling_wider old new run numbering since time units more leaving s now least are = record {
  kept = are.kept;
  compared = are.compared;
  modules = are.modules;
  fewer = are.fewer;
  only = are.only;
  seats = are.seats;
  cursors = are.cursors;
  complete = are.complete;
  counted = are.counted;
  sources = are.sources;
  others = are.others;
  on = are.on;
  lit = are.lit;
  room = λ m p w r gone at drives. let low = are.room m p w r gone at drives in omega (arith, low, least);
  recorder = are.recorder;
}

module _ (old new : Circuit) (ok : IsCircuit new) (run : Outcome) (numbering : Numbering) (since : ℕ → ℕ) (time : ℕ) (border : IsBorder new.horizon time) (some : 0 < time) (below : time < new.horizon)
    (leaving : List ModuleId) (s now : Rerun) (is : IsRerunBy old new run numbering since (time - 1) s) (units : ℕ) (are : AreFalling old new run numbering since time units leaving s now) where
  -- a module that is active can fall asleep
  pub can_fall : (m : ℕ) (r : ModuleRecord) → module_at new m ≡ Some r → active_of now m ≡ true → CanFallAsleep run m time r now
  can_fall m r at on = record {
    some = some;
    low = let high = horizon_within new ok in omega (arith, high, below);
    within = let long = are.modules in omega (arith, low, long);
    read_at = subst (λ (inputs : List (List (Option ℕ))). m < length inputs) (sym same_inputs) (let long = numbered.modules in omega (arith, low, long));
    place = let long = are.seats.long in let places = is.shows.bits.places in omega (arith, low, long, places);
    seat = let long = are.seats.places_long in let places = is.shows.modules.long in omega (arith, low, long, places);
    cursors = are.cursors;
    few = λ x. few x;
    read = subst (λ (xs : List ℕ). All (λ x. x < length now.comparison.numbers.wires.items) xs) (sym reads)
        (subst (λ (c : Numbers). All (λ x. x < length c.wires.items) (numbering.inputs m)) (sym same_numbers)
        (subst (λ (k : ℕ). All (λ x. x < k) (numbering.inputs m)) (sym numbered.count) (numbered.wired.low m)));
    outputs = outputs;
    apart = λ p q w one other. (ok.one_port m p m q w.0 (record { part = r; stands = at; output = one }) (record { part = r; stands = at; output = other })).1;
    own = own;
  }
    where
      wire_here : (k w : ℕ) (d : Output) → k < length r.outputs → (slice_index_or r.outputs k d).wire ≡ Some (record { 0 = w }) → (output_at r k).wire ≡ Some (record { 0 = w })
      wire_here k w d within names = ap (λ (o : Output). o.wire) (get_or_default r.outputs k (record { wire = None; delay = 1 }) d within) ∙ names

      own : HaveOwnLevels r.outputs now.comparison
      own k d within w names = are.sources.awake w k (record { 0 = m }) (finds_ports new ok m k w (record { part = r; stands = at; output = wire_here k w d within names })) on

      low : m < length new.modules
      low = slot_within new.modules m r at

      numbered : AreNumbered new numbering s.inputs.items s.comparison s.simulation
      numbered = is.followed.numbered

      same_inputs : now.inputs.items ≡ s.inputs.items
      same_inputs = ap (λ (x : Rerun). x.inputs.items) are.kept

      same_numbers : now.comparison.numbers ≡ s.comparison.numbers
      same_numbers = ap (λ (c : Comparison). c.numbers) are.compared

      reads : numbers_in (ports_at now.inputs.items m) ≡ numbering.inputs m
      reads = ap (λ (inputs : List (List (Option ℕ))). numbers_in (ports_at inputs m)) same_inputs ∙ numbers_by_port (numbering.inputs m) (ports_at s.inputs.items m) (numbered.by_port m low)

      asleep_few : (x : ℕ) → asleep_at now.comparison x ≤ 4 * length new.modules
      asleep_few x = elim (cases_lt x (length now.comparison.numbers.wires.items)) as (λ _. asleep_at now.comparison x ≤ 4 * length new.modules) [
        | inl inside ↦
            let count = are.counted x inside in
            let most = readers_few new ok (active_of now) numbering x numbered.wired.reads 0 new.modules (λ k within. let e : 0 + k ≡ k = omega arith in ap (module_at new) e) in
            omega (arith, count, most)
        | inr past ↦
            let long = are.cursors.shape.asleep in
            let none : asleep_at now.comparison x ≡ 0 = get_or_past now.comparison.asleep.items x 0 (omega (arith, past, long)) in
            omega (arith, none)
      ]

      few : (x : ℕ) → asleep_at now.comparison x + listed x (numbers_in (ports_at now.inputs.items m)) < 2 ^ 32
      few x =
          let most = asleep_few x in
          let one : listed x (numbers_in (ports_at now.inputs.items m)) ≡ listed x (numbering.inputs m) = ap (listed x) reads in
          let read = read_few new ok numbering x m r at (numbered.wired.reads m r at) in
          let modules = modules_within new ok in
          omega (arith, most, one, read, modules)

      long_sources : length now.comparison.sources.items ≡ length new.wires
      long_sources = sym are.cursors.shape.have_data ∙ ap (λ (c : Comparison). length c.numbers.have_data.items) are.compared ∙ is.followed.cursors.shape.have_data ∙ numbered.wires

      outputs : AreSourcesOf r.outputs now.comparison
      outputs k d within =
          let delay = (ok.modules_ok m r at).delays k d within in
          let short = delay.1 in
          record {
            late = delay.0;
            short = omega (arith, short);
            within = λ w names.
                let long = long_sources in
                let stands = drives_low k w (wire_here k w d within names) in
                omega (arith, stands, long);
          }
        where
          drives_low : (k w : ℕ) → (output_at r k).wire ≡ Some (record { 0 = w }) → w < length new.wires
          drives_low k w wire = some_within new.wires w (by (output_at r k).wire wire ((ok.modules_ok m r at).drives k))
            where
              by : (o : Option WireId) → o ≡ Some (record { 0 = w }) → IfSome o (λ v. HasWidth new v.0 (output_width r.kind (module_width new r) k)) → IsSome (wire_at new w)
              by None is_wire has = let wire_id : WireId = record { 0 = w } in absurd (none-some wire_id is_wire)
              by (Some v) is_wire has = let same : v ≡ record { 0 = w } = cc in subst (λ (u : WireId). IsSome (wire_at new u.0)) same has.0

  -- one more, if it still was active
  module _ (m value more : ℕ) (next : Rerun) (left : HasLeftOne new run m time value now next) where
    leaves_at : (gone : HasGone new run m time value now next) → LeavesAt new (active_of now) (active_of gone.mid) m time
    leaves_at gone = record {
      stands = ap is_some gone.stands;
      was = gone.awake;
      quiet = off_at gone;
      others = λ k other. ap (λ (marks : List Bool). is_marked marks k) gone.falls.active ∙ get_or-set_other now.activity.active.items m k false false other;
      below = below;
      window = border_window new ok time border some below;
    }
      where
        off_at : (gone : HasGone new run m time value now next) → active_of gone.mid m ≡ false
        off_at gone =
            let long = are.modules in
            let low = slot_within new.modules m gone.part gone.stands in
            ap (λ (marks : List Bool). is_marked marks m) gone.falls.active ∙ get_or-set_same now.activity.active.items m false false (omega (arith, low, long))

    pub falling_on : Contains leaving (record { 0 = m }) → units ≤ more → value ≤ more → AreFalling old new run numbering since time more leaving s next
    falling_on leaves least most = elim left as (λ _. AreFalling old new run numbering since time more leaving s next) [
      | inl stayed ↦ subst (λ (x : Rerun). AreFalling old new run numbering since time more leaving s x) (sym stayed.same) (falling_wider old new run numbering since time units more leaving s now least are)
      | inr gone ↦
          subst (λ (x : Rerun). AreFalling old new run numbering since time more leaving s x) (sym gone.kept)
          (falling_more old new ok run numbering since time units more m leaving s now gone.mid next.recorder gone.part some is are gone.stands (slot_within new.modules m gone.part gone.stands) gone.awake leaves gone.falls least
          (λ k d within. let low = gone.all k d within in omega (arith, low, most))
          (gone.told old new run (λ k. time) (active_of now) (active_of gone.mid) (leaves_at gone) refl
          (subst (λ (h : RerunRecorder). IsRecorder old new run (λ k. time) time (active_of now) h) (sym (ap (λ (x : Rerun). x.recorder) gone.falls.kept)) are.recorder)))
    ]

    pub off_here : IsSome (module_at new m) → active_of next m ≡ false
    off_here stands = elim left as (λ _. active_of next m ≡ false) [
      | inl stayed ↦ ap (λ (x : Rerun). active_of x m) stayed.same ∙ stayed.asleep stands
      | inr gone ↦ ap (λ (x : Rerun). active_of x m) gone.kept ∙ (leaves_at gone).quiet
    ]

    pub off_still : (q : ℕ) → active_of now q ≡ false → active_of next q ≡ false
    off_still q off = elim left as (λ _. active_of next q ≡ false) [
      | inl stayed ↦ ap (λ (x : Rerun). active_of x q) stayed.same ∙ off
      | inr gone ↦ ap (λ (x : Rerun). active_of x q) gone.kept ∙ elim (cases_eq q m) as (λ _. active_of gone.mid q ≡ false) [
        | inl same ↦ ap (active_of gone.mid) same ∙ (leaves_at gone).quiet
        | inr other ↦ (leaves_at gone).others q other ∙ off
      ]
    ]

    pub value_low : value ≤ 65535
    value_low = elim left as (λ _. value ≤ 65535) [
      | inl stayed ↦ let none = stayed.none in omega (arith, none)
      | inr gone ↦ gone.most 65535 (λ k d within. ((ok.modules_ok m gone.part gone.stands).delays k d within).1)
    ]
