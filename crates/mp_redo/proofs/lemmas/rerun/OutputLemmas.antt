-- What is known of the wire of an output of a module that returns.
use Rattle.std.proofs.Common.{◌≡◌, ℕ, ◌+◌, ◌-◌, ◌<◌, ◌≤◌, Bool, true, false, not, cond, List, ◌++◌, Some, None, length, nat_lt, max, refl, ap, sym, subst, ◌∙◌, arith, inl, inr}
use Rattle.std.specs.Prelude.{◌==◌, ◌&&◌, ◌||◌, slice_index_or}
use Rattle.std.specs.List.{count_by}
use Rattle.std.proofs.lemmas.Bool.{cases_lt, lt-ltb, le-ltb, ltb-true, eq-eqb, and_parts}
use Rattle.std.proofs.lemmas.List.{get_or_default}
use mathlib.Core.Path.{fun_ext}
use Rattle.mp_wave.specs.Waveform.{Waveform, between}
use Rattle.mp_records.specs.declared.module_record.ModuleRecord.{ModuleRecord}
use Rattle.mp_records.specs.declared.ports.Output.{Output}
use Rattle.mp_records.specs.Outputs.{output_at, delay_of}
use Rattle.mp_records.specs.NamedWires.{is_wire}
use Rattle.mp_netlist.specs.declared.driver.Driver.TheVariants.{Port}
use Rattle.mp_netlist.specs.Circuit.{Circuit, IsCircuit, Drives}
use Rattle.mp_netlist.specs.Drivers.{driver}
use Rattle.mp_netlist.proofs.DriverLemmas.{finds_ports}
use Rattle.mp_model.specs.Evaluations.{delay_in}
use Rattle.mp_model.specs.Waves.{level}
use Rattle.mp_model.proofs.SlotLemmas.{some_within}
use Rattle.mp_modules.specs.automata.Codes.{bit}
use Rattle.mp_simulation.specs.bits.Changes.{change_at}
use Rattle.mp_kernel.specs.declared.datapath.level_change.LevelChange.{LevelChange}
use Rattle.mp_simulation.specs.declared.units.netlist_simulation.NetlistSimulation.{NetlistSimulation}
use Rattle.mp_simulation.specs.units.DataLevels.{is_data}
use Rattle.mp_simulation.specs.units.DataWheels.{driver_delay}
use Rattle.mp_partition.specs.runs.Outcomes.{Outcome, wave_of}
use Rattle.mp_partition.specs.runs.Runs.{IsRun}
use Rattle.mp_depend.specs.work.Revisions.{IsRevision}
use Rattle.mp_active.specs.agreement.Sleeping.{IsSleeping}
use Rattle.mp_active.specs.agreement.Sources.{slept_from, SleepersDriveAlike}
use Rattle.mp_active.specs.declared.compare.wire_source.WireSource.{WireSource}
use Rattle.mp_active.specs.declared.compare.comparison.Comparison.{Comparison}
use Rattle.mp_active.specs.compare.Comparing.{off}
use Rattle.mp_simulation.specs.declared.run.stimuli.HeardChanges.{HeardChanges}
use Rattle.mp_simulation.specs.declared.run.stimuli.StimulusChange.{StimulusChange}
use Rattle.mp_simulation.specs.run.Stimuli.{left_of, is_change, IsSetting}
use Rattle.mp_active.specs.excerpt.Excerpts.{is_followed}
use Rattle.mp_active.specs.steps.Putting.{HasPut, entries_of, room}
use Rattle.mp_active.specs.steps.Ahead.{AreAhead, AreChangesOf}
use Rattle.mp_active.proofs.lemmas.steps.AheadLemmas.{puts_ahead}
use Rattle.mp_active.proofs.lemmas.steps.OldChangeLemmas.{old_changes_are_ahead, spans_join}
use Rattle.mp_redo.specs.declared.rerun.rerun.Rerun.{Rerun}
use Rattle.mp_redo.specs.rerun.Following.{AreToCome, is_tail}
use Rattle.mp_redo.specs.rerun.Reruns.{active_of, until_of, IsFollowed}
use Rattle.mp_redo.specs.rerun.Returning.{AreBack, IsNextBack, AreTailsIn, CanPutLast, HasPutSpan, tail_of, others_of}
use Rattle.mp_redo.proofs.lemmas.rerun.OldWaveLemmas.{old_levels, old_form, no_old_wave}
use Rattle.mp_redo.proofs.lemmas.rerun.ReaderLemmas.{is_own_wire, output_within, delay_within}
use Rattle.mp_redo.proofs.lemmas.rerun.TailLemmas.{some_bit, both_bit, gone, from_each, counted_there, count_others, others_from, others_all, right_tail, count_tail, own_tail, tail_toggles, tail_levels}
use Rattle.mp_redo.proofs.lemmas.rerun.PutLemmas.{put_both, put_as, none_between, none_changes}
use Rattle.mp_active.proofs.lemmas.agreement.SourceLemmas.{slept_low, output_stands, drove}

module _ (old new : Circuit) (run : Outcome) (old_ok : IsCircuit old) (ok : IsCircuit new) (revised : IsRevision old new) (is_run : IsRun old run) (sleepers : SleepersDriveAlike)
    (t m p : ℕ) (output : Output) (s : Rerun) (next : IsNextBack old new run t m p output s) (w : ℕ) (wire_is : output.wire ≡ Some (record { 0 = w })) where
  abbrev r : ModuleRecord
  r = next.part

  abbrev was : Rerun
  was = next.start

  abbrev followed : IsFollowed old new run next.numbering next.since t was
  followed = next.can.followed

  pub output_is : (output_at r p).wire ≡ Some (record { 0 = w })
  output_is = ap (λ (o : Output). o.wire) next.own ∙ wire_is

  drives : Drives new m p w
  drives = record { part = r; stands = next.stands; output = output_is }

  port : driver new w ≡ Port (record { 0 = m }) p
  port = finds_ports new ok m p w drives

  pub delay_is : delay_of r p ≡ output.delay
  delay_is = ap (λ (o : Output). o.delay) next.own

  pub sleeping : IsSleeping old new (next.since m) t m r
  sleeping = followed.sleeping m r next.stands next.can.asleep

  pub same_until : until_of s w ≡ until_of was w
  same_until = ap (λ (x : Rerun). until_of x w) next.back.kept

  until_is : until_of s w ≡ slept_from (next.since m) (delay_of r p)
  until_is = same_until ∙ followed.sources.asleep w p (record { 0 = m }) r port next.can.asleep next.stands

  pub until_low : until_of s w ≤ t + 1 + output.delay
  until_low = let low = slept_low t (next.since m) (delay_of r p) sleeping.begun in let is = until_is in let same = delay_is in omega (arith, low, is, same)

  pub stands : w < length new.wires
  stands = some_within new.wires w (output_stands new ok m p w drives)

  pub short : (0 < output.delay) × (output.delay ≤ 65535)
  short = let is = (ok.modules_ok m r next.stands).delays p (record { wire = None; delay = 1 }) (output_within r.outputs p w output_is) in let same = delay_is in let one = is.0 in let other = is.1 in (omega (arith, one, same), omega (arith, other, same))

  pub has_wave : None ≡ wave_of run w → ⊥
  has_wave none = no_old_wave old run is_run w none (output_stands old old_ok m p w (drove old new m p w (sleeping.kept.before ∙ sym sleeping.kept.after) drives))

  pub agrees : (u : ℕ) → until_of s w ≤ u + 1 → u ≤ t + output.delay → level old w u ≡ level new w u
  agrees u from within =
      sleepers old new old_ok ok revised (active_of was) next.since (until_of was) t followed.sleeping followed.sources w p (record { 0 = m }) r port next.can.asleep next.stands u
      (let same = same_until in omega (arith, same, from)) (let same = delay_is in omega (arith, same, within))

  -- ---- the wheels have room
  pub has_room : (wide : Bool) → output.delay ≤ room wide s.simulation
  has_room true =
      let low = delay_within new (length was.simulation.wires.wheel) m p w r followed.numbered.wired.data_room next.stands output_is in let same = delay_is in let units = next.back.ahead.change_units in omega (arith, low, same, units)
  has_room false =
      let low = delay_within new (length was.simulation.bits.simulator.wheel) m p w r followed.numbered.wired.room next.stands output_is in let same = delay_is in let units = next.back.ahead.units in omega (arith, low, same, units)

  -- ---- the tail
  abbrev rest : List StimulusChange
  rest = left_of s.pending_outputs

  followed_here : is_followed (active_of was) (driver new w) ≡ true
  followed_here = ap (is_followed (active_of was)) port ∙ ap not next.can.asleep

  comes : (u : ℕ) → (is_tail new (active_of was) (until_of was) w u && not (next.wires w)) ≡ nat_lt u (until_of s w)
  comes u =
      ap (λ b. (b && nat_lt u (until_of was w)) && not (next.wires w)) followed_here ∙ ap (λ b. nat_lt u (until_of was w) && not b) (next.fresh w wire_is) ∙ right (nat_lt u (until_of was w))
      ∙ ap (nat_lt u) (sym same_until)
    where
      right : (b : Bool) → (b && true) ≡ b
      right true = refl
      right false = refl

  counted : (u : ℕ) → t < u → count_by (is_change w u) rest ≡ bit (change_at new w u && nat_lt u (until_of s w))
  counted u later = next.back.pending_outputs.each w u later ∙ ap (λ b. bit (change_at new w u && b)) (comes u)

  pub tails_in : (wide : Bool) → wide ≡ is_data new w → AreTailsIn w t (until_of s w) (room wide s.simulation) wide rest
  tails_in wide sort = λ k d low here.
      let x = slice_index_or rest k d in
      let later = from_each (t + 1) rest next.back.pending_outputs.listed k d low in
      let one = counted_there (is_change w x.time) rest k d low (ap (λ b. b && (x.time == x.time)) (eq-eqb x.wire w here) ∙ eq-eqb x.time x.time refl) in
      let count = counted x.time (omega (arith, later)) in
      let before = ltb-true x.time (until_of s w) (and_parts (change_at new w x.time) (nat_lt x.time (until_of s w)) (some_bit (change_at new w x.time && nat_lt x.time (until_of s w)) (omega (arith, one, count)))).1 in
      record {
        later = omega (arith, later);
        before = before;
        within = let last = until_low in let enough = has_room wide in omega (arith, before, last, enough);
        sort = (next.back.pending_outputs.set k d low).sort ∙ ap (is_data new) here ∙ sym sort;
      }

  abbrev own : ℕ
  own = max (until_of s w) (t + 1)

  own_later : (u : ℕ) → t < u → nat_lt u own ≡ nat_lt u (until_of s w)
  own_later u later = elim (cases_lt u (until_of s w)) as (λ _. nat_lt u own ≡ nat_lt u (until_of s w)) [
    | inl low ↦ lt-ltb u own (omega (arith, low)) ∙ sym (lt-ltb u (until_of s w) low)
    | inr high ↦ le-ltb u own (omega (arith, high, later)) ∙ sym (le-ltb u (until_of s w) high)
  ]

  abbrev tail_entries : List (ℕ × LevelChange)
  tail_entries = entries_of w t (right_tail new w rest)

  tail_are : AreChangesOf new w t t own tail_entries
  tail_are = record {
    each = λ k x.
        count_tail new w t k x (t + 1) rest (omega arith) next.back.pending_outputs.listed ∙ ap (λ j. cond (w == x) j 0) (counted (t + 1 + k) (omega arith))
        ∙ both_bit (w == x) (change_at new w (t + 1 + k) && nat_lt (t + 1 + k) (until_of s w))
        ∙ ap (λ b. bit ((w == x) && (change_at new w (t + 1 + k) && b))) (sym (own_later (t + 1 + k) (omega arith)))
        ∙ ap (λ b. bit ((w == x) && (change_at new w (t + 1 + k) && (b && nat_lt (t + 1 + k) own)))) (sym (lt-ltb t (t + 1 + k) (omega arith)));
    own = own_tail new w t (t + 1) rest (omega arith) next.back.pending_outputs.listed;
  }

  tail_put : (wide : Bool) (sim : NetlistSimulation) → wide ≡ is_data new w → HasPut wide (entries_of w t (tail_of w rest)) s.simulation sim → HasPut wide tail_entries s.simulation sim
  tail_put wide sim sort put =
      put_as wide (entries_of w t (tail_of w rest)) tail_entries s.simulation sim (tail_toggles new w t rest)
      (λ is. ap (entries_of w t) (tail_levels new w rest (λ k d low here.
      let x = slice_index_or rest k d in
      let set = next.back.pending_outputs.set k d low in
      set.level (set.sort ∙ ap (is_data new) here ∙ sym sort ∙ is) ∙ ap (λ v. level new v x.time) here))) put

  -- ---- the changes of the old run, up to the horizon
  old_are : (kept : ℕ) (wave : Waveform) → Some wave ≡ wave_of run w → own ≤ kept → kept ≤ t + 1 + output.delay → (own < kept → kept ≤ new.horizon) →
      AreChangesOf new w t (own - 1) kept (entries_of w t (between (own - 1) kept wave.changes))
  old_are kept wave found from upto below = elim (cases_lt own kept) as (λ _. AreChangesOf new w t (own - 1) kept (entries_of w t (between (own - 1) kept wave.changes))) [
    | inl some ↦
        old_changes_are_ahead new w t (own - 1) kept wave (old_form old run is_run w wave found) (omega arith) (λ u later before.
        let low = below some in
        let same = revised.horizon in
        old_levels old run is_run w wave found u (omega (arith, before, low, same)) ∙ agrees u (omega (arith, later)) (omega (arith, before, upto)))
    | inr none ↦
        subst (λ (es : List (ℕ × LevelChange)). AreChangesOf new w t (own - 1) kept es) (sym (ap (entries_of w t) (none_between (own - 1) kept wave.changes (omega (arith, none)))))
        (none_changes new w t (own - 1) kept (omega (arith, none)))
  ]

  -- ---- all of it
  driver_is : driver_delay new (driver new w) ≡ output.delay
  driver_is = ap (driver_delay new) port ∙ ap (λ x. delay_in x p) next.stands ∙ delay_is

  module _ (entries : List (ℕ × LevelChange)) (are : AreChangesOf new w t t (t + 1 + output.delay) entries) (sim : NetlistSimulation) (put : HasPut (is_data new w) entries s.simulation sim)
      (pending_outputs : HeardChanges) (left : left_of pending_outputs ≡ others_of w rest) where
    abbrev after : Rerun
    after = record s { simulation = sim; pending_outputs = pending_outputs }

    abbrev wires : ℕ → Bool
    wires v = next.wires v || (v == w)

    ahead : AreAhead new next.numbering t wires was.simulation sim
    ahead =
        puts_ahead new next.numbering t w next.wires was.simulation s.simulation sim entries (next.fresh w wire_is) (next.can.nothing p w drives) next.back.ahead
        (subst (λ d. AreChangesOf new w t t (t + 1 + d) entries) (sym driver_is) are) put

    come : AreToCome new (λ v u. is_tail new (active_of was) (until_of was) v u && not (wires v)) t (left_of pending_outputs)
    come = subst (λ (ss : List StimulusChange). AreToCome new (λ v u. is_tail new (active_of was) (until_of was) v u && not (wires v)) t ss) (sym left) (record {
      listed = others_from w (t + 1) rest next.back.pending_outputs.listed;
      each = λ v u later.
          count_others w v u rest ∙ ap (λ k. cond (v == w) 0 k) (next.back.pending_outputs.each v u later)
          ∙ gone (next.wires v) (v == w) (change_at new v u) (is_tail new (active_of was) (until_of was) v u);
      set = others_all (IsSetting new) w rest next.back.pending_outputs.set;
    })

    back_more : AreBack new next.numbering t wires was after
    back_more = record {
      kept = ap (λ (x : Rerun). (let y : Rerun = record x { simulation = sim; pending_outputs = pending_outputs } in y)) next.back.kept;
      ahead = ahead;
      pending_outputs = come;
    }

    pub is_back : AreBack new next.numbering t (λ v. next.wires v || is_wire output.wire v) was after
    is_back = subst (λ (ws : ℕ → Bool). AreBack new next.numbering t ws was after) (fun_ext (λ v. ap (λ b. next.wires v || b) (is_own_wire output w v wire_is))) back_more

  -- ---- what is told of the wire
  same_comparison : s.comparison ≡ was.comparison
  same_comparison = ap (λ (x : Rerun). x.comparison) next.back.kept

  pub source_place : w < length s.comparison.sources.items
  source_place = subst (λ (c : Comparison). w < length c.sources.items) (sym same_comparison) (let same = followed.numbered.wires in let low = stands in omega (arith, same, low))

  pub kind_place : w < length s.comparison.numbers.have_data.items
  kind_place = subst (λ (c : Comparison). w < length c.numbers.have_data.items) (sym same_comparison)
      (let kinds = followed.cursors.shape.have_data in let same = followed.numbered.wires in let low = stands in omega (arith, kinds, same, low))

  pub told_until : (source : WireSource) → source ≡ slice_index_or s.comparison.sources.items w source → until_of s w ≡ source.until
  told_until source is = ap (λ (x : WireSource). x.until) (get_or_default s.comparison.sources.items w off source source_place ∙ sym is)

  pub told_kind : (kind : Bool) → kind ≡ slice_index_or s.comparison.numbers.have_data.items w kind → kind ≡ is_data new w
  told_kind kind is =
      is ∙ get_or_default s.comparison.numbers.have_data.items w kind false kind_place ∙ ap (λ (c : Comparison). slice_index_or c.numbers.have_data.items w false) same_comparison ∙ followed.numbered.with_data w stands

  -- ---- what the old run's wave doesn't have
  pub can_put_last : (from : ℕ) → until_of s w ≤ from → from < t + 1 + output.delay → (sim2 : NetlistSimulation) (pending_outputs : HeardChanges) (s2 : Rerun) → s2 ≡ record s { simulation = sim2; pending_outputs = pending_outputs } →
      ((kind : Bool) → room kind sim2 ≡ room kind s.simulation) → CanPutLast old new t m p r w from s2
  can_put_last from late some sim2 pending_outputs s2 before rooms = record {
    kept = sleeping.kept;
    output = output_is;
    some = let same = delay_is in omega (arith, some, same);
    agrees = λ u soon upto. agrees u (omega (arith, late, soon)) (let same = delay_is in omega (arith, upto, same));
    place = subst (λ (x : Rerun). w < length x.comparison.numbers.have_data.items) (sym before) kind_place;
    sort = subst (λ (x : Rerun). slice_index_or x.comparison.numbers.have_data.items w false ≡ is_data new w) (sym before)
        (ap (λ (c : Comparison). slice_index_or c.numbers.have_data.items w false) same_comparison ∙ followed.numbered.with_data w stands);
    room = λ kind. subst (λ (x : Rerun). delay_of r p ≤ room kind x.simulation) (sym before) (let same = delay_is in let fits = has_room kind in let units = rooms kind in omega (arith, same, fits, units));
  }

  -- ---- in two or three spans
  module _ (wide : Bool) (sort : wide ≡ is_data new w) (wave : Waveform) (found : Some wave ≡ wave_of run w) (first kept : ℕ) (first_is : first ≡ max (until_of s w) (t + 1)) (from : first ≤ kept)
      (upto : kept ≤ t + 1 + output.delay) (below : first < kept → kept ≤ new.horizon)
      (sim1 sim2 : NetlistSimulation) (tail : HasPut wide (entries_of w t (tail_of w rest)) s.simulation sim1)
      (changes : HasPut wide (entries_of w t (between (first - 1) kept wave.changes)) sim1 sim2) (pending_outputs : HeardChanges) (left : left_of pending_outputs ≡ others_of w rest)
      (s2 : Rerun) (before : s2 ≡ record s { simulation = sim2; pending_outputs = pending_outputs }) where
    abbrev old_entries : List (ℕ × LevelChange)
    old_entries = entries_of w t (between (first - 1) kept wave.changes)

    abbrev front : List (ℕ × LevelChange)
    front = tail_entries ++ old_entries

    own_before : own ≤ kept
    own_before = subst (λ k. k ≤ kept) first_is from

    old_entries_are : AreChangesOf new w t (own - 1) kept old_entries
    old_entries_are = subst (λ k. AreChangesOf new w t (own - 1) kept (entries_of w t (between (k - 1) kept wave.changes))) (sym first_is)
        (old_are kept wave found own_before upto (λ some. below (subst (λ k. k < kept) (sym first_is) some)))

    front_are : AreChangesOf new w t t kept front
    front_are = spans_join new w t t own kept tail_entries old_entries (omega arith) own_before tail_are old_entries_are

    front_put : HasPut (is_data new w) front s.simulation sim2
    front_put = subst (λ b. HasPut b front s.simulation sim2) sort (put_both wide tail_entries old_entries s.simulation sim1 sim2 (tail_put wide sim1 sort tail) changes)

    pub two_back : kept ≡ t + 1 + output.delay → AreBack new next.numbering t (λ v. next.wires v || is_wire output.wire v) was s2
    two_back all =
        subst (λ (x : Rerun). AreBack new next.numbering t (λ v. next.wires v || is_wire output.wire v) was x) (sym before)
        (is_back front (subst (λ to. AreChangesOf new w t t to front) all front_are) sim2 front_put pending_outputs left)

    pub three_back : (s3 : Rerun) → HasPutSpan new w t (kept - 1) (t + 1 + output.delay) s2 s3 → AreBack new next.numbering t (λ v. next.wires v || is_wire output.wire v) was s3
    three_back s3 last =
        subst (λ (x : Rerun). AreBack new next.numbering t (λ v. next.wires v || is_wire output.wire v) was x) (sym made)
        (is_back (front ++ last.entries) (spans_join new w t t kept (t + 1 + output.delay) front last.entries later upto front_are last.are) s3.simulation
        (put_both (is_data new w) front last.entries s.simulation sim2 s3.simulation front_put (subst (λ (x : Rerun). HasPut (is_data new w) last.entries x.simulation s3.simulation) before last.put)) pending_outputs left)
      where
        later : t < kept
        later = let low = own_before in omega (arith, low)

        made : s3 ≡ record s { simulation = s3.simulation; pending_outputs = pending_outputs }
        made = last.kept ∙ ap (λ (x : Rerun). (let y : Rerun = record x { simulation = s3.simulation } in y)) before
