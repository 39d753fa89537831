-- The modules that sleep and hear of numbers that depart are those that are apart.
use Rattle.std.proofs.Common.{◌≡◌, ◌≢◌, ℕ, ◌+◌, ◌<◌, true, false, not, nat_lt, List, All, Option, Some, None, length, refl, sym, ap, subst, ◌∙◌, arith}
use Rattle.std.specs.Prelude.{◌&&◌, ◌==◌}
use Rattle.std.proofs.lemmas.Bool.{and_parts, ltb-true, lt-ltb, eq-eqb, ne_eqb}
use Rattle.std.proofs.lemmas.List.Elements.{All-map}
use Rattle.mp_records.specs.declared.ids.ModuleId.{ModuleId}
use Rattle.mp_records.specs.declared.module_record.ModuleRecord.{ModuleRecord}
use Rattle.mp_netlist.specs.Circuit.{Circuit, IsCircuit, module_at}
use Rattle.mp_model.specs.Reach.{IsApart}
use Rattle.mp_modules.specs.automata.Codes.{bit}
use Rattle.mp_kernel.specs.declared.events.fanout_entry.FanoutEntry.{FanoutEntry}
use Rattle.mp_kernel.specs.events.Adding.{listed, events_for}
use Rattle.mp_kernel.specs.events.Toggling.{row_at, entries_from}
use Rattle.mp_partition.specs.runs.Outcomes.{Outcome}
use Rattle.mp_depend.specs.work.Revisions.{IsRevision}
use Rattle.mp_active.specs.agreement.Reading.{late, AreAlike, QuietWhereAlike}
use Rattle.mp_active.specs.excerpt.Numberings.{Numbering}
use Rattle.mp_active.specs.compare.Comparing.{wire_of, delay_of, asleep_at}
use Rattle.mp_redo.specs.declared.rerun.rerun.Rerun.{Rerun}
use Rattle.mp_depend.specs.Hearing.{AreHearing}
use Rattle.mp_redo.specs.rerun.Joining.{AreByNumber, AreJoining, AreDeparting, departs}
use Rattle.mp_redo.specs.rerun.Reruns.{IsRerunBy, active_of}
use Rattle.mp_active.proofs.lemmas.excerpt.TestLemmas.{bit_true}
use Rattle.mp_redo.proofs.lemmas.rerun.NumberLemmas.{asleep_within}
use Rattle.mp_redo.proofs.lemmas.rerun.HearingLemmas.{at_listed, differs_at, weight_listed, listed_weight, entry_found, entry_there, reader_counted}
use Rattle.mp_redo.proofs.lemmas.rerun.StandingLemmas.{some_is}

module _ (old n : Circuit) (run : Outcome) (numbering : Numbering) (since : ℕ → ℕ) (t : ℕ) (s : Rerun) (is : IsRerunBy old n run numbering since t s) (are : AreDeparting old n (t + 1) s) where
  -- a number that departs is one that modules read that sleep
  pub departing_within : (x : ℕ) → 0 < listed x s.comparison.departing.items → x < length s.simulation.bits.simulator.fanout
  departing_within x some =
      let both = bit_true (nat_lt 0 (asleep_at s.comparison x) && departs old n s x (t + 1)) (subst (λ k. 0 < k) (are x) some) in
      let read = ltb-true 0 (asleep_at s.comparison x) (and_parts (nat_lt 0 (asleep_at s.comparison x)) (departs old n s x (t + 1)) both).0 in
      let low = asleep_within s.comparison is.followed.cursors.shape.asleep x read in
      let count = is.followed.numbered.count in
      omega (arith, low, count)

  differs : (a b : ℕ) → not (a == b) ≡ true → a ≢ b
  differs a b e same = let test = ap not (eq-eqb a b same) in let no : ⊥ = cc in no

  -- what it reads isn't alike
  late_there : (c : Circuit) (x : ℕ) → x < length s.comparison.numbers.wires.items → (u : ℕ) →
      late c (numbering.source x) u ≡ late c (wire_of s.comparison.numbers x, delay_of s.comparison.numbers x) u
  late_there c x within u = ap (λ (r : ℕ × ℕ). late c r u) (is.followed.numbered.source x within)

  departing_differs : (x : ℕ) → 0 < listed x s.comparison.departing.items → late old (numbering.source x) (t + 1) ≢ late n (numbering.source x) (t + 1)
  departing_differs x some same =
      let both = bit_true (nat_lt 0 (asleep_at s.comparison x) && departs old n s x (t + 1)) (subst (λ k. 0 < k) (are x) some) in
      let parts = and_parts (nat_lt 0 (asleep_at s.comparison x)) (departs old n s x (t + 1)) both in
      let within = asleep_within s.comparison is.followed.cursors.shape.asleep x (ltb-true 0 (asleep_at s.comparison x) parts.0) in
      differs (late old (wire_of s.comparison.numbers x, delay_of s.comparison.numbers x) (t + 1)) (late n (wire_of s.comparison.numbers x, delay_of s.comparison.numbers x) (t + 1)) parts.1
      (sym (late_there old x within (t + 1)) ∙ same ∙ late_there n x within (t + 1))

  differs_departing : (x : ℕ) → 0 < asleep_at s.comparison x → late old (numbering.source x) (t + 1) ≢ late n (numbering.source x) (t + 1) → 0 < listed x s.comparison.departing.items
  differs_departing x read other =
      let within = asleep_within s.comparison is.followed.cursors.shape.asleep x read in
      let apart : departs old n s x (t + 1) ≡ true =
      ap not (ne_eqb (late old (wire_of s.comparison.numbers x, delay_of s.comparison.numbers x) (t + 1)) (late n (wire_of s.comparison.numbers x, delay_of s.comparison.numbers x) (t + 1))
      (λ same. other (late_there old x within (t + 1) ∙ same ∙ sym (late_there n x within (t + 1))))) in
      let one = are x ∙ ap (λ b. bit (b && departs old n s x (t + 1))) (lt-ltb 0 (asleep_at s.comparison x) read) ∙ ap bit apart in
      omega arith

  -- ---- rows
  reads_row : (m x : ℕ) → 0 < events_for m (row_at s.simulation.bits.simulator.fanout x) → 0 < listed x (numbering.inputs m)
  reads_row m x some = weight_listed 1 (numbering.inputs m) x (subst (λ k. 0 < k) ((is.shows.numbers.ports m).each x) some)

  row_reads : (m x : ℕ) → 0 < listed x (numbering.inputs m) → 0 < events_for m (row_at s.simulation.bits.simulator.fanout x)
  row_reads m x reads = subst (λ k. 0 < k) (sym ((is.shows.numbers.ports m).each x)) (listed_weight 1 (numbering.inputs m) x (omega arith) reads)

  -- entries are for modules, and have events
  pub row_within : (x : ℕ) → All (λ (e : FanoutEntry). e.module < length s.activity.active.items) (row_at s.simulation.bits.simulator.fanout x)
  row_within x k d low =
      let within = is.shows.bits.sound.simulator.placed x k d low in
      let places = is.shows.bits.places in
      let modules = is.followed.modules in
      omega (arith, within, places, modules)

  pub row_eventful : (x : ℕ) → All (λ (e : FanoutEntry). 0 < e.event) (row_at s.simulation.bits.simulator.fanout x)
  row_eventful x = is.shows.bits.sound.simulator.eventful x

  -- ---- a module that joins
  record IsFound (m : ℕ) : Type 0 where
    pub part : ModuleRecord
    pub at : module_at n m ≡ Some part
    pub number : ℕ
    pub reads : 0 < listed number (numbering.inputs m)
    pub listed_there : 0 < listed number s.comparison.departing.items

  found : (m : ℕ) → 0 < events_for m (entries_from s.simulation.bits.simulator.fanout s.comparison.departing.items) → IsFound m
  found m some = by (module_at n m) refl
    where
      entry : (x : ℕ) × (0 < listed x s.comparison.departing.items) × (0 < events_for m (row_at s.simulation.bits.simulator.fanout x))
      entry = entry_found s.simulation.bits.simulator.fanout m s.comparison.departing.items some

      by : (slot : Option ModuleRecord) → module_at n m ≡ slot → IsFound m
      by None at =
          let none = ap (listed entry.0) (is.followed.numbered.wired.gone m at) in
          let reads = reads_row m entry.0 entry.2 in
          let no : ⊥ = omega (arith, none, reads) in absurd no
      by (Some r) at = record { part = r; at = at; number = entry.0; reads = reads_row m entry.0 entry.2; listed_there = entry.1 }

  module _ (old_ok : IsCircuit old) (ok : IsCircuit n) (revised : IsRevision old n) (quiet : QuietWhereAlike) where
    apart_there : (m : ℕ) (r : ModuleRecord) (x : ℕ) → module_at n m ≡ Some r → active_of s m ≡ false → 0 < listed x (numbering.inputs m) → 0 < listed x s.comparison.departing.items → IsApart old n m (t + 1)
    apart_there m r x at asleep reads departing =
        let kept = (is.followed.sleeping m r at asleep).kept in
        record {
          before = some_is (module_at old m) r kept.before;
          after = some_is (module_at n m) r at;
          differ = λ same.
              let alike = (quiet old n old_ok ok revised m (t + 1) r kept).0 (λ apart. apart.differ same) in
              let all = subst (AreAlike old n (t + 1)) (sym (is.followed.numbered.wired.reads m r at)) alike in
              departing_differs x departing (at_listed (λ source. late old source (t + 1) ≡ late n source (t + 1)) numbering.source (numbering.inputs m) x all reads);
        }

    departs_there : (m : ℕ) (r : ModuleRecord) → module_at n m ≡ Some r → active_of s m ≡ false → IsApart old n m (t + 1) →
        0 < events_for m (entries_from s.simulation.bits.simulator.fanout s.comparison.departing.items)
    departs_there m r at asleep apart =
        let kept = (is.followed.sleeping m r at asleep).kept in
        let one = differs_at (λ x. late old (numbering.source x) (t + 1)) (λ x. late n (numbering.source x) (t + 1)) (numbering.inputs m)
        (λ all. (quiet old n old_ok ok revised m (t + 1) r kept).1
        (subst (AreAlike old n (t + 1)) (is.followed.numbered.wired.reads m r at)
        (All-map (λ source. late old source (t + 1) ≡ late n source (t + 1)) numbering.source (numbering.inputs m) all)) apart) in
        let x = one.0 in
        let here : m ≡ 0 + m = omega arith in
        let counted = reader_counted (active_of s) numbering x 0 m m r n.modules here at asleep one.1 in
        let within = number_within m x one.1 in
        let read : 0 < asleep_at s.comparison x = subst (λ k. 0 < k) (sym (is.followed.counted x within)) counted in
        entry_there s.simulation.bits.simulator.fanout m x s.comparison.departing.items (differs_departing x read one.2) (row_reads m x one.1)
      where
        listed_low : (bound : ℕ) (xs : List ℕ) (x : ℕ) → All (λ y. y < bound) xs → 0 < listed x xs → x < bound
        listed_low bound xs x all some = at_listed (λ (r : ℕ × ℕ). r.0 < bound) (λ y. (y, 0)) xs x (All-map (λ (r : ℕ × ℕ). r.0 < bound) (λ y. (y, 0)) xs all) some

        number_within : (m x : ℕ) → 0 < listed x (numbering.inputs m) → x < length s.comparison.numbers.wires.items
        number_within m x reads =
            let low = listed_low (length s.simulation.bits.simulator.fanout) (numbering.inputs m) x (is.followed.numbered.wired.low m) reads in
            let count = is.followed.numbered.count in
            omega (arith, low, count)

    pub all_join : (joining : List ModuleId) → AreHearing (active_of s) (entries_from s.simulation.bits.simulator.fanout s.comparison.departing.items) joining →
        AreByNumber joining → AreJoining old n (active_of s) (t + 1) joining
    all_join joining hearing once = record {
      stand = λ m listed_in. let one = found m ((hearing m).0 listed_in).1 in some_is (module_at n m) one.part one.at;
      asleep = λ m listed_in. ((hearing m).0 listed_in).0;
      apart = λ m listed_in. let one = found m ((hearing m).0 listed_in).1 in apart_there m one.part one.number one.at ((hearing m).0 listed_in).0 one.reads one.listed_there;
      all = λ m r at asleep apart. (hearing m).1 (asleep, departs_there m r at asleep apart);
      once = once;
    }
