-- What stimuli set in a part of a netlist.
use Rattle.std.proofs.Common.{◌≡◌, ℕ, zero, suc, ◌+◌, ◌-◌, ◌<◌, ◌≤◌, Bool, true, false, not, cond, List, [], ◌∷◌, Option, Some, None, is_some, All, length, slice_index_or, refl, sym, ap, ◌∙◌, arith, subst}
use Rattle.std.specs.Prelude.{◌&&◌, ◌==◌}
use Rattle.std.specs.List.{count_by}
use Rattle.std.proofs.lemmas.Bool.{and_parts, eq-eqb}
use Rattle.std.proofs.lemmas.List.Sums.{sum_by-cons}
use Rattle.mp_records.specs.declared.wire_record.WireRecord.{WireRecord}
use Rattle.mp_netlist.specs.Circuit.{Circuit, IsCircuit, wire_at, stimulus_at}
use Rattle.mp_netlist.specs.Drivers.{driver}
use Rattle.mp_netlist.proofs.DriverLemmas.{stimulus_drives}
use Rattle.mp_model.specs.Levels.{initial_of, driven_level, stimulus_level}
use Rattle.mp_model.specs.Waves.{level, state}
use Rattle.mp_model.proofs.BehaviourLemmas.{satisfies}
use Rattle.mp_modules.specs.automata.Codes.{bit}
use Rattle.mp_simulation.specs.bits.Changes.{change_at}
use Rattle.mp_simulation.specs.bits.WholeRuns.{is_stimulus}
use Rattle.mp_simulation.specs.units.DataLevels.{is_data, has_data}
use Rattle.mp_simulation.specs.declared.run.stimuli.StimulusChange.{StimulusChange}
use Rattle.mp_simulation.specs.run.Stimuli.{is_change, AreFrom, AreAhead}
use Rattle.mp_simulation.proofs.lemmas.run.StimulusLemmas.{no_stimulus}
use Rattle.mp_partition.specs.regions.Regions.{width_in, HasStimuli}
use Rattle.mp_partition.specs.runs.Marks.{is_marked}
use Rattle.mp_engine.specs.region_runs.RegionRuns.{is_set, AreComing, AreUnset}
use Rattle.mp_engine.proofs.lemmas.messages.CountLemmas.{some_bit}

-- what is in a list is counted there
counted : {A : Type 0} (is_it : A → Bool) (xs : List A) (k : ℕ) (d : A) → k < length xs → is_it (slice_index_or xs k d) ≡ true → 0 < count_by is_it xs
counted is_it [] k d within is = absurd (omega arith)
counted is_it (x ∷ xs) zero d within is =
    let more : count_by is_it (x ∷ xs) ≡ cond (is_it x) 1 0 + count_by is_it xs = sum_by-cons (λ y. cond (is_it y) 1 0) x xs in
    let one : cond {A = ℕ} (is_it x) 1 0 ≡ 1 = ap (λ b. cond b 1 0) is in
    omega (arith, more, one)
counted is_it (x ∷ xs) (suc k) d within is =
    let more : count_by is_it (x ∷ xs) ≡ cond (is_it x) 1 0 + count_by is_it xs = sum_by-cons (λ y. cond (is_it y) 1 0) x xs in
    let rest = counted is_it xs k d (omega arith) is in
    omega (arith, more, rest)

-- a wire with a stimulus has the levels that this sets
level_set : (n : Circuit) → IsCircuit n → (w u : ℕ) (s : List (ℕ × ℕ)) → stimulus_at n w ≡ Some s → level n w u ≡ stimulus_level (Some s) (initial_of (wire_at n w)) u
level_set n ok w u s is =
    (satisfies n ok).levels w u
    ∙ ap (λ d. driven_level d n (state n) w u) (stimulus_drives n ok w (ap is_some is))
    ∙ ap (λ o. stimulus_level o (initial_of (wire_at n w)) u) is

pub by_width : (slot other : Option WireRecord) → width_in slot ≡ width_in other → has_data slot ≡ has_data other
by_width None None same = refl
by_width None (Some r) same = absurd (let no : ⊥ = cc in no)
by_width (Some r) None same = absurd (let no : ⊥ = cc in no)
by_width (Some r) (Some s) same = ap (λ (o : Option ℕ). width_data o) same
  where
    width_data : Option ℕ → Bool
    width_data None = false
    width_data (Some width) = not (width == 1)

never : (c b : Bool) → b ≡ false → (c && b) ≡ false
never true b is = is
never false b is = refl

module _ (n : Circuit) (ok : IsCircuit n) (r : Circuit) (form : IsCircuit r) (heard : List Bool) (same : HasStimuli n r heard) (unset : AreUnset n heard) where
  same_level : (w u : ℕ) (s : List (ℕ × ℕ)) → is_marked heard w ≡ false → stimulus_at n w ≡ Some s → level r w u ≡ level n w u
  same_level w u s not_heard is =
      level_set r form w u s (same.same w not_heard ∙ is)
      ∙ ap (λ v. stimulus_level (Some s) v u) (same.initial w)
      ∙ sym (level_set n ok w u s is)

  same_data : (w : ℕ) → is_data r w ≡ is_data n w
  same_data w = by_width (wire_at r w) (wire_at n w) (same.widths w)

  set_by : (w u : ℕ) (s : Option (List (ℕ × ℕ))) → stimulus_at n w ≡ s → is_marked heard w ≡ false →
      (change_at n w u && is_stimulus (driver n w)) ≡ (change_at r w u && is_stimulus (driver r w))
  set_by w u None none not_heard =
      never (change_at n w u) (is_stimulus (driver n w)) (no_stimulus n ok w none)
      ∙ sym (never (change_at r w u) (is_stimulus (driver r w)) (no_stimulus r form w (same.same w not_heard ∙ none)))
  set_by w u (Some s) is not_heard =
      let there = same.same w not_heard ∙ is in
      ap (λ d. change_at n w u && is_stimulus d) (stimulus_drives n ok w (ap is_some is))
      ∙ ap (λ v. not (v == level n w u) && true) (sym (same_level w (u - 1) s not_heard is))
      ∙ ap (λ v. not (level r w (u - 1) == v) && true) (sym (same_level w u s not_heard is))
      ∙ sym (ap (λ d. change_at r w u && is_stimulus d) (stimulus_drives r form w (ap is_some there)))

  same_set : (w u : ℕ) (is_heard : Bool) → is_marked heard w ≡ is_heard → (change_at n w u && is_stimulus (driver n w)) ≡ is_set r (λ v. not (is_marked heard v)) w u
  same_set w u true is =
      never (change_at n w u) (is_stimulus (driver n w)) (no_stimulus n ok w (unset w is))
      ∙ sym (never (change_at r w u && is_stimulus (driver r w)) (not (is_marked heard w)) (ap (λ b. not b) is))
  same_set w u false is =
      set_by w u (stimulus_at n w) refl is
      ∙ last_true (change_at r w u && is_stimulus (driver r w)) (not (is_marked heard w)) (ap (λ b. not b) is)
    where
      last_true : (c b : Bool) → b ≡ true → c ≡ (c && b)
      last_true true b one = sym one
      last_true false b one = refl

  all_from : (u : ℕ) (ss : List StimulusChange) → AreFrom u ss → All (λ (s : StimulusChange). u ≤ s.time) ss
  all_from u [] from k d within = absurd (omega arith)
  all_from u (s ∷ ss) from zero d within = from.0
  all_from u (s ∷ ss) from (suc k) d within =
      let rest = all_from s.time ss from.1 k d (omega arith) in
      let first = from.0 in
      omega arith

  right_level : (s : StimulusChange) (o : Option (List (ℕ × ℕ))) → stimulus_at n s.wire ≡ o → is_stimulus (driver n s.wire) ≡ true → level n s.wire s.time ≡ level r s.wire s.time
  right_level s None none drives = absurd (let no : ⊥ = (let never = no_stimulus n ok s.wire none in cc) in no)
  right_level s (Some changes) is drives = by (is_marked heard s.wire) refl
    where
      by : (b : Bool) → is_marked heard s.wire ≡ b → level n s.wire s.time ≡ level r s.wire s.time
      by true is_heard = absurd (let no : ⊥ = (let none = unset s.wire is_heard in cc) in no)
      by false not_heard = sym (same_level s.wire s.time changes not_heard is)

  -- what stimuli set in the whole is what they set here, but for wires that are heard
  pub own_stimuli : (rest : List StimulusChange) → AreAhead n 0 rest → AreComing r (λ w. not (is_marked heard w)) 0 r.horizon rest
  own_stimuli rest are = record {
    listed = are.listed;
    each = λ w u later low. are.each w u later ∙ ap bit (same_set w u (is_marked heard w) refl);
    set = λ k d within.
        let s = slice_index_or rest k d in
        let is = are.set k d within in
        let low : 0 < s.time = all_from 1 rest are.listed k d within in
        let here : is_change s.wire s.time s ≡ true = ap (λ b. b && (s.time == s.time)) (eq-eqb s.wire s.wire refl) ∙ eq-eqb s.time s.time refl in
        let some : 0 < bit (change_at n s.wire s.time && is_stimulus (driver n s.wire)) = subst (λ c. 0 < c) (are.each s.wire s.time low) (counted (is_change s.wire s.time) rest k d within here) in
        let drives = (and_parts (change_at n s.wire s.time) (is_stimulus (driver n s.wire)) (some_bit (change_at n s.wire s.time && is_stimulus (driver n s.wire)) some)).1 in
        record {
          sort = is.sort ∙ sym (same_data s.wire);
          level = λ has. is.level has ∙ right_level s (stimulus_at n s.wire) refl drives;
        };
  }
