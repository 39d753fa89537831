-- Lemmas on spans of the modules of a netlist.
use Rattle.std.proofs.Common.{◌≡◌, ℕ, ◌+◌, ◌-◌, ◌<◌, ◌≤◌, Bool, true, false, cond, List, [], ◌∷◌, ◌++◌, slice_index_or, Option, Some, ◌==◌, nat_le, nat_lt, zero, suc, refl, ap, sym, subst, ◌∙◌, arith, inl, inr, add-zero, append-nil}
use Rattle.std.specs.List.{flat_map, range_with_len}
use Rattle.std.proofs.lemmas.Bool.{cases_lt, eqb-true}
use Rattle.std.proofs.lemmas.Bool.Decides.{nat_tests}
use Rattle.std.proofs.lemmas.Grind.{flat_map-append}
use Rattle.mp_wave.specs.Waveform.{level_from, last_from}
use Rattle.mp_wave.proofs.WaveformLemmas.{nat_le-true, nat_le-false, last_from-append, level_from-append_later}
use Rattle.mp_modules.specs.Kinds.{output_count}
use Rattle.mp_modules.specs.Memories.{output_of}
use Rattle.mp_modules.specs.declared.finding_code.FindingCode.{FindingCode}
use Rattle.mp_modules.specs.declared.memory.Memory.{Memory}
use Rattle.mp_modules.specs.storage.AnyModules.{kind_of, step}
use Rattle.mp_modules.specs.declared.storage.any_module.AnyModule.{AnyModule}
use Rattle.mp_modules.proofs.lemmas.storage.KindLemmas.{keeps_kind}
use Rattle.mp_records.specs.Outputs.{delay_of}
use Rattle.mp_records.specs.declared.module_record.ModuleRecord.{ModuleRecord}
use Rattle.mp_netlist.specs.Circuit.{Circuit, IsCircuit, Drives, module_at, module_width, wire_at}
use Rattle.mp_netlist.specs.declared.driver.Driver.{Driver}
use Rattle.mp_netlist.proofs.DriverLemmas.{finds_ports}
use Rattle.mp_netlist.proofs.UseLemmas.{output_within}
use Rattle.mp_model.specs.Levels.{IsBehaviour, built, inputs_by, initial_of, driven_level, port_level}
use Rattle.mp_model.specs.response.Span.{next_state, found_at, state_after, findings_of, findings_in, output_changes}
use Rattle.mp_model.specs.response.Pieces.{put_off}
use Rattle.mp_model.specs.response.Delays.{state_before, EndsInState, FindsByStates, GivesLevels}
use Rattle.mp_model.proofs.lemmas.response.SpanLemmas.{state_none, state_more, changes_more, findings_none, findings_more}

-- a unit from time 1 on is a step
later_unit : (part : AnyModule) (s : Memory) (x : List ℕ) (t : ℕ) → 0 < t → next_state part s x t ≡ step part s x
later_unit part s x t later = let no : (t == 0) ≡ false = grind (arith, nat_tests) in rw no refl

-- the state after the first unit of a span
first_unit : (n : Circuit) (level : ℕ → ℕ → ℕ) (state : ℕ → ℕ → Memory) → IsBehaviour n level state → (m a : ℕ) (r : ModuleRecord) → module_at n m ≡ Some r → next_state (built n r) (state_before (built n r) (state m) a) (inputs_by n level r a) a ≡ state m a
first_unit n level state behaves m zero r stands = sym (behaves.settled m r stands)
first_unit n level state behaves m (suc a) r stands =
    let next : a + 1 ≡ suc a = omega arith in
    later_unit (built n r) (state m a) (inputs_by n level r (suc a)) (suc a) (omega arith)
    ∙ sym (subst (λ (t : ℕ). state m t ≡ step (built n r) (state m a) (inputs_by n level r t)) next (behaves.stepped m a r stands))

-- the states of a span are those of the module
span_state : (n : Circuit) (level : ℕ → ℕ → ℕ) (state : ℕ → ℕ → Memory) → IsBehaviour n level state → (m a j : ℕ) (r : ModuleRecord) → module_at n m ≡ Some r → state_after (built n r) (inputs_by n level r) (state_before (built n r) (state m) a) a (j + 1) ≡ state m (a + j)
span_state n level state behaves m a zero r stands =
    let part = built n r in
    let x = inputs_by n level r in
    let s = state_before part (state m) a in
    let at : a + 0 ≡ a = add-zero a in
    state_more part x s a 0
    ∙ ap (λ (z : Memory). next_state part z (x (a + 0)) (a + 0)) (state_none part x s a)
    ∙ ap (λ (t : ℕ). next_state part s (x t) t) at
    ∙ first_unit n level state behaves m a r stands
    ∙ ap (state m) (sym at)
span_state n level state behaves m a (suc j) r stands =
    let part = built n r in
    let x = inputs_by n level r in
    let s = state_before part (state m) a in
    let one : j + 1 ≡ suc j = omega arith in
    let next : a + suc j ≡ a + j + 1 = omega arith in
    state_more part x s a (suc j)
    ∙ ap (λ (z : Memory). next_state part z (x (a + suc j)) (a + suc j)) (ap (state_after part x s a) (sym one) ∙ span_state n level state behaves m a j r stands)
    ∙ ap (λ (t : ℕ). next_state part (state m (a + j)) (x t) t) next
    ∙ later_unit part (state m (a + j)) (x (a + j + 1)) (a + j + 1) (omega arith)
    ∙ sym (behaves.stepped m (a + j) r stands)
    ∙ ap (state m) (sym next)

ends_some : (n : Circuit) (level : ℕ → ℕ → ℕ) (state : ℕ → ℕ → Memory) → IsBehaviour n level state → (m a b : ℕ) (r : ModuleRecord) → module_at n m ≡ Some r → a < b → state_after (built n r) (inputs_by n level r) (state_before (built n r) (state m) a) a (b - a) ≡ state_before (built n r) (state m) b
ends_some n level state behaves m a zero r stands lt = absurd (omega arith)
ends_some n level state behaves m a (suc b) r stands lt =
    let units : suc b - a ≡ b - a + 1 = omega arith in
    let last : a + (b - a) ≡ b = omega arith in
    ap (state_after (built n r) (inputs_by n level r) (state_before (built n r) (state m) a) a) units
    ∙ span_state n level state behaves m a (b - a) r stands
    ∙ ap (state m) last

pub ends_in_state : EndsInState
ends_in_state n level state behaves m a b r piece stands le span =
    let part = built n r in
    let s = state_before part (state m) a in
    elim (cases_lt a b) as (λ _. piece.memory ≡ state_before part (state m) b) [
      | inl lt ↦ span.memory ∙ ends_some n level state behaves m a b r stands lt
      | inr over ↦
          let same : a ≡ b = omega arith in
          let none : b - a ≡ 0 = omega arith in
          span.memory
          ∙ ap (state_after part (inputs_by n level r) s a) none
          ∙ state_none part (inputs_by n level r) s a
          ∙ ap (state_before part (state m)) same
    ]

-- the state before a unit of a span is the module's
span_before : (n : Circuit) (level : ℕ → ℕ → ℕ) (state : ℕ → ℕ → Memory) → IsBehaviour n level state → (m a j : ℕ) (r : ModuleRecord) → module_at n m ≡ Some r → state_after (built n r) (inputs_by n level r) (state_before (built n r) (state m) a) a j ≡ state_before (built n r) (state m) (a + j)
span_before n level state behaves m a zero r stands =
    let part = built n r in
    state_none part (inputs_by n level r) (state_before part (state m) a) a ∙ ap (state_before part (state m)) (sym (add-zero a))
span_before n level state behaves m a (suc j) r stands =
    let part = built n r in
    let one : suc j ≡ j + 1 = omega arith in
    let next : suc (a + j) ≡ a + suc j = omega arith in
    ap (state_after part (inputs_by n level r) (state_before part (state m) a) a) one ∙ span_state n level state behaves m a j r stands ∙ ap (state_before part (state m)) next

times_more : (a n : ℕ) → range_with_len a (n + 1) ≡ range_with_len a n ++ (a + n) ∷ []
times_more a zero = let same : a ≡ a + 0 = omega arith in ap (λ t. t ∷ []) same
times_more a (suc n) =
    let one : suc n + 1 ≡ suc (n + 1) = omega arith in
    let last : a + 1 + n ≡ a + suc n = omega arith in
    ap (range_with_len a) one ∙ ap (λ ts. a ∷ ts) (times_more (a + 1) n) ∙ ap (λ t. a ∷ (range_with_len (a + 1) n ++ t ∷ [])) last

-- what a module's table finds at a time, from the state before it
abbrev found_by : Circuit → (ℕ → ℕ → ℕ) → (ℕ → ℕ → Memory) → ℕ → ModuleRecord → ℕ → List (ℕ × FindingCode)
found_by n level state m r t = findings_of t (found_at (built n r) (state_before (built n r) (state m) t) (inputs_by n level r t) t)

findings_are : (n : Circuit) (level : ℕ → ℕ → ℕ) (state : ℕ → ℕ → Memory) → IsBehaviour n level state → (m a k : ℕ) (r : ModuleRecord) → module_at n m ≡ Some r
    → findings_in (built n r) (inputs_by n level r) (state_before (built n r) (state m) a) a k ≡ flat_map (found_by n level state m r) (range_with_len a k)
findings_are n level state behaves m a zero r stands = sym (findings_none (built n r) (inputs_by n level r) (state_before (built n r) (state m) a) a)
findings_are n level state behaves m a (suc k) r stands =
    let part = built n r in
    let x = inputs_by n level r in
    let s = state_before part (state m) a in
    let one : suc k ≡ k + 1 = omega arith in
    let found = found_by n level state m r in
    ap (findings_in part x s a) one
    ∙ findings_more part x s a k
    ∙ ap (λ (z : Memory). findings_in part x s a k ++ findings_of (a + k) (found_at part z (x (a + k)) (a + k))) (span_before n level state behaves m a k r stands)
    ∙ ap (λ (fs : List (ℕ × FindingCode)). fs ++ found (a + k)) (findings_are n level state behaves m a k r stands)
    ∙ ap (λ (fs : List (ℕ × FindingCode)). flat_map found (range_with_len a k) ++ fs) (sym (append-nil (found (a + k))))
    ∙ sym (flat_map-append found (range_with_len a k) ((a + k) ∷ []))
    ∙ ap (flat_map found) (sym (times_more a k))
    ∙ ap (λ i. flat_map found (range_with_len a i)) (sym one)

pub finds_by_states : FindsByStates
finds_by_states n level state behaves m a b r piece stands span = span.findings ∙ findings_are n level state behaves m a (b - a) r stands

-- all times are below one
abbrev AreBelow : ℕ → List (ℕ × ℕ) → Type 0
AreBelow time [] = Unit {0}
AreBelow time (change ∷ changes) = (change.0 < time) × AreBelow time changes

AreBelow-append : (time : ℕ) (xs ys : List (ℕ × ℕ)) → AreBelow time xs → AreBelow time ys → AreBelow time (xs ++ ys)
AreBelow-append time [] ys first then = then
AreBelow-append time (x ∷ xs) ys first then = (first.0, AreBelow-append time xs ys first.1 then)

AreBelow-later : (time later : ℕ) (xs : List (ℕ × ℕ)) → time ≤ later → AreBelow time xs → AreBelow later xs
AreBelow-later time later [] le below = tt
AreBelow-later time later (x ∷ xs) le below = (omega (arith, below.0), AreBelow-later time later xs le below.1)

-- changes that are over give their last level
over_gives_last : (time v t : ℕ) (xs : List (ℕ × ℕ)) → AreBelow time xs → time ≤ t + 1 → level_from v xs t ≡ last_from v xs
over_gives_last time v t [] below over = refl
over_gives_last time v t (x ∷ xs) below over = rw (nat_le-true x.0 t (omega (arith, below.0))) (over_gives_last time x.1 t xs below.1 over)

-- one change at most
abbrev one_if : Bool → Bool → ℕ → ℕ → List (ℕ × ℕ) → List (ℕ × ℕ)
one_if zero_time same t now changes = cond zero_time (changes ++ (t, now) ∷ []) (cond same changes (changes ++ (t, now) ∷ []))

below_one : (first same : Bool) (t now : ℕ) (xs : List (ℕ × ℕ)) → AreBelow t xs → AreBelow (t + 1) (one_if first same t now xs)
below_one true same t now xs below = AreBelow-append (t + 1) xs ((t, now) ∷ []) (AreBelow-later t (t + 1) xs (omega arith) below) (omega arith, tt)
below_one false true t now xs below = AreBelow-later t (t + 1) xs (omega arith) below
below_one false false t now xs below = AreBelow-append (t + 1) xs ((t, now) ∷ []) (AreBelow-later t (t + 1) xs (omega arith) below) (omega arith, tt)

last_one : (first same : Bool) (t v before now : ℕ) (xs : List (ℕ × ℕ)) → (first ≡ false → same ≡ true → last_from v xs ≡ now) → last_from v (one_if first same t now xs) ≡ now
last_one true same t v before now xs means = last_from-append v xs ((t, now) ∷ [])
last_one false true t v before now xs means = means refl refl
last_one false false t v before now xs means = last_from-append v xs ((t, now) ∷ [])

before_one : (first same : Bool) (t v now u : ℕ) (xs : List (ℕ × ℕ)) → u < t → level_from v (one_if first same t now xs) u ≡ level_from v xs u
before_one true same t v now u xs lt = level_from-append_later v u xs ((t, now) ∷ []) (λ w. rw (nat_le-false t u lt) refl)
before_one false true t v now u xs lt = refl
before_one false false t v now u xs lt = level_from-append_later v u xs ((t, now) ∷ []) (λ w. rw (nat_le-false t u lt) refl)

-- the changes of an output come in its units
changes_below : (level : ℕ → ℕ) (a k : ℕ) → AreBelow (a + k) (output_changes level a k)
unfolding output_changes
changes_below level a zero = tt
changes_below level a (suc k) =
    let next : a + k + 1 ≡ a + suc k = omega arith in
    subst (λ (t : ℕ). AreBelow t (output_changes level a (suc k))) next
    (below_one (a + k == 0) (level k == level (suc k)) (a + k) (level (suc k)) (output_changes level a k) (changes_below level a k))

not_zero : (t : ℕ) → (t == 0) ≡ false → 0 < t
not_zero zero test = absurd (cc)
not_zero (suc t) test = omega arith

-- their last level is the output's
changes_last : (level : ℕ → ℕ) (v a k : ℕ) → (0 < a → v ≡ level 0) → 0 < a + k → last_from v (output_changes level a k) ≡ level k
unfolding output_changes
changes_last level v a zero starts some = starts (omega arith)
changes_last level v a (suc k) starts some =
    last_one (a + k == 0) (level k == level (suc k)) (a + k) v (level k) (level (suc k)) (output_changes level a k)
    (λ later yes. changes_last level v a k starts (not_zero (a + k) later) ∙ eqb-true (level k) (level (suc k)) yes)

-- the changes of an output give its levels
changes_give : (level : ℕ → ℕ) (v a k j : ℕ) → (0 < a → v ≡ level 0) → j < k → level_from v (output_changes level a k) (a + j) ≡ level (suc j)
changes_give level v a zero j starts lt = absurd (omega arith)
changes_give level v a (suc k) j starts lt =
    let one : k + 1 ≡ suc k = omega arith in
    elim (cases_lt j k) as (λ _. level_from v (output_changes level a (suc k)) (a + j) ≡ level (suc j)) [
      | inl sooner ↦
          ap (λ (n : ℕ). level_from v (output_changes level a n) (a + j)) (sym one)
          ∙ ap (λ (cs : List (ℕ × ℕ)). level_from v cs (a + j)) (changes_more level a k)
          ∙ before_one (a + k == 0) (level k == level (k + 1)) (a + k) v (level (k + 1)) (a + j) (output_changes level a k) (omega arith)
          ∙ changes_give level v a k j starts sooner
      | inr last ↦
          let is : suc k ≡ suc j = omega arith in
          over_gives_last (a + suc k) v (a + j) (output_changes level a (suc k)) (changes_below level a (suc k)) (omega arith)
          ∙ changes_last level v a (suc k) starts (omega arith)
          ∙ ap level is
    ]

-- changes that are put off give the levels that much later
put_off_gives : (delay v u : ℕ) (xs : List (ℕ × ℕ)) → level_from v (put_off delay xs) (u + delay) ≡ level_from v xs u
put_off_gives delay v u [] = refl
put_off_gives delay v u (x ∷ xs) =
    let test : nat_le (x.0 + delay) (u + delay) ≡ nat_le x.0 u = grind (arith, nat_tests) in
    rw test (ap (λ w. cond (nat_le x.0 u) w v) (put_off_gives delay x.1 u xs))

-- a port that drives a wire is one of its module's
driving_port : (n : Circuit) → IsCircuit n → (m p w : ℕ) (drives : Drives n m p w) → p < output_count drives.part.kind
driving_port n ok m p w drives =
    let part = ok.modules_ok m drives.part drives.stands in
    omega (arith, part.outputs, output_within drives.part p (record { 0 = w }) drives.output)

-- the level of a wire, from the state of the module that drives it
driven : (n : Circuit) (level : ℕ → ℕ → ℕ) (state : ℕ → ℕ → Memory) → IsCircuit n → IsBehaviour n level state → (m p w t : ℕ) (drives : Drives n m p w) → delay_of drives.part p ≤ t → level w t ≡ output_of (state m (t - delay_of drives.part p)) p
driven n level state ok behaves m p w t drives le =
    let initial = initial_of (wire_at n w) in
    let over : nat_lt t (delay_of drives.part p) ≡ false = grind (arith, nat_tests) in
    behaves.levels w t
    ∙ ap (λ (d : Driver). driven_level d n state w t) (finds_ports n ok m p w drives)
    ∙ ap (λ (r : Option ModuleRecord). port_level state r m p initial t) drives.stands
    ∙ rw over refl

-- the level of an output before a span is that of the state before it
starts_at : (n : Circuit) (level : ℕ → ℕ → ℕ) (state : ℕ → ℕ → Memory) → IsCircuit n → IsBehaviour n level state → (m p w a : ℕ) (drives : Drives n m p w) → 0 < a → level w (a + delay_of drives.part p - 1) ≡ output_of (state_before (built n drives.part) (state m) a) p
starts_at n level state ok behaves m p w zero drives some = absurd (omega arith)
starts_at n level state ok behaves m p w (suc a) drives some =
    let d = delay_of drives.part p in
    let at : suc a + d - 1 - d ≡ a = omega arith in
    driven n level state ok behaves m p w (suc a + d - 1) drives (omega arith) ∙ ap (λ (t : ℕ). output_of (state m t) p) at

pub gives_levels : GivesLevels
gives_levels n level state ok behaves m p w a b t drives piece span low high =
    let r = drives.part in
    let part = built n r in
    let x = inputs_by n level r in
    let s = state_before part (state m) a in
    let d = delay_of r p in
    let v = level w (a + d - 1) in
    let j = t - d - a in
    let outs : ℕ → ℕ = λ i. output_of (state_after part x s a i) p in
    let within : p < output_count (kind_of part) = (rw (keeps_kind r.kind r.params (module_width n r)) (driving_port n ok m p w drives)) in
    let later : t ≡ a + j + d = omega (arith, low) in
    let one : suc j ≡ j + 1 = omega arith in
    let back : a + j ≡ t - d = omega (arith, low) in
    let starts : 0 < a → v ≡ outs 0 = λ some. starts_at n level state ok behaves m p w a drives some ∙ ap (λ (z : Memory). output_of z p) (sym (state_none part x s a)) in
    driven n level state ok behaves m p w t drives (omega (arith, low))
    ∙ sym
    (ap (level_from v (put_off d (slice_index_or piece.outputs p []))) later
    ∙ put_off_gives d v (a + j) (slice_index_or piece.outputs p [])
    ∙ ap (λ (cs : List (ℕ × ℕ)). level_from v cs (a + j)) (span.outputs p within)
    ∙ changes_give outs v a (b - a) j starts (omega (arith, low, high))
    ∙ ap outs one
    ∙ ap (λ (z : Memory). output_of z p) (span_state n level state behaves m a j r drives.stands)
    ∙ ap (λ (u : ℕ). output_of (state m u) p) back)
