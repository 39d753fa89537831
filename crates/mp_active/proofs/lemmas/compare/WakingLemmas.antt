-- Modules wake and fall asleep: what drives their wires, port by port.
use Rattle.std.proofs.Common.{◌≡◌, ℕ, suc, ◌+◌, ◌<◌, Bool, true, false, not, cond, ◌||◌, List, [], ◌∷◌, ◌++◌, length, get_or, take, refl, sym, ap, ◌∙◌, arith, subst, inl, inr, ◌⊎◌}
use Rattle.std.specs.Prelude.{◌==◌, nat_lt, Option, Some, None}
use Rattle.std.proofs.lemmas.Bool.{cases_Bool, eq-eqb, eqb-true, lt-ltb, ltb-true, and_parts, and_from, or_cases, or_right, false≢true}
use Rattle.std.proofs.lemmas.List.{take_more, get_or_default, get_or-take, length-take-le}
use Rattle.mp_records.specs.declared.ids.WireId.{WireId}
use Rattle.mp_records.specs.declared.ports.Output.{Output}
use Rattle.mp_records.specs.NamedWires.{is_wire}
use Rattle.mp_records.specs.Outputs.{output_in}
use Rattle.mp_kernel.specs.events.Adding.{listed}
use Rattle.mp_kernel.specs.timers.TimerWheels.{never}
use Rattle.mp_partition.specs.runs.Outcomes.{Outcome}
use Rattle.mp_active.specs.declared.compare.numbers.Numbers.{Numbers}
use Rattle.mp_active.specs.declared.compare.wire_source.WireSource.{WireSource}
use Rattle.mp_active.specs.declared.compare.comparison.Comparison.{Comparison}
use Rattle.mp_active.specs.compare.Comparing.{wire_of, delay_of, source_at, asleep_at, may_differ, is_to_follow, is_following, is_tracked, HasCursors, IsListed, IsComplete}
use Rattle.mp_active.specs.compare.Waking.{IsSourceOf, HaveOwnWires, HasOwnLevels, HaveOwnLevels, woken, slept, turned_on, from_then}
use Rattle.mp_active.proofs.lemmas.compare.RelistingLemmas.{sources_long, needed_same, HasRelisted, step_complete}

-- sources have changed, and what is needed is listed
pub record HaveTurned (run : Outcome) (t : ℕ) (change : ℕ → WireSource → WireSource) (was is : Comparison) : Type 0 where
  pub kept : is ≡ record was { sources = is.sources; timers = is.timers; places = is.places }
  pub cursors : HasCursors run t [] is
  pub complete : IsComplete run t was → IsComplete run t is
  pub turned : (w : ℕ) → source_at is w ≡ change w (source_at was w)

pub turned_none : (run : Outcome) (t : ℕ) (was : Comparison) → HasCursors run t [] was → HaveTurned run t (λ w source. source) was was
turned_none run t was has = record { kept = refl; cursors = has; complete = λ all. all; turned = λ w. refl }

pub turned_more : (run : Outcome) (t : ℕ) (before after all : ℕ → WireSource → WireSource) (was mid is : Comparison) → ((w : ℕ) → after w (before w (source_at was w)) ≡ all w (source_at was w)) →
    HaveTurned run t before was mid → HaveTurned run t after mid is → HaveTurned run t all was is
turned_more run t before after all was mid is same first second = record {
  kept = second.kept ∙ ap (λ (c : Comparison). record c { sources = is.sources; timers = is.timers; places = is.places }) first.kept;
  cursors = second.cursors;
  complete = λ complete. second.complete (first.complete complete);
  turned = λ w. second.turned w ∙ ap (after w) (first.turned w) ∙ same w;
}

-- the source of one wire has changed
pub one_turned : (run : Outcome) (t wire : ℕ) (change : WireSource → WireSource) (was mid is : Comparison) → mid ≡ record was { sources = mid.sources } →
    ((w : ℕ) → source_at mid w ≡ cond (w == wire) (change (source_at was w)) (source_at was w)) → HasCursors run t [] is → HasRelisted run t mid is →
    ((x : ℕ) → x < length was.numbers.wires.items → wire_of was.numbers x ≡ wire → (is_following mid x || is_tracked mid x (t + 1)) ≡ true →
    ((is_following was x || is_tracked was x (t + 1)) ≡ true) ⊎ IsListed run t is x) →
    HaveTurned run t (λ w source. cond (w == wire) (change source) source) was is
one_turned run t wire change was mid is kept turned has listing own = record {
  kept = listing.kept ∙ ap (λ (c : Comparison). record c { timers = is.timers; places = is.places }) kept ∙ sources_of;
  cursors = has;
  complete = step_complete run t was mid is numbers (ap (λ (c : Comparison). c.timers) kept) listing (λ x low needed. new x low needed (wire_of was.numbers x == wire) refl);
  turned = λ w. ap (λ (c : Comparison). source_at c w) listing.kept ∙ turned w;
}
  where
    numbers : mid.numbers ≡ was.numbers
    numbers = ap (λ (c : Comparison). c.numbers) kept

    sources_of : (record was { sources = mid.sources; timers = is.timers; places = is.places }) ≡ (record was { sources = is.sources; timers = is.timers; places = is.places })
    sources_of = ap (λ a. record was { sources = a; timers = is.timers; places = is.places }) (sym (ap (λ (c : Comparison). c.sources) listing.kept))

    new : (x : ℕ) → x < length was.numbers.wires.items → (is_following mid x || is_tracked mid x (t + 1)) ≡ true → (same : Bool) → (wire_of was.numbers x == wire) ≡ same →
        ((is_following was x || is_tracked was x (t + 1)) ≡ true) ⊎ IsListed run t is x
    new x low needed true e = own x low (eqb-true (wire_of was.numbers x) wire e) needed
    new x low needed false e =
        inl (sym (needed_same was mid x (t + 1) numbers (ap (λ (c : Comparison). asleep_at c x) kept)
        (turned (wire_of was.numbers x) ∙ ap (λ b. cond b (change (source_at was (wire_of was.numbers x))) (source_at was (wire_of was.numbers x))) e)) ∙ needed)

woken_after : (outputs : List Output) (o : Output) (w : ℕ) (source : WireSource) → woken (outputs ++ o ∷ []) w source ≡ woken (o ∷ []) w (woken outputs w source)
woken_after [] o w source = refl
woken_after (x ∷ outputs) o w source = step (is_wire x.wire w) (is_wire o.wire w) source (woken (outputs ++ o ∷ []) w source) (woken outputs w source) (woken_after outputs o w source)
  where
    step : (b c : Bool) (s r t : WireSource) → r ≡ cond c (from_then never t) t → cond b (from_then never s) r ≡ cond c (from_then never (cond b (from_then never s) t)) (cond b (from_then never s) t)
    step true true s r t e = refl
    step true false s r t e = refl
    step false c s r t e = e

-- one output more
pub woken_more : (outputs : List Output) (i : ℕ) (d : Output) (w : ℕ) (source : WireSource) → i < length outputs →
    woken (get_or outputs i d ∷ []) w (woken (take i outputs) w source) ≡ woken (take (i + 1) outputs) w source
woken_more outputs i d w source low = sym (ap (λ os. woken os w source) (take_more outputs i d low) ∙ woken_after (take i outputs) (get_or outputs i d) w source)

slept_none : (outputs : List Output) (time w : ℕ) (source : WireSource) → ((p : ℕ) → p < length outputs → is_wire (output_in outputs p).wire w ≡ false) → slept outputs time w source ≡ source
slept_none [] time w source none = refl
slept_none (o ∷ outputs) time w source none =
    ap (λ b. cond b (from_then (time + o.delay) source) (slept outputs time w source)) (none 0 (omega arith)) ∙ slept_none outputs time w source (λ p low. none (suc p) (omega arith))

slept_past : (outputs others : List Output) (time w : ℕ) (source : WireSource) → ((p : ℕ) → p < length outputs → is_wire (output_in outputs p).wire w ≡ false) →
    slept (outputs ++ others) time w source ≡ slept others time w source
slept_past [] others time w source none = refl
slept_past (o ∷ outputs) others time w source none =
    ap (λ b. cond b (from_then (time + o.delay) source) (slept (outputs ++ others) time w source)) (none 0 (omega arith))
    ∙ slept_past outputs others time w source (λ p low. none (suc p) (omega arith))

slept_before : (outputs : List Output) (o : Output) (time w : ℕ) (source : WireSource) → is_wire o.wire w ≡ false → slept (outputs ++ o ∷ []) time w source ≡ slept outputs time w source
slept_before [] o time w source other = ap (λ b. cond b (from_then (time + o.delay) source) source) other
slept_before (x ∷ outputs) o time w source other = ap (cond (is_wire x.wire w) (from_then (time + x.delay) source)) (slept_before outputs o time w source other)

pub wire_is : (o : Option WireId) (w : ℕ) → is_wire o w ≡ true → o ≡ Some (record { 0 = w })
wire_is None w e = absurd (false≢true e)
wire_is (Some v) w e = ap (λ (n : ℕ). Some (let id : WireId = record { 0 = n } in id)) (eqb-true v.0 w e)

-- none of the outputs before one drives its wire
none_before : (outputs : List Output) (i : ℕ) (d : Output) (w : ℕ) → i < length outputs → HaveOwnWires outputs → (get_or outputs i d).wire ≡ Some (record { 0 = w }) →
    (p : ℕ) → p < length (take i outputs) → is_wire (output_in (take i outputs) p).wire w ≡ false
none_before outputs i d w low apart at p less = by (cases_Bool (is_wire (output_in (take i outputs) p).wire w))
  where
    before : p < i
    before = let long = length-take-le i outputs (omega arith) in omega arith

    here : output_in outputs i ≡ get_or outputs i d
    here = get_or_default outputs i (record { wire = None; delay = 1 }) d low

    there : output_in (take i outputs) p ≡ output_in outputs p
    there = get_or-take i outputs p (record { wire = None; delay = 1 }) before

    by : (is_wire (output_in (take i outputs) p).wire w ≡ true) ⊎ (is_wire (output_in (take i outputs) p).wire w ≡ false) → is_wire (output_in (take i outputs) p).wire w ≡ false
    by (inr other) = other
    by (inl own) =
        let same = apart p i (record { 0 = w }) (ap (λ (o : Output). o.wire) (sym there) ∙ wire_is (output_in (take i outputs) p).wire w own) (ap (λ (o : Output). o.wire) here ∙ at) in
        let less = before in
        absurd (omega arith)

pub slept_more : (outputs : List Output) (i : ℕ) (d : Output) (time w : ℕ) (source : WireSource) → i < length outputs → HaveOwnWires outputs →
    slept (get_or outputs i d ∷ []) time w (slept (take i outputs) time w source) ≡ slept (take (i + 1) outputs) time w source
slept_more outputs i d time w source low apart = by (cases_Bool (is_wire (get_or outputs i d).wire w)) ∙ sym (ap (λ os. slept os time w source) (take_more outputs i d low))
  where
    o : Output
    o = get_or outputs i d

    by : (is_wire o.wire w ≡ true) ⊎ (is_wire o.wire w ≡ false) → slept (o ∷ []) time w (slept (take i outputs) time w source) ≡ slept (take i outputs ++ o ∷ []) time w source
    by (inl own) =
        let none = none_before outputs i d w low apart (wire_is o.wire w own) in
        ap (slept (o ∷ []) time w) (slept_none (take i outputs) time w source none) ∙ sym (slept_past (take i outputs) (o ∷ []) time w source none)
    by (inr other) =
        ap (λ b. cond b (from_then (time + o.delay) (slept (take i outputs) time w source)) (slept (take i outputs) time w source)) other
        ∙ sym (slept_before (take i outputs) o time w source other)

-- an output's wire still has levels of its own where those before it have fallen asleep
pub own_levels : (run : Outcome) (t time : ℕ) (outputs : List Output) (i : ℕ) (d : Output) (was mid : Comparison) → i < length outputs → HaveOwnWires outputs → HaveOwnLevels outputs was →
    HaveTurned run t (slept (take i outputs) time) was mid → HasOwnLevels mid (get_or outputs i d)
own_levels run t time outputs i d was mid low apart own turned w at =
    ap (λ (s : WireSource). s.until) (turned.turned w ∙ slept_none (take i outputs) time w (source_at was w) (none_before outputs i d w low apart at)) ∙ own i d low w at

-- and a source
pub still_source : (run : Outcome) (t : ℕ) (change : ℕ → WireSource → WireSource) (o : Output) (was mid : Comparison) → HasCursors run t [] was → HaveTurned run t change was mid → IsSourceOf was o → IsSourceOf mid o
still_source run t change o was mid has turned source = record {
  late = source.late;
  short = source.short;
  within = λ w at.
      let long = sources_long run t [] was mid (ap (λ (c : Comparison). c.numbers) turned.kept) has turned.cursors in
      let low = source.within w at in
      omega arith;
}

-- the numbers of a wire that has levels of its own are listed as they are tracked
pub differ_own : (run : Outcome) (t wire : ℕ) (was mid is : Comparison) → mid ≡ record was { sources = mid.sources } → source_at mid wire ≡ from_then never (source_at was wire) →
    ((x : ℕ) → x < length mid.numbers.wires.items → wire_of mid.numbers x ≡ wire → 0 < asleep_at mid x → IsListed run t is x) →
    (x : ℕ) → x < length was.numbers.wires.items → wire_of was.numbers x ≡ wire → (is_following mid x || is_tracked mid x (t + 1)) ≡ true →
    ((is_following was x || is_tracked was x (t + 1)) ≡ true) ⊎ IsListed run t is x
differ_own run t wire was mid is kept source listed x low at needed = inr (by (or_cases (is_following mid x) (is_tracked mid x (t + 1)) needed))
  where
    numbers : mid.numbers ≡ was.numbers
    numbers = ap (λ (c : Comparison). c.numbers) kept

    at_mid : wire_of mid.numbers x ≡ wire
    at_mid = ap (λ (ns : Numbers). wire_of ns x) numbers ∙ at

    low_mid : x < length mid.numbers.wires.items
    low_mid = let e = ap (λ (ns : Numbers). length ns.wires.items) numbers in omega arith

    by : (is_following mid x ≡ true) ⊎ (is_tracked mid x (t + 1) ≡ true) → IsListed run t is x
    by (inl following) =
        let parts = and_parts (x == wire_of mid.numbers x) (is_to_follow (source_at mid (wire_of mid.numbers x))) following in
        let here = ap (λ w. is_to_follow (source_at mid w)) at_mid ∙ ap is_to_follow source in
        let split = and_parts (source_at was wire).is_on (not (never == never)) (sym here ∙ parts.1) in
        absurd (false≢true (sym (ap not (eq-eqb never never refl)) ∙ split.1))
    by (inr tracked) =
        let parts = and_parts (nat_lt 0 (asleep_at mid x)) (may_differ (source_at mid (wire_of mid.numbers x)) (delay_of mid.numbers x) (t + 1)) tracked in
        listed x low_mid at_mid (ltb-true 0 (asleep_at mid x) parts.0)

-- those of a wire that had levels of its own were tracked
pub follow_own : (run : Outcome) (t wire : ℕ) (was mid is : Comparison) → t + 1 < never → mid ≡ record was { sources = mid.sources } → (source_at was wire).until ≡ never → IsListed run t is wire →
    (x : ℕ) → x < length was.numbers.wires.items → wire_of was.numbers x ≡ wire → (is_following mid x || is_tracked mid x (t + 1)) ≡ true →
    ((is_following was x || is_tracked was x (t + 1)) ≡ true) ⊎ IsListed run t is x
follow_own run t wire was mid is early kept own listed x low at needed = by (or_cases (is_following mid x) (is_tracked mid x (t + 1)) needed)
  where
    numbers : mid.numbers ≡ was.numbers
    numbers = ap (λ (c : Comparison). c.numbers) kept

    at_mid : wire_of mid.numbers x ≡ wire
    at_mid = ap (λ (ns : Numbers). wire_of ns x) numbers ∙ at

    until : (source_at was (wire_of was.numbers x)).until ≡ never
    until = ap (λ w. (source_at was w).until) at ∙ own

    by : (is_following mid x ≡ true) ⊎ (is_tracked mid x (t + 1) ≡ true) → ((is_following was x || is_tracked was x (t + 1)) ≡ true) ⊎ IsListed run t is x
    by (inl following) =
        let parts = and_parts (x == wire_of mid.numbers x) (is_to_follow (source_at mid (wire_of mid.numbers x))) following in
        inr (subst (IsListed run t is) (sym (eqb-true x (wire_of mid.numbers x) parts.0 ∙ at_mid)) listed)
    by (inr tracked) =
        let parts = and_parts (nat_lt 0 (asleep_at mid x)) (may_differ (source_at mid (wire_of mid.numbers x)) (delay_of mid.numbers x) (t + 1)) tracked in
        let asleep = ap (λ (c : Comparison). nat_lt 0 (asleep_at c x)) (sym kept) ∙ parts.0 in
        let u = until in
        let differs = and_from (nat_lt (t + 1) ((source_at was (wire_of was.numbers x)).until + delay_of was.numbers x)) (nat_lt 0 (source_at was (wire_of was.numbers x)).until)
        (lt-ltb (t + 1) ((source_at was (wire_of was.numbers x)).until + delay_of was.numbers x) (omega arith)) (lt-ltb 0 (source_at was (wire_of was.numbers x)).until (omega arith)) in
        inl (or_right (is_following was x) (is_tracked was x (t + 1)) (and_from (nat_lt 0 (asleep_at was x)) (may_differ (source_at was (wire_of was.numbers x)) (delay_of was.numbers x) (t + 1)) asleep differs))

-- those of a wire that is turned on were tracked, if they are; and it is listed if it is to follow
pub on_own : (run : Outcome) (t wire : ℕ) (was mid is : Comparison) → mid ≡ record was { sources = mid.sources } → source_at mid wire ≡ turned_on (source_at was wire) →
    (is_to_follow (source_at mid wire) ≡ true → IsListed run t is wire) →
    (x : ℕ) → x < length was.numbers.wires.items → wire_of was.numbers x ≡ wire → (is_following mid x || is_tracked mid x (t + 1)) ≡ true →
    ((is_following was x || is_tracked was x (t + 1)) ≡ true) ⊎ IsListed run t is x
on_own run t wire was mid is kept source listed x low at needed = by (or_cases (is_following mid x) (is_tracked mid x (t + 1)) needed)
  where
    numbers : mid.numbers ≡ was.numbers
    numbers = ap (λ (c : Comparison). c.numbers) kept

    at_mid : wire_of mid.numbers x ≡ wire
    at_mid = ap (λ (ns : Numbers). wire_of ns x) numbers ∙ at

    differs : may_differ (source_at mid (wire_of mid.numbers x)) (delay_of mid.numbers x) (t + 1) ≡ may_differ (source_at was (wire_of was.numbers x)) (delay_of was.numbers x) (t + 1)
    differs =
        ap (λ w. may_differ (source_at mid w) (delay_of mid.numbers x) (t + 1)) at_mid ∙ ap (λ (s : WireSource). may_differ s (delay_of mid.numbers x) (t + 1)) source
        ∙ ap (λ (ns : Numbers). may_differ (source_at was wire) (delay_of ns x) (t + 1)) numbers ∙ ap (λ w. may_differ (source_at was w) (delay_of was.numbers x) (t + 1)) (sym at)

    by : (is_following mid x ≡ true) ⊎ (is_tracked mid x (t + 1) ≡ true) → ((is_following was x || is_tracked was x (t + 1)) ≡ true) ⊎ IsListed run t is x
    by (inl following) =
        let parts = and_parts (x == wire_of mid.numbers x) (is_to_follow (source_at mid (wire_of mid.numbers x))) following in
        let here = ap (λ w. is_to_follow (source_at mid w)) (sym at_mid) ∙ parts.1 in
        inr (subst (IsListed run t is) (sym (eqb-true x (wire_of mid.numbers x) parts.0 ∙ at_mid)) (listed here))
    by (inr tracked) =
        let parts = and_parts (nat_lt 0 (asleep_at mid x)) (may_differ (source_at mid (wire_of mid.numbers x)) (delay_of mid.numbers x) (t + 1)) tracked in
        let asleep = ap (λ (c : Comparison). nat_lt 0 (asleep_at c x)) (sym kept) ∙ parts.0 in
        inl (or_right (is_following was x) (is_tracked was x (t + 1)) (and_from (nat_lt 0 (asleep_at was x)) (may_differ (source_at was (wire_of was.numbers x)) (delay_of was.numbers x) (t + 1)) asleep (sym differs ∙ parts.1)))
