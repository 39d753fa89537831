-- Wires that are reached from those of width 1 are the control.
use Rattle.std.proofs.Common.{◌≡◌, ℕ, ◌+◌, ◌<◌, ◌≤◌, ◌==◌, ◌&&◌, ◌||◌, ◌⊎◌, inl, inr, Bool, true, false, cond, List, [], ◌∷◌, ◌++◌, length, filter, take, drop, set, replicate, get_or, All, Option, Some, None, is_some, IsSome, zero, suc, refl, ap, sym, subst, ◌∙◌, mul-zero, arith}
use Rattle.std.specs.List.{list_all, range_with_len}
use Rattle.std.proofs.lemmas.Bool.{cases_Bool, cases_lt, cases_eq, and_parts, and_from, or_left, or_cases, eq-eqb, ne_eqb, eqb-true, false_from_ne_true, true≢false}
use Rattle.std.proofs.lemmas.List.{get_or_default, length-append, take_all, take-append-le, map-append, map_push, get_or_append_left, get_or_past, get_or-set_same, get_or-set_other, length-set, length-replicate, length_push}
use Rattle.std.proofs.lemmas.List.Elements.{filter_agree, All-nil, All-head, All-tail, All-take, All-drop}
use Rattle.std.proofs.lemmas.List.Folds.{list_all-append, list_any-append}
use Rattle.std.proofs.lemmas.List.Sums.{count_by-le-length, sum_by-set, AllPass-from_list_all, list_all-from_AllPass}
use Rattle.std.proofs.lemmas.List.Folds.{sum_by-replicate}
use Rattle.mp_records.specs.declared.ids.WireId.{WireId}
use Rattle.mp_records.specs.declared.wire_record.WireRecord.{WireRecord}
use Rattle.mp_records.specs.declared.module_record.ModuleRecord.{ModuleRecord}
use Rattle.mp_records.specs.declared.ports.Input.{Input}
use Rattle.mp_netlist.specs.declared.driver.Driver.{Driver}
use Rattle.mp_netlist.specs.declared.driver.Driver.TheVariants.{Nothing, Stimulus, Port}
use Rattle.mp_netlist.specs.Circuit.{Circuit, IsCircuit, module_at, wire_at, width_of}
use Rattle.mp_netlist.specs.Drivers.{driver}
use Rattle.mp_model.proofs.MemberLemmas.{contains_range}
use Rattle.mp_steady.specs.Reaching.{mark_at, IsNeeded, AreReached, HaveEvents, AreFollowed}
use Rattle.mp_steady.specs.WireSets.{all_wires, control, has_control, has_events, has_inputs, has_wire, inputs_by, inputs_in, is_whole, numbers, passes_on, subsets, wire_inputs}
use Rattle.mp_steady.proofs.SetLemmas.{of_wire}
use Rattle.mp_steady.proofs.ListLemmas.{all_weaker, has_at, kept_all, kept_still, kept_twice, in_kept, in_wires, kept_passes, subset_fails, numbers_more}

-- ---- wires that exist

-- a wire that exists has a place
pub stands_low : (n : Circuit) (w : ℕ) → IsSome (wire_at n w) → w < length n.wires
stands_low n w stands = by (cases_lt w (length n.wires))
  where
    by : (w < length n.wires) ⊎ (length n.wires ≤ w) → w < length n.wires
    by (inl low) = low
    by (inr past) = absurd (true≢false (sym stands ∙ ap is_some (get_or_past n.wires w None past)))

pub in_all : (n : Circuit) (w : ℕ) → IsSome (wire_at n w) → has_wire (all_wires n) w ≡ true
in_all n w stands =
    let low = stands_low n w stands in
    in_kept (λ v. is_some (wire_at n v)) (range_with_len 0 (length n.wires)) w
    (in_wires (range_with_len 0 (length n.wires)) w (contains_range 0 (length n.wires) w (omega arith) (omega (arith, low)))) stands

pub event_stands : (n : Circuit) (w : ℕ) → has_events n w ≡ true → IsSome (wire_at n w)
event_stands n w events = by (wire_at n w) events
  where
    by : (slot : Option WireRecord) → (width_of slot == 1) ≡ true → IsSome slot
    by None one = let no : ⊥ = cc in absurd no
    by (Some r) one = refl

-- of wires that all exist
pub all_stand : (n : Circuit) (found : List WireId) → list_all (λ w. is_some (wire_at n w)) (numbers found) ≡ true → All (λ (w : WireId). IsSome (wire_at n w.0)) found
all_stand n [] all k d low = absurd (omega (arith, low))
all_stand n (w ∷ ws) all zero d low = (and_parts (is_some (wire_at n w.0)) (list_all (λ v. is_some (wire_at n v)) (numbers ws)) all).0
all_stand n (w ∷ ws) all (suc k) d low = all_stand n ws (and_parts (is_some (wire_at n w.0)) (list_all (λ v. is_some (wire_at n v)) (numbers ws)) all).1 k d (omega (arith, low))

-- one of wires that all exist
pub has_stands : (n : Circuit) (wires : List WireId) (w : ℕ) → All (λ (v : WireId). IsSome (wire_at n v.0)) wires → has_wire (numbers wires) w ≡ true → IsSome (wire_at n w)
has_stands n [] w all has = absurd (true≢false (sym has))
has_stands n (v ∷ vs) w all has =
    by (or_cases (v.0 == w) (has_wire (numbers vs) w) has) (has_stands n vs w (All-tail (λ (u : WireId). IsSome (wire_at n u.0)) v vs all))
  where
    by : ((v.0 == w) ≡ true) ⊎ (has_wire (numbers vs) w ≡ true) → (has_wire (numbers vs) w ≡ true → IsSome (wire_at n w)) → IsSome (wire_at n w)
    by (inl here) rest = subst (λ k. IsSome (wire_at n k)) (eqb-true v.0 w here) (All-head (λ (u : WireId). IsSome (wire_at n u.0)) v vs all)
    by (inr later) rest = rest later

pub control_stands : (n : Circuit) (found : List WireId) → numbers found ≡ control n → All (λ (w : WireId). IsSome (wire_at n w.0)) found
unfolding control
control_stands n found is =
    let stands : ℕ → Bool = (λ w. is_some (wire_at n w)) in
    all_stand n found
    (ap (list_all stands) is
    ∙ kept_still (λ w. list_all (λ wires. has_wire wires w) (filter (has_control n) (subsets (all_wires n)))) stands (all_wires n)
    (kept_all stands stands (range_with_len 0 (length n.wires)) (λ w is. is)))

abbrev InputStands : Circuit → Input → Type 0
InputStands n i = IsSome (wire_at n i.wire.0)

-- the wires that a wire depends on exist
pub inputs_stand : (n : Circuit) → IsCircuit n → (w : ℕ) → All (InputStands n) (wire_inputs n w)
inputs_stand n ok w = by (driver n w)
  where
    ports : (b : Bool) (p : ℕ) (inputs : List Input) → All (InputStands n) inputs → All (InputStands n) (cond b (take 1 (drop p inputs)) inputs)
    ports true p inputs whole = All-take (InputStands n) 1 (drop p inputs) (All-drop (InputStands n) p inputs whole)
    ports false p inputs whole = whole

    part : (m p : ℕ) (slot : Option ModuleRecord) → module_at n m ≡ slot → All (InputStands n) (inputs_in p slot)
    part m p None at = All-nil (InputStands n)
    part m p (Some r) at = ports (passes_on r.kind p) p r.inputs (λ k d low. ((ok.modules_ok m r at).reads k d low).0)

    by : (d : Driver) → All (InputStands n) (inputs_by n d)
    by Nothing = All-nil (InputStands n)
    by Stimulus = All-nil (InputStands n)
    by (Port m p) = part m.0 p (module_at n m.0) refl

-- ---- wires that are needed

-- a wire of width 1
pub event_needed : (n : Circuit) (w : ℕ) → has_events n w ≡ true → IsNeeded n w
event_needed n w events = record {
  stands = event_stands n w events;
  needed = λ wires whole.
      (let parts = and_parts (is_whole n wires) (list_all (has_wire wires) (filter (has_events n) (all_wires n))) whole in
      of_wire (has_wire wires) (filter (has_events n) (all_wires n)) w parts.1 (in_kept (has_events n) (all_wires n) w (in_all n w (event_stands n w events)) events));
}

-- what a wire depends on that is needed
pub input_needed : (n : Circuit) → IsCircuit n → (w : ℕ) → IsNeeded n w → (k : ℕ) (d : Input) → k < length (wire_inputs n w) → IsNeeded n (get_or (wire_inputs n w) k d).wire.0
input_needed n ok w is k d low = record {
  stands = inputs_stand n ok w k d low;
  needed = λ wires whole.
      (let parts = and_parts (is_whole n wires) (list_all (has_wire wires) (filter (has_events n) (all_wires n))) whole in
      AllPass-from_list_all (λ (i : Input). has_wire wires i.wire.0) (wire_inputs n w) (of_wire (has_inputs n wires) wires w parts.0 (is.needed wires whole)) k d low);
}

-- ---- wires that are reached

unmarked : (k w : ℕ) → mark_at (replicate k false) w ≡ false
unmarked zero w = refl
unmarked (suc k) zero = refl
unmarked (suc k) (suc w) = unmarked k w

pub reached_none : (n : Circuit) → AreReached n (replicate (length n.wires) false) []
reached_none n = record {
  places = length-replicate (length n.wires) false;
  listed = λ w. unmarked (length n.wires) w;
  once = sym (sum_by-replicate (λ (mark : Bool). cond mark 1 0) (length n.wires) false ∙ mul-zero (length n.wires));
  needed = λ w has. absurd (true≢false (sym has));
}

or_false : (b : Bool) → (b || false) ≡ b
or_false true = refl
or_false false = refl

or_true : (b : Bool) → (b || true) ≡ true
or_true true = refl
or_true false = refl

has_push : (order : List WireId) (wire : WireId) (w : ℕ) → has_wire (numbers (order ++ wire ∷ [])) w ≡ (has_wire (numbers order) w || (wire.0 == w))
has_push order wire w =
    ap (λ l. has_wire l w) (map_push (λ (v : WireId). v.0) order wire) ∙ list_any-append (λ v. v == w) (numbers order) (wire.0 ∷ [])
    ∙ ap (λ b. has_wire (numbers order) w || b) (or_false (wire.0 == w))

pub reached_more : (n : Circuit) (marks : List Bool) (order : List WireId) (wire : WireId) → AreReached n marks order → wire.0 < length marks → mark_at marks wire.0 ≡ false → IsNeeded n wire.0
    → AreReached n (set marks wire.0 true) (order ++ wire ∷ [])
reached_more n marks order wire are low new is = record {
  places = length-set marks wire.0 true ∙ are.places;
  listed = λ w. listed w (cases_eq w wire.0);
  once =
      (let change = sum_by-set (λ (mark : Bool). cond mark 1 0) marks wire.0 true false low in
      let before : ◌≡◌ {A = ℕ} (cond (get_or marks wire.0 false) 1 0) 0 = ap (λ b. let k : ℕ = cond b 1 0 in k) new in
      omega (arith, change, before, length_push order wire, are.once));
  needed = λ w has. needed w (or_cases (has_wire (numbers order) w) (wire.0 == w) (sym (has_push order wire w) ∙ has));
}
  where
    listed : (w : ℕ) → (w ≡ wire.0) ⊎ (w ≡ wire.0 → ⊥) → mark_at (set marks wire.0 true) w ≡ has_wire (numbers (order ++ wire ∷ [])) w
    listed w (inl same) =
        ap (mark_at (set marks wire.0 true)) same ∙ get_or-set_same marks wire.0 true false low ∙ sym (or_true (has_wire (numbers order) w)) ∙ ap (λ b. has_wire (numbers order) w || b) (sym (eq-eqb wire.0 w (sym same)))
        ∙ sym (has_push order wire w)
    listed w (inr other) =
        get_or-set_other marks wire.0 w true false other ∙ are.listed w ∙ sym (or_false (has_wire (numbers order) w))
        ∙ ap (λ b. has_wire (numbers order) w || b) (sym (ne_eqb wire.0 w (λ e. other (sym e)))) ∙ sym (has_push order wire w)

    needed : (w : ℕ) → (has_wire (numbers order) w ≡ true) ⊎ ((wire.0 == w) ≡ true) → IsNeeded n w
    needed w (inl before) = are.needed w before
    needed w (inr here) = subst (IsNeeded n) (eqb-true wire.0 w here) is

-- no more are listed than there are
pub order_low : (n : Circuit) (marks : List Bool) (order : List WireId) → AreReached n marks order → length order ≤ length n.wires
order_low n marks order are = omega (arith, are.once, are.places, count_by-le-length (λ (mark : Bool). mark) marks)

pub has_grown : (old more new : List WireId) → new ≡ old ++ more → (w : ℕ) → has_wire (numbers old) w ≡ true → has_wire (numbers new) w ≡ true
has_grown old more new is w has =
    ap (λ l. has_wire (numbers l) w) is ∙ ap (λ l. has_wire l w) (map-append (λ (v : WireId). v.0) old more) ∙ list_any-append (λ v. v == w) (numbers old) (numbers more)
    ∙ or_left (has_wire (numbers old) w) (has_wire (numbers more) w) has

-- a wire at a place is needed
pub listed_at : (n : Circuit) (marks : List Bool) (order : List WireId) → AreReached n marks order → (place : ℕ) (d : WireId) → place < length order → IsNeeded n (get_or order place d).0
listed_at n marks order are place d low = are.needed (get_or order place d).0 (has_at order place d low)

-- one wire more of width 1
pub events_next : (n : Circuit) (k : ℕ) (old new : List WireId) → HaveEvents n k old → ((w : ℕ) → has_wire (numbers old) w ≡ true → has_wire (numbers new) w ≡ true) → (has_events n k ≡ true → has_wire (numbers new) k ≡ true)
    → HaveEvents n (k + 1) new
events_next n k old new were kept now w low is = by (cases_lt w k)
  where
    by : (w < k) ⊎ (k ≤ w) → has_wire (numbers new) w ≡ true
    by (inl before) = kept w (were w before is)
    by (inr past) = let here : w ≡ k = omega (arith, past, low) in ap (has_wire (numbers new)) here ∙ now (ap (has_events n) (sym here) ∙ is)

-- of one wire more is listed what it depends on
pub followed_next : (n : Circuit) (place : ℕ) (old more new : List WireId) (d : WireId) → place < length old → new ≡ old ++ more → AreFollowed n place old → has_inputs n (numbers new) (get_or old place d).0 ≡ true
    → AreFollowed n (place + 1) new
followed_next n place old more new d low is were now =
    ap (list_all (has_inputs n (numbers new))) wires ∙ list_all-append (has_inputs n (numbers new)) (numbers (take place old)) ((get_or old place d).0 ∷ [])
    ∙ and_from (list_all (has_inputs n (numbers new)) (numbers (take place old))) (has_inputs n (numbers new) (get_or old place d).0 && true) before (and_from (has_inputs n (numbers new) (get_or old place d).0) true now refl)
  where
    long : place < length new
    long = omega (arith, ap length is, length-append old more, low)

    wires : numbers (take (place + 1) new) ≡ numbers (take place old) ++ (get_or old place d).0 ∷ []
    wires =
        numbers_more new place d long
        ∙ ap (λ l. numbers l ++ (get_or new place d).0 ∷ []) (ap (take place) is ∙ take-append-le place old more (omega (arith, low)))
        ∙ ap (λ (v : WireId). numbers (take place old) ++ v.0 ∷ []) (ap (λ l. get_or l place d) is ∙ get_or_append_left old more d place low)

    before : list_all (has_inputs n (numbers new)) (numbers (take place old)) ≡ true
    before =
        all_weaker (has_inputs n (numbers old)) (has_inputs n (numbers new)) (numbers (take place old))
        (λ w has. all_weaker (λ (i : Input). has_wire (numbers old) i.wire.0) (λ (i : Input). has_wire (numbers new) i.wire.0) (wire_inputs n w) (λ i in'. has_grown old more new is i.wire.0 in') has)
        were

-- each of the inputs so far is listed, and one more
pub inputs_next : (inputs : List Input) (i : ℕ) (d : Input) (old more new : List WireId) → new ≡ old ++ more
    → ((k : ℕ) (e : Input) → k < i → k < length inputs → has_wire (numbers old) (get_or inputs k e).wire.0 ≡ true) → has_wire (numbers new) (get_or inputs i d).wire.0 ≡ true
    → (k : ℕ) (e : Input) → k < i + 1 → k < length inputs → has_wire (numbers new) (get_or inputs k e).wire.0 ≡ true
inputs_next inputs i d old more new is were now k e upto low = by (cases_lt k i)
  where
    by : (k < i) ⊎ (i ≤ k) → has_wire (numbers new) (get_or inputs k e).wire.0 ≡ true
    by (inl before) = has_grown old more new is (get_or inputs k e).wire.0 (were k e before low)
    by (inr past) =
        let here : i ≡ k = omega (arith, past, upto) in
        ap (λ (x : Input). has_wire (numbers new) x.wire.0) (get_or_default inputs k e d low ∙ ap (λ j. get_or inputs j d) (sym here)) ∙ now

-- all of them
pub inputs_all : (n : Circuit) (w : ℕ) (wires : List ℕ) → ((k : ℕ) (e : Input) → k < length (wire_inputs n w) → has_wire wires (get_or (wire_inputs n w) k e).wire.0 ≡ true) → has_inputs n wires w ≡ true
inputs_all n w wires each = list_all-from_AllPass (λ (i : Input). has_wire wires i.wire.0) (wire_inputs n w) each

-- ---- the control

module _ (n : Circuit) (marks : List Bool) (order : List WireId) (are : AreReached n marks order) (events : HaveEvents n (length n.wires) order) (followed : list_all (has_inputs n (numbers order)) (numbers order) ≡ true) where
  abbrev kept : List ℕ
  kept = filter (mark_at marks) (all_wires n)

  marked_needed : (w : ℕ) → mark_at marks w ≡ true → IsNeeded n w
  marked_needed w mark = are.needed w (sym (are.listed w) ∙ mark)

  has_kept : (w : ℕ) → has_wire kept w ≡ mark_at marks w
  has_kept w = by (cases_Bool (mark_at marks w))
    where
      by : ((mark_at marks w ≡ true) ⊎ (mark_at marks w ≡ false)) → has_wire kept w ≡ mark_at marks w
      by (inl mark) = in_kept (mark_at marks) (all_wires n) w (in_all n w (marked_needed w mark).stands) mark ∙ sym mark
      by (inr none) = false_from_ne_true (has_wire kept w) (λ has. true≢false (sym (kept_passes (mark_at marks) (all_wires n) w has) ∙ none)) ∙ sym none

  kept_inputs : (w : ℕ) → mark_at marks w ≡ true → has_inputs n kept w ≡ true
  kept_inputs w mark =
      all_weaker (λ (i : Input). has_wire (numbers order) i.wire.0) (λ (i : Input). has_wire kept i.wire.0) (wire_inputs n w) (λ i has. has_kept i.wire.0 ∙ are.listed i.wire.0 ∙ has)
      (of_wire (has_inputs n (numbers order)) (numbers order) w followed (sym (are.listed w) ∙ mark))

  kept_control : has_control n kept ≡ true
  kept_control =
      and_from (is_whole n kept) (list_all (has_wire kept) (filter (has_events n) (all_wires n))) (kept_all (mark_at marks) (has_inputs n kept) (all_wires n) kept_inputs)
      (kept_all (has_events n) (has_wire kept) (all_wires n) (λ w is. has_kept w ∙ are.listed w ∙ events w (stands_low n w (event_stands n w is)) is))

  in_each : (w : ℕ) → mark_at marks w ≡ list_all (λ wires. has_wire wires w) (filter (has_control n) (subsets (all_wires n)))
  in_each w = by (cases_Bool (mark_at marks w))
    where
      by : ((mark_at marks w ≡ true) ⊎ (mark_at marks w ≡ false)) → mark_at marks w ≡ list_all (λ wires. has_wire wires w) (filter (has_control n) (subsets (all_wires n)))
      by (inl mark) = mark ∙ sym (kept_all (has_control n) (λ wires. has_wire wires w) (subsets (all_wires n)) (λ wires whole. (marked_needed w mark).needed wires whole))
      by (inr none) = none ∙ sym (subset_fails (has_control n) (λ wires. has_wire wires w) (mark_at marks) (all_wires n) kept_control (has_kept w ∙ none))

  is_control : filter (mark_at marks) (range_with_len 0 (length n.wires)) ≡ control n
  unfolding control
  is_control =
      sym (kept_twice (mark_at marks) (λ w. is_some (wire_at n w)) (range_with_len 0 (length n.wires)) (λ w mark. (marked_needed w mark).stands))
      ∙ filter_agree (mark_at marks) (λ w. list_all (λ wires. has_wire wires w) (filter (has_control n) (subsets (all_wires n)))) in_each (all_wires n)

-- when all that are listed were looked at, the marks are those of the control
pub control_is : (n : Circuit) (marks : List Bool) (order : List WireId) (place : ℕ) → AreReached n marks order → HaveEvents n (length n.wires) order → AreFollowed n place order → length order ≤ place
    → filter (mark_at marks) (range_with_len 0 (length n.wires)) ≡ control n
control_is n marks order place are events followed past =
    is_control n marks order are events (ap (λ (l : List WireId). list_all (has_inputs n (numbers order)) (numbers l)) (sym (take_all place order past)) ∙ followed)
