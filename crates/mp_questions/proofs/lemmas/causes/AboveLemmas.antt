-- The shares of a chain above a time, step by step, and when the chain begins.
use Rattle.std.proofs.Common.{◌≡◌, ℕ, ◌+◌, ◌-◌, ◌<◌, ◌≤◌, ◌^◌, Bool, true, false, not, ◌&&◌, cond, List, [], ◌∷◌, ◌++◌, append-nil, length, get_or, map, max, filter, flat_map, nat_lt, Option, Some, None, zero, suc, refl, ap, sym, subst, ◌∙◌, arith, zero-add}
use Rattle.std.specs.List.{sum_by, range_with_len}
use Rattle.std.proofs.lemmas.Bool.{lt-ltb, le-ltb}
use Rattle.std.proofs.lemmas.List.{same_lists}
use Rattle.std.proofs.lemmas.List.Filters.{length-filter_both}
use Rattle.std.proofs.lemmas.List.FromFn.{length-map-range_with_len, get_or-map-range_with_len}
use Rattle.std.proofs.lemmas.List.Sums.{sum_by-cons}
use Rattle.mp_netlist.specs.Circuit.{Circuit, IsCircuit}
use Rattle.mp_questions.specs.declared.causes.wire_change.WireChange.{WireChange}
use Rattle.mp_questions.specs.declared.causes.module_share.ModuleShare.{ModuleShare}
use Rattle.mp_questions.specs.declared.causes.moment.Moment.{Moment}
use Rattle.mp_questions.specs.causes.Changes.{last_change}
use Rattle.mp_questions.specs.timing.Ranges.{read_time}
use Rattle.mp_questions.specs.causes.Causes.{DrivingPort, cause_of, followed, port_of}
use Rattle.mp_questions.specs.causes.Chains.{chain_from, chain, begin_by, begin_of}
use Rattle.mp_questions.specs.causes.Shares.{time_of, units_of, is_port_of, is_step_in, steps_in, share, shares, units_above, steps_above, share_above, shares_above, has_steps, by_units}
use Rattle.mp_questions.specs.causes.Noting.{HasRoom, noted, with_step}
use Rattle.mp_questions.specs.causes.Paths.{share_line, path, path_text, before_line, chain_above, path_since}
use Rattle.mp_questions.proofs.lemmas.causes.ChainLemmas.{HasTime, followed_time, rest, rest_step, chain_is, last_change_time}
use Rattle.mp_questions.proofs.lemmas.causes.ShareLemmas.{units_bound, steps_bound}

abbrev is_counted : Circuit → ℕ → ℕ → WireChange → Bool
is_counted n from m c = nat_lt from c.time && is_step_in n m c

-- ---- how long and how many steps there are

less : (n : Circuit) (from : ℕ) (c : WireChange) → units_above n from c ≤ units_of n c
less n from c = omega arith

units_few : (n : Circuit) (from m : ℕ) (changes : List WireChange) → sum_by (units_above n from) (steps_above n from m changes) ≤ sum_by (units_of n) changes
units_few n from m [] = omega arith
units_few n from m (c ∷ changes) = by (is_counted n from m c) (units_few n from m changes)
  where
    by : (b : Bool) → sum_by (units_above n from) (steps_above n from m changes) ≤ sum_by (units_of n) changes
        → sum_by (units_above n from) (cond b (c ∷ steps_above n from m changes) (steps_above n from m changes)) ≤ sum_by (units_of n) (c ∷ changes)
    by true few = omega (arith, sum_by-cons (units_above n from) c (steps_above n from m changes), sum_by-cons (units_of n) c changes, less n from c, few)
    by false few = omega (arith, sum_by-cons (units_of n) c changes, few)

steps_few : (n : Circuit) (from m : ℕ) (changes : List WireChange) → length (steps_above n from m changes) ≤ length changes
steps_few n from m changes = omega (arith, length-filter_both (is_counted n from m) (λ c. not (is_counted n from m c)) (λ c. refl) changes)

-- ---- a step more

-- what is noted of a module, and what its steps above a time are that come yet, make up its share
pub record IsShareAbove (n : Circuit) (from : ℕ) (all left : List WireChange) (m : ℕ) (s : ModuleShare) : Type 0 where
  pub id : s.id.0 ≡ m
  pub units : s.units + sum_by (units_above n from) (steps_above n from m left) ≡ sum_by (units_above n from) (steps_above n from m all)
  pub steps : s.steps + length (steps_above n from m left) ≡ length (steps_above n from m all)

module _ (n : Circuit) (from : ℕ) where
  -- a step is noted of its module, and leaves the others
  noted_more : (all left : List WireChange) (c : WireChange) (m : ℕ) (s : ModuleShare) → IsShareAbove n from all (c ∷ left) m s → IsShareAbove n from all left m (noted (is_counted n from m c) (units_above n from c) s)
  noted_more all left c m s of = by (is_counted n from m c) refl
    where
      later : List WireChange
      later = steps_above n from m left

      by : (b : Bool) → is_counted n from m c ≡ b → IsShareAbove n from all left m (noted b (units_above n from c) s)
      by true is =
          let first : steps_above n from m (c ∷ left) ≡ c ∷ later = ap (λ (b : Bool). cond b (c ∷ later) later) is in
          let u : sum_by (units_above n from) (steps_above n from m (c ∷ left)) ≡ units_above n from c + sum_by (units_above n from) later = ap (sum_by (units_above n from)) first ∙ sum_by-cons (units_above n from) c later in
          let k : length (steps_above n from m (c ∷ left)) ≡ suc (length later) = ap length first in
          record { id = of.id; units = omega (arith, of.units, u); steps = omega (arith, of.steps, k) }
      by false is =
          let none : steps_above n from m (c ∷ left) ≡ later = ap (λ (b : Bool). cond b (c ∷ later) later) is in
          record { id = of.id; units = ap (λ cs. s.units + sum_by (units_above n from) cs) (sym none) ∙ of.units; steps = ap (λ cs. s.steps + length cs) (sym none) ∙ of.steps }

  -- the numbers of a share are no greater than the time of its chain
  share_room : IsCircuit n → (last : WireChange) (left : List WireChange) (c : WireChange) (m : ℕ) (s : ModuleShare) → 0 < last.time → last.time < 2 ^ 31 → is_counted n from m c ≡ true
      → IsShareAbove n from (rest n (Some last)) (c ∷ left) m s → HasRoom (units_above n from c) s
  share_room ok last left c m s some low is of =
      let all = rest n (Some last) in
      let more = noted_more all left c m s of in
      let kept : noted (is_counted n from m c) (units_above n from c) s ≡ with_step (units_above n from c) s = ap (λ b. noted b (units_above n from c) s) is in
      let now : IsShareAbove n from all left m (with_step (units_above n from c) s) = subst (IsShareAbove n from all left m) kept more in
      let a = units_few n from m all in
      let b = units_bound n ok last.time (Some last) some in
      let d = steps_few n from m all in
      let e = steps_bound n ok last.time (Some last) some in
      record { units = omega (arith, now.units, a, b, low); steps = omega (arith, now.steps, d, e, low) }

  -- a module that a change above the time comes from
  counted : (m : ℕ) (o : Option DrivingPort) (b : Bool) → is_port_of m (cond b o None) ≡ b && is_port_of m o
  counted m o true = refl
  counted m o false = refl

  -- what is left before a step, and the step's units
  module _ (ok : IsCircuit n) (change : WireChange) (now next : Option WireChange) (o : Option DrivingPort) (u : ℕ) (is : now ≡ Some change) (some : 0 < change.time) (goes : followed (cause_of n change) ≡ next)
      (port : o ≡ cond (nat_lt from change.time) (port_of (cause_of n change)) None) (units : u ≡ change.time - max from (time_of next)) where
    left_is : rest n now ≡ change ∷ rest n next
    left_is = ap (rest n) is ∙ rest_step n ok change some ∙ ap (λ f. change ∷ rest n f) goes

    units_are : units_above n from change ≡ u
    units_are = ap (λ f. change.time - max from (time_of f)) goes ∙ sym units

    here_is : (m : ℕ) → is_port_of m o ≡ is_counted n from m change
    here_is m = ap (is_port_of m) port ∙ counted m (port_of (cause_of n change)) (nat_lt from change.time)

    pub step_noted : (all : List WireChange) (m : ℕ) (s : ModuleShare) → IsShareAbove n from all (rest n now) m s → IsShareAbove n from all (rest n next) m (noted (is_port_of m o) u s)
    step_noted all m s of =
        subst (IsShareAbove n from all (rest n next) m)
        (ap (λ b. noted b (units_above n from change) s) (sym (here_is m)) ∙ ap (λ k. noted (is_port_of m o) k s) units_are)
        (noted_more all (rest n next) change m s (subst (λ l. IsShareAbove n from all l m s) left_is of))

    pub step_room : (last : WireChange) (m : ℕ) (s : ModuleShare) → 0 < last.time → last.time < 2 ^ 31 → is_port_of m o ≡ true → IsShareAbove n from (rest n (Some last)) (rest n now) m s → HasRoom u s
    step_room last m s first low here of =
        subst (λ k. HasRoom k s) units_are
        (share_room ok last (rest n next) change m s first low (sym (here_is m) ∙ here) (subst (λ l. IsShareAbove n from (rest n (Some last)) l m s) left_is of))

  -- when all is noted, these are the shares
  pub shares_are : (all : List WireChange) (list : List ModuleShare) → length list ≡ length n.modules
      → ((m : ℕ) (d : ModuleShare) → m < length n.modules → IsShareAbove n from all [] m (get_or list m d)) → list ≡ shares_above n from all
  shares_are all list long each =
      same_lists list (shares_above n from all) (long ∙ sym (length-map-range_with_len (share_above n from all) 0 (length n.modules)))
      (λ k d within. let low : k < length n.modules = omega (arith, within, long) in
      whole k (get_or list k d) (each k d low) ∙ sym (get_or-map-range_with_len (share_above n from all) 0 (length n.modules) k k d low (zero-add k)))
    where
      whole : (m : ℕ) (s : ModuleShare) → IsShareAbove n from all [] m s → s ≡ share_above n from all m
      whole m s of =
          let a : s.units ≡ sum_by (units_above n from) (steps_above n from m all) = omega (arith, of.units) in
          let b : s.steps ≡ length (steps_above n from m all) = omega (arith, of.steps) in
          ap (λ k. let t : ModuleShare = record { id = record { 0 = k }; units = s.units; steps = s.steps } in t) of.id
          ∙ ap (λ k. let t : ModuleShare = record { id = record { 0 = m }; units = k; steps = s.steps } in t) a
          ∙ ap (λ k. let t : ModuleShare = record { id = record { 0 = m }; units = sum_by (units_above n from) (steps_above n from m all); steps = k } in t) b

-- ---- when a chain begins

-- what is left of a chain begins then: where nothing is left, what was last begins it
abbrev pub begin_left : Circuit → Option WireChange → ℕ → ℕ
begin_left n None begin = begin
begin_left n (Some c) begin = begin_of n (rest n (Some c))

pub begin_next : (n : Circuit) → IsCircuit n → (change : WireChange) (next : Option WireChange) → 0 < change.time → followed (cause_of n change) ≡ next
    → begin_left n next (begin_by change (cause_of n change)) ≡ begin_of n (rest n (Some change))
begin_next n ok change next some goes = by next goes (followed_time n ok change some next goes).0 ∙ sym (ap (begin_of n) (rest_step n ok change some ∙ ap (λ f. change ∷ rest n f) goes))
  where
    more : (d : WireChange) (left behind : List WireChange) → left ≡ d ∷ behind → begin_of n left ≡ begin_of n (change ∷ left)
    more d left behind is = ap (begin_of n) is ∙ sym (ap (λ l. begin_of n (change ∷ l)) is)

    by : (f : Option WireChange) → followed (cause_of n change) ≡ f → HasTime f → begin_left n f (begin_by change (cause_of n change)) ≡ begin_of n (change ∷ rest n f)
    by None at has = refl
    by (Some d) at has = more d (rest n (Some d)) (rest n (followed (cause_of n d))) (rest_step n ok d has)

-- ---- the text

none_kept : (n : Circuit) (a k : ℕ) → filter has_steps (map (share n []) (range_with_len a k)) ≡ []
none_kept n a zero = refl
none_kept n a (suc k) = none_kept n (a + 1) k

pub no_text : (n : Circuit) → IsCircuit n → (moment : Moment) (from : ℕ) → None ≡ last_change n moment.wire (read_time n.horizon moment.time) → path_since n moment from ≡ []
unfolding path_since
no_text n ok moment from none = ap (chain_above n (read_time n.horizon from)) (chain_is n ok moment.wire (read_time n.horizon moment.time) None (sym none))

-- of a chain that is there
some_text : (n : Circuit) (from : ℕ) (c : WireChange) (changes behind : List WireChange) → changes ≡ c ∷ behind
    → chain_above n from changes ≡ flat_map (share_line n) (by_units (filter has_steps (shares_above n from changes))) ++ before_line from (begin_of n changes)
some_text n from c changes behind is =
    subst (λ l. chain_above n from l ≡ flat_map (share_line n) (by_units (filter has_steps (shares_above n from l))) ++ before_line from (begin_of n l)) (sym is) refl

pub text_is : (n : Circuit) → IsCircuit n → (moment : Moment) (from : ℕ) (c : WireChange) → 0 < c.time → Some c ≡ last_change n moment.wire (read_time n.horizon moment.time)
    → path_since n moment from
    ≡ flat_map (share_line n) (by_units (filter has_steps (shares_above n (read_time n.horizon from) (rest n (Some c))))) ++ before_line (read_time n.horizon from) (begin_of n (rest n (Some c)))
unfolding path_since
text_is n ok moment from c first some =
    ap (chain_above n (read_time n.horizon from)) (chain_is n ok moment.wire (read_time n.horizon moment.time) (Some c) (sym some))
    ∙ some_text n (read_time n.horizon from) c (rest n (Some c)) (rest n (followed (cause_of n c))) (rest_step n ok c first)

-- ---- above 0 is all of a chain

steps_all : (n : Circuit) → IsCircuit n → (m k : ℕ) (next : Option WireChange) → HasTime next → steps_above n 0 m (chain_from n k next) ≡ steps_in n m (chain_from n k next)
steps_all n ok m zero next has = refl
steps_all n ok m (suc k) None has = refl
steps_all n ok m (suc k) (Some c) has =
    let next = followed (cause_of n c) in
    let cs = chain_from n k next in
    ap (λ (b : Bool). cond (b && is_step_in n m c) (c ∷ steps_above n 0 m cs) (steps_above n 0 m cs)) (lt-ltb 0 c.time has)
    ∙ ap (λ (l : List WireChange). cond (is_step_in n m c) (c ∷ l) l) (steps_all n ok m k next (followed_time n ok c has next refl).0)

units_all : (n : Circuit) (changes : List WireChange) → sum_by (units_above n 0) changes ≡ sum_by (units_of n) changes
units_all n [] = refl
units_all n (c ∷ changes) =
    let same : units_above n 0 c ≡ units_of n c = omega arith in
    omega (arith, sum_by-cons (units_above n 0) c changes, sum_by-cons (units_of n) c changes, same, units_all n changes)

share_all : (n : Circuit) → IsCircuit n → (k : ℕ) (next : Option WireChange) → HasTime next → (m : ℕ) → share_above n 0 (chain_from n k next) m ≡ share n (chain_from n k next) m
share_all n ok k next has m =
    let all = chain_from n k next in
    ap (λ (steps : List WireChange). let t : ModuleShare = record { id = record { 0 = m }; units = sum_by (units_above n 0) steps; steps = length steps } in t) (steps_all n ok m k next has)
    ∙ ap (λ (u : ℕ). let t : ModuleShare = record { id = record { 0 = m }; units = u; steps = length (steps_in n m all) } in t) (units_all n (steps_in n m all))

shares_all : (n : Circuit) → IsCircuit n → (j : ℕ) (next : Option WireChange) → HasTime next → (a k : ℕ) → map (share_above n 0 (chain_from n j next)) (range_with_len a k) ≡ map (share n (chain_from n j next)) (range_with_len a k)
shares_all n ok j next has a zero = refl
shares_all n ok j next has a (suc k) =
    ap (λ (s : ModuleShare). s ∷ map (share_above n 0 (chain_from n j next)) (range_with_len (a + 1) k)) (share_all n ok j next has a)
    ∙ ap (λ (ss : List ModuleShare). share n (chain_from n j next) a ∷ ss) (shares_all n ok j next has (a + 1) k)

whole : (n : Circuit) (changes : List WireChange) → shares_above n 0 changes ≡ shares n changes → chain_above n 0 changes ≡ flat_map (share_line n) (by_units (filter has_steps (shares n changes)))
whole n [] same = sym (ap (λ ss. flat_map (share_line n) (by_units ss)) (none_kept n 0 (length n.modules)))
whole n (c ∷ cs) same =
    let begin = begin_of n (c ∷ cs) in
    let none : before_line 0 begin ≡ [] = rw (le-ltb begin 0 (omega arith)) refl in
    ap (λ l. flat_map (share_line n) (by_units (filter has_steps (shares_above n 0 (c ∷ cs)))) ++ l) none
    ∙ append-nil (flat_map (share_line n) (by_units (filter has_steps (shares_above n 0 (c ∷ cs)))))
    ∙ ap (λ ss. flat_map (share_line n) (by_units (filter has_steps ss))) same

pub path_from_zero : (n : Circuit) → IsCircuit n → (moment : Moment) → path_since n moment 0 ≡ path_text n moment
unfolding path_since path_text path
path_from_zero n ok moment =
    let t = read_time n.horizon moment.time in
    let next = last_change n moment.wire t in
    let time = last_change_time n moment.wire t next refl in
    let is : chain n moment.wire t ≡ rest n next = chain_is n ok moment.wire t next refl in
    let first : read_time n.horizon 0 ≡ 0 = omega arith in
    let same : shares_above n 0 (rest n next) ≡ shares n (rest n next) = shares_all n ok (time_of next) next time.0 0 (length n.modules) in
    ap (λ f. chain_above n f (chain n moment.wire t)) first
    ∙ ap (chain_above n 0) is
    ∙ whole n (rest n next) same
    ∙ sym (ap (λ cs. flat_map (share_line n) (by_units (filter has_steps (shares n cs)))) is)
