-- The entries of work spans, one after the other.
use Rattle.std.proofs.Common.{◌≡◌, ℕ, zero, suc, ◌+◌, ◌-◌, ◌<◌, ◌≤◌, Bool, true, false, if◌then◌else◌, nat_lt, List, [], ◌∷◌, ◌++◌, All, map, refl, sym, ap, subst, ◌∙◌, arith, inl, inr}
use Rattle.std.proofs.lemmas.Bool.{ltb-true}
use Rattle.std.proofs.lemmas.List.Elements.{All-nil, All-cons, All-tail, All-head, All-append}
use Rattle.std.proofs.lemmas.List.Sums.{sum_by-append, sum_by-cons}
use Rattle.std.proofs.lemmas.Nat.{mod_below}
use Rattle.mp_netlist.specs.Limits.{checkpoint_units}
use Rattle.mp_netlist.proofs.LimitLemmas.{units_positive}
use Rattle.mp_depend.specs.declared.work.work_entry.WorkEntry.{WorkEntry}
use Rattle.mp_depend.specs.declared.work.work_span.WorkSpan.{WorkSpan}
use Rattle.mp_depend.specs.work.Merges.{end_of_window, IsWorkSpan, first_entry, rest_of, is_sooner, merged, most_entries, entries_left, takes_waiting, Takes}

-- ---- what is left of a work span

-- it is a work span
pub rest_is : (least horizon : ℕ) (s : WorkSpan) → 0 < least → IsWorkSpan horizon s → All (IsWorkSpan horizon) (rest_of least horizon s)
rest_is least horizon s some is = by (nat_lt s.first_end s.last_end) refl
  where
    next : WorkSpan
    next = record { «module» = s.«module»; from = s.first_end; first_end = end_of_window least horizon s.first_end; last_end = s.last_end }

    by : (b : Bool) → nat_lt s.first_end s.last_end ≡ b → All (IsWorkSpan horizon) (if b then next ∷ [] else [])
    by true goes_on =
        let before = ltb-true s.first_end s.last_end goes_on in
        let ends = is.ends in
        let rest = mod_below s.first_end (checkpoint_units horizon) (units_positive horizon) in
        let one : IsWorkSpan horizon next = record { begins = omega (arith, before, ends, some, rest); ends = ends } in
        All-cons (IsWorkSpan horizon) next [] one (All-nil (IsWorkSpan horizon))
    by false ended = All-nil (IsWorkSpan horizon)

-- it has fewer entries
pub rest_fewer : (least horizon : ℕ) (s : WorkSpan) → IsWorkSpan horizon s → most_entries (rest_of least horizon s) < s.last_end - s.from + 1
rest_fewer least horizon s is = by (nat_lt s.first_end s.last_end) refl
  where
    next : WorkSpan
    next = record { «module» = s.«module»; from = s.first_end; first_end = end_of_window least horizon s.first_end; last_end = s.last_end }

    by : (b : Bool) → nat_lt s.first_end s.last_end ≡ b → most_entries (if b then next ∷ [] else []) < s.last_end - s.from + 1
    by true goes_on =
        let before = ltb-true s.first_end s.last_end goes_on in
        let begins = is.begins in
        omega (arith, before, begins)
    by false ended = omega arith

pub entries_behind : (q : List WorkSpan) (r : List WorkSpan) → most_entries (q ++ r) ≡ most_entries q + most_entries r
entries_behind q r = sum_by-append (λ (s : WorkSpan). s.last_end - s.from + 1) q r

pub entries_first : (s : WorkSpan) (q : List WorkSpan) → most_entries (s ∷ q) ≡ s.last_end - s.from + 1 + most_entries q
entries_first s q = sum_by-cons (λ (s : WorkSpan). s.last_end - s.from + 1) s q

either : (b : Bool) (x y : WorkEntry) (xs xs' ys ys' : List WorkEntry) → xs ≡ xs' → ys ≡ ys' → (if b then x ∷ xs else y ∷ ys) ≡ (if b then x ∷ xs' else y ∷ ys')
either true x y xs xs' ys ys' one other = ap (λ es. x ∷ es) one
either false x y xs xs' ys ys' one other = ap (λ es. y ∷ es) other

-- ---- the number of steps makes no difference where there are enough

pub merged_enough : (least horizon : ℕ) → 0 < least → (f g : ℕ) (q w : List WorkSpan) → All (IsWorkSpan horizon) q → All (IsWorkSpan horizon) w
    → most_entries q + most_entries w ≤ f → most_entries q + most_entries w ≤ g → merged least horizon f q w ≡ merged least horizon g q w
unfolding merged
merged_enough least horizon some zero zero q w begun waiting few enough = refl
merged_enough least horizon some zero (suc g) [] [] begun waiting few enough = refl
merged_enough least horizon some zero (suc g) [] (t ∷ w) begun waiting few enough = let more = entries_first t w in absurd (omega (arith, few, more))
merged_enough least horizon some zero (suc g) (s ∷ q) w begun waiting few enough = let more = entries_first s q in absurd (omega (arith, few, more))
merged_enough least horizon some (suc f) zero [] [] begun waiting few enough = refl
merged_enough least horizon some (suc f) zero [] (t ∷ w) begun waiting few enough = let more = entries_first t w in absurd (omega (arith, enough, more))
merged_enough least horizon some (suc f) zero (s ∷ q) w begun waiting few enough = let more = entries_first s q in absurd (omega (arith, enough, more))
merged_enough least horizon some (suc f) (suc g) [] [] begun waiting few enough = refl
merged_enough least horizon some (suc f) (suc g) [] (t ∷ w) begun waiting few enough =
    let is = All-head (IsWorkSpan horizon) t w waiting in
    let fewer = rest_fewer least horizon t is in
    let more = entries_first t w in
    ap (λ es. first_entry t ∷ es) (merged_enough least horizon some f g (rest_of least horizon t) w (rest_is least horizon t some is) (All-tail (IsWorkSpan horizon) t w waiting) (omega (arith, fewer, few, more)) (omega (arith, fewer, enough, more)))
merged_enough least horizon some (suc f) (suc g) (s ∷ q) [] begun waiting few enough =
    let is = All-head (IsWorkSpan horizon) s q begun in
    let fewer = rest_fewer least horizon s is in
    let more = entries_first s q in
    let both = entries_behind q (rest_of least horizon s) in
    ap (λ es. first_entry s ∷ es) (merged_enough least horizon some f g (q ++ rest_of least horizon s) [] (All-append (IsWorkSpan horizon) q (rest_of least horizon s) (All-tail (IsWorkSpan horizon) s q begun) (rest_is least horizon s some is)) waiting (omega (arith, fewer, few, both, more)) (omega (arith, fewer, enough, both, more)))
merged_enough least horizon some (suc f) (suc g) (s ∷ q) (t ∷ w) begun waiting few enough =
    let first = All-head (IsWorkSpan horizon) s q begun in
    let other = All-head (IsWorkSpan horizon) t w waiting in
    let fewer = rest_fewer least horizon s first in
    let fewer_others = rest_fewer least horizon t other in
    let more = entries_first s q in
    let more_others = entries_first t w in
    let both = entries_behind q (rest_of least horizon s) in
    let both_others = entries_behind (s ∷ q) (rest_of least horizon t) in
    either (is_sooner t s) (first_entry t) (first_entry s) (merged least horizon f ((s ∷ q) ++ rest_of least horizon t) w) (merged least horizon g ((s ∷ q) ++ rest_of least horizon t) w)
    (merged least horizon f (q ++ rest_of least horizon s) (t ∷ w)) (merged least horizon g (q ++ rest_of least horizon s) (t ∷ w))
    (merged_enough least horizon some f g ((s ∷ q) ++ rest_of least horizon t) w (All-append (IsWorkSpan horizon) (s ∷ q) (rest_of least horizon t) begun (rest_is least horizon t some other)) (All-tail (IsWorkSpan horizon) t w waiting) (omega (arith, fewer_others, few, both_others, more_others)) (omega (arith, fewer_others, enough, both_others, more_others)))
    (merged_enough least horizon some f g (q ++ rest_of least horizon s) (t ∷ w) (All-append (IsWorkSpan horizon) q (rest_of least horizon s) (All-tail (IsWorkSpan horizon) s q begun) (rest_is least horizon s some first)) waiting (omega (arith, fewer, few, both, more)) (omega (arith, fewer, enough, both, more)))

-- ---- one step

chosen : {A : Type 0} (b : Bool) (x y : A) → b ≡ true → (if b then x else y) ≡ x
chosen b x y is = ap (λ (c : Bool). if c then x else y) is

not_chosen : {A : Type 0} (b : Bool) (x y : A) → b ≡ false → (if b then x else y) ≡ y
not_chosen b x y is = ap (λ (c : Bool). if c then x else y) is

step_begun : (least horizon f : ℕ) (s : WorkSpan) (q w : List WorkSpan) → takes_waiting (s ∷ q) w ≡ false
    → merged least horizon (suc f) (s ∷ q) w ≡ first_entry s ∷ merged least horizon f (q ++ rest_of least horizon s) w
unfolding merged
step_begun least horizon f s q [] is = refl
step_begun least horizon f s q (t ∷ w) is =
    not_chosen (is_sooner t s) (first_entry t ∷ merged least horizon f ((s ∷ q) ++ rest_of least horizon t) w) (first_entry s ∷ merged least horizon f (q ++ rest_of least horizon s) (t ∷ w)) is

step_waiting : (least horizon f : ℕ) (q : List WorkSpan) (t : WorkSpan) (w : List WorkSpan) → takes_waiting q (t ∷ w) ≡ true
    → merged least horizon (suc f) q (t ∷ w) ≡ first_entry t ∷ merged least horizon f (q ++ rest_of least horizon t) w
unfolding merged
step_waiting least horizon f [] t w is = refl
step_waiting least horizon f (s ∷ q) t w is =
    chosen (is_sooner t s) (first_entry t ∷ merged least horizon f ((s ∷ q) ++ rest_of least horizon t) w) (first_entry s ∷ merged least horizon f (q ++ rest_of least horizon s) (t ∷ w)) is

-- the entries begin with the first one of the work span that is taken
pub taken_first : (least horizon : ℕ) → 0 < least → (q w : List WorkSpan) (s : WorkSpan) (later others : List WorkSpan) → All (IsWorkSpan horizon) q → All (IsWorkSpan horizon) w → Takes q w s later others
    → entries_left least horizon q w ≡ first_entry s ∷ entries_left least horizon (later ++ rest_of least horizon s) others
taken_first least horizon some q w s later others begun waiting (inl takes) =
    let total = most_entries q + most_entries w in
    let kept : All (IsWorkSpan horizon) (s ∷ later) = subst (All (IsWorkSpan horizon)) takes.1 begun in
    let is = All-head (IsWorkSpan horizon) s later kept in
    let fewer = rest_fewer least horizon s is in
    let both = entries_behind later (rest_of least horizon s) in
    let had = ap most_entries takes.1 ∙ entries_first s later in
    let same = ap most_entries takes.2 in
    let after = All-append (IsWorkSpan horizon) later (rest_of least horizon s) (All-tail (IsWorkSpan horizon) s later kept) (rest_is least horizon s some is) in
    merged_enough least horizon some total (suc total) q w begun waiting (omega arith) (omega arith)
    ∙ ap (λ l. merged least horizon (suc total) l w) takes.1
    ∙ step_begun least horizon total s later w (subst (λ l. takes_waiting l w ≡ false) takes.1 takes.0)
    ∙ ap (λ l. first_entry s ∷ merged least horizon total (later ++ rest_of least horizon s) l) (sym takes.2)
    ∙ ap (λ es. first_entry s ∷ es)
    (merged_enough least horizon some total (most_entries (later ++ rest_of least horizon s) + most_entries others) (later ++ rest_of least horizon s) others after
    (subst (All (IsWorkSpan horizon)) (sym takes.2) waiting) (omega (arith, fewer, both, had, same)) (omega arith))
taken_first least horizon some q w s later others begun waiting (inr takes) =
    let total = most_entries q + most_entries w in
    let kept : All (IsWorkSpan horizon) (s ∷ others) = subst (All (IsWorkSpan horizon)) takes.1 waiting in
    let is = All-head (IsWorkSpan horizon) s others kept in
    let fewer = rest_fewer least horizon s is in
    let both = entries_behind later (rest_of least horizon s) in
    let had = ap most_entries takes.1 ∙ entries_first s others in
    let same = ap most_entries takes.2 in
    let after = All-append (IsWorkSpan horizon) later (rest_of least horizon s) (subst (All (IsWorkSpan horizon)) (sym takes.2) begun) (rest_is least horizon s some is) in
    merged_enough least horizon some total (suc total) q w begun waiting (omega arith) (omega arith)
    ∙ ap (λ l. merged least horizon (suc total) q l) takes.1
    ∙ step_waiting least horizon total q s others (subst (λ l. takes_waiting q l ≡ true) takes.1 takes.0)
    ∙ ap (λ l. first_entry s ∷ merged least horizon total (l ++ rest_of least horizon s) others) (sym takes.2)
    ∙ ap (λ es. first_entry s ∷ es)
    (merged_enough least horizon some total (most_entries (later ++ rest_of least horizon s) + most_entries others) (later ++ rest_of least horizon s) others after
    (All-tail (IsWorkSpan horizon) s others kept) (omega (arith, fewer, both, had, same)) (omega arith))

pub none_left : (least horizon : ℕ) → entries_left least horizon [] [] ≡ []
unfolding merged
none_left least horizon = refl

-- what is taken is a work span, and so are the others
pub taken_are : (horizon : ℕ) (q w : List WorkSpan) (s : WorkSpan) (later others : List WorkSpan) → All (IsWorkSpan horizon) q → All (IsWorkSpan horizon) w → Takes q w s later others
    → IsWorkSpan horizon s × All (IsWorkSpan horizon) later × All (IsWorkSpan horizon) others
taken_are horizon q w s later others begun waiting (inl takes) =
    let kept : All (IsWorkSpan horizon) (s ∷ later) = subst (All (IsWorkSpan horizon)) takes.1 begun in
    (All-head (IsWorkSpan horizon) s later kept, All-tail (IsWorkSpan horizon) s later kept, subst (All (IsWorkSpan horizon)) (sym takes.2) waiting)
taken_are horizon q w s later others begun waiting (inr takes) =
    let kept : All (IsWorkSpan horizon) (s ∷ others) = subst (All (IsWorkSpan horizon)) takes.1 waiting in
    (All-head (IsWorkSpan horizon) s others kept, subst (All (IsWorkSpan horizon)) (sym takes.2) begun, All-tail (IsWorkSpan horizon) s others kept)

-- ---- work spans of one entry each

-- a work span that ends with its first entry
pub record IsAlone (horizon : ℕ) (s : WorkSpan) : Type 0 where
  pub is : IsWorkSpan horizon s
  pub one : s.first_end ≡ s.last_end

alone_rest : (least horizon : ℕ) (s : WorkSpan) → s.first_end ≡ s.last_end → rest_of least horizon s ≡ []
alone_rest least horizon s one = by (nat_lt s.first_end s.last_end) refl
  where
    next : WorkSpan
    next = record { «module» = s.«module»; from = s.first_end; first_end = end_of_window least horizon s.first_end; last_end = s.last_end }

    by : (b : Bool) → nat_lt s.first_end s.last_end ≡ b → (if b then next ∷ [] else []) ≡ []
    by true goes_on = let before = ltb-true s.first_end s.last_end goes_on in absurd (omega (arith, before, one))
    by false ended = refl

alone_merged : (least horizon f : ℕ) (w : List WorkSpan) → All (IsAlone horizon) w → most_entries w ≤ f → merged least horizon f [] w ≡ map first_entry w
unfolding merged
alone_merged least horizon zero [] alone enough = refl
alone_merged least horizon (suc f) [] alone enough = refl
alone_merged least horizon zero (t ∷ w) alone enough = let first = entries_first t w in absurd (omega (arith, enough, first))
alone_merged least horizon (suc f) (t ∷ w) alone enough =
    let none = alone_rest least horizon t (All-head (IsAlone horizon) t w alone).one in
    let first = entries_first t w in
    ap (λ r. first_entry t ∷ merged least horizon f r w) none ∙ ap (λ es. first_entry t ∷ es) (alone_merged least horizon f w (All-tail (IsAlone horizon) t w alone) (omega (arith, enough, first)))
