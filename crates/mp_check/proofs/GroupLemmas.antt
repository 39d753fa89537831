-- Groups of problems, problem by problem.
use Rattle.std.proofs.Common.{◌≡◌, ℕ, ◌+◌, ◌*◌, ◌<◌, ◌≤◌, ◌^◌, ◌==◌, ◌&&◌, ◌||◌, Bool, true, false, not, cond, nat_eq, List, [], ◌∷◌, ◌++◌, append-nil, length, length-append, get_or, IfSome, map, max, filter, fold, Option, Some, refl, ap, ap₂, sym, ◌∙◌, arith}
use Rattle.std.specs.List.{AllByRecursion}
use Rattle.std.specs.Map.{lookup, values_of}
use Rattle.std.proofs.lemmas.Bool.Decides.{nat_tests}
use Rattle.std.proofs.lemmas.Bool.{eqb-true, eq-eqb, ne_eqb}
use Rattle.std.proofs.lemmas.List.{map-append}
use Rattle.std.proofs.lemmas.List.Elements.{All-map, filter-append}
use Rattle.std.proofs.lemmas.List.Filters.{length-filter_both}
use Rattle.std.proofs.lemmas.List.Sums.{fold-append}
use Rattle.std.proofs.lemmas.Map.Entries.{All-lookup}
use Rattle.std.proofs.lemmas.Map.Views.{any-filter_same}
use Rattle.indexmap.specs.IndexMap.{insert_entry}
use Rattle.mp_modules.specs.Findings.{code_number}
use Rattle.mp_modules.specs.declared.finding_code.FindingCode.{FindingCode}
use Rattle.mp_modules.specs.declared.finding_code.FindingCode.TheVariants as codes
use Rattle.mp_model.specs.declared.finding.Place.{Place}
use Rattle.mp_model.specs.declared.finding.Place.TheVariants.{Module, Bundle}
use Rattle.mp_questions.specs.Once.{firsts}
use Rattle.mp_questions.proofs.lemmas.OnceLemmas.{firsts_more, is_known}
use Rattle.mp_check.specs.Grouping.{alone, joined, joined_to, keyed_groups}
use Rattle.mp_check.specs.Keys.{key_of, place_key}
use Rattle.mp_check.specs.Problems.{alike, group_of, groups, is_alike, is_place, last_time, most_units, time_of, units_of}
use Rattle.mp_check.specs.declared.group.Group.{Group}
use Rattle.mp_check.specs.declared.problem.Problem.{Problem}
use Rattle.mp_check.specs.declared.problem.Problem.TheVariants.{Found, Late}

-- ---- keys

record IsCode (k : ℕ) : Type 0 where
  low : 1 ≤ k
  high : k ≤ 14

code_is : (code : FindingCode) → IsCode (code_number code)
code_is codes.MergeCollision = record { low = omega arith; high = omega arith }
code_is codes.Withdrawn = record { low = omega arith; high = omega arith }
code_is codes.SelectUnstable = record { low = omega arith; high = omega arith }
code_is codes.CallOverlap = record { low = omega arith; high = omega arith }
code_is codes.DoneWithoutCall = record { low = omega arith; high = omega arith }
code_is codes.RepeatRequest = record { low = omega arith; high = omega arith }
code_is codes.DoneWithoutGrant = record { low = omega arith; high = omega arith }
code_is codes.CaptureWhileHeld = record { low = omega arith; high = omega arith }
code_is codes.PassWhileOpen = record { low = omega arith; high = omega arith }
code_is codes.DataAtCapture = record { low = omega arith; high = omega arith }
code_is codes.DataWhileBusy = record { low = omega arith; high = omega arith }
code_is codes.Setup = record { low = omega arith; high = omega arith }
code_is codes.RequestWhileBusy = record { low = omega arith; high = omega arith }
code_is codes.AckWhileIdle = record { low = omega arith; high = omega arith }

same_place : (p q : Place) → is_place p q ≡ (place_key p == place_key q)
same_place (Module m) (Module k) = grind (arith, nat_tests)
same_place (Module m) (Bundle b) = sym (ne_eqb (m.0 * 2) (b.0 * 2 + 1) (λ e. omega (arith, e)))
same_place (Bundle b) (Module m) = sym (ne_eqb (b.0 * 2 + 1) (m.0 * 2) (λ e. omega (arith, e)))
same_place (Bundle b) (Bundle d) = grind (arith, nat_tests)

both_same : (a b x y : ℕ) → x < 16 → y < 16 → (a == b) && (x == y) ≡ (a * 16 + x == b * 16 + y)
both_same a b x y low high = by (a == b) refl (x == y) refl
  where
    by : (s : Bool) → (a == b) ≡ s → (t : Bool) → (x == y) ≡ t → s && t ≡ (a * 16 + x == b * 16 + y)
    by true ab true xy = sym (eq-eqb (a * 16 + x) (b * 16 + y) (omega (arith, eqb-true a b ab, eqb-true x y xy)))
    by true ab false xy = grind (arith, nat_tests)
    by false ab t xy = grind (arith, nat_tests)

-- problems are alike where their keys are the same
pub alike_is : (p q : Problem) → is_alike p q ≡ (key_of p == key_of q)
alike_is (Found f) (Found g) =
    let a = code_is f.code in
    let b = code_is g.code in
    ap (λ (s : Bool). s && (code_number f.code == code_number g.code)) (same_place f.place g.place)
    ∙ both_same (place_key f.place) (place_key g.place) (code_number f.code) (code_number g.code) (omega (arith, a.high)) (omega (arith, b.high))
alike_is (Found f) (Late l) =
    let a = code_is f.code in
    sym (ne_eqb (place_key f.place * 16 + code_number f.code) ((l.bundle.0 * 2 + 1) * 16) (λ e. omega (arith, e, a.low, a.high)))
alike_is (Late l) (Found f) =
    let a = code_is f.code in
    sym (ne_eqb ((l.bundle.0 * 2 + 1) * 16) (place_key f.place * 16 + code_number f.code) (λ e. omega (arith, e, a.low, a.high)))
alike_is (Late l) (Late k) = grind (arith, nat_tests)

either_way : (a b : ℕ) → (a == b) ≡ (b == a)
either_way a b = grind (arith, nat_tests)

turned : (p q : Problem) → is_alike p q ≡ is_alike q p
turned p q = alike_is p q ∙ either_way (key_of p) (key_of q) ∙ sym (alike_is q p)

-- what is like one of two that are alike is like the other
same_kind : (x q y : Problem) → is_alike x q ≡ true → is_alike x y ≡ is_alike q y
same_kind x q y is =
    let key : key_of x ≡ key_of q = eqb-true (key_of x) (key_of q) (sym (alike_is x q) ∙ is) in
    alike_is x y ∙ ap (λ (k : ℕ). k == key_of y) key ∙ sym (alike_is q y)

-- ---- one group

-- some problems that are alike, summed up
abbrev sum_up : Problem → List Problem → Group
sum_up p group = record { first = p; count = length group; last = last_time group; worst = most_units group }

module _ (q : Problem) where
  sum_more : (p : Problem) (group : List Problem) (b : Bool) → sum_up p (group ++ cond b (q ∷ []) []) ≡ cond b (joined (sum_up p group) q) (sum_up p group)
  sum_more p group true =
      let count : length (group ++ q ∷ []) ≡ length group + 1 = length-append group (q ∷ []) in
      let last : last_time (group ++ q ∷ []) ≡ time_of q = fold-append (λ (before : ℕ) (r : Problem). time_of r) 0 group (q ∷ []) in
      let worst : most_units (group ++ q ∷ []) ≡ max (most_units group) (units_of q) =
      ap (fold max 0) (map-append units_of group (q ∷ [])) ∙ fold-append max 0 (map units_of group) (units_of q ∷ []) in
      ap (λ (k : ℕ). let g : Group = record { first = p; count = k; last = last_time (group ++ q ∷ []); worst = most_units (group ++ q ∷ []) } in g) count
      ∙ ap (λ (t : ℕ). let g : Group = record { first = p; count = length group + 1; last = t; worst = most_units (group ++ q ∷ []) } in g) last
      ∙ ap (λ (u : ℕ). let g : Group = record { first = p; count = length group + 1; last = time_of q; worst = u } in g) worst
  sum_more p group false = ap (sum_up p) (append-nil group)

  group_more : (problems : List Problem) (p : Problem) → group_of (problems ++ q ∷ []) p ≡ cond (is_alike p q) (joined (group_of problems p) q) (group_of problems p)
  group_more problems p = ap (sum_up p) (filter-append (is_alike p) problems (q ∷ [])) ∙ sum_more p (alike p problems) (is_alike p q)

  -- the first of its kind
  none_alike : (problems : List Problem) → is_known is_alike problems q ≡ false → alike q problems ≡ []
  none_alike [] none = refl
  none_alike (p ∷ others) none = by (is_alike p q) refl none (none_alike others)
    where
      by : (b : Bool) → is_alike p q ≡ b → b || is_known is_alike others q ≡ false → (is_known is_alike others q ≡ false → alike q others ≡ []) → alike q (p ∷ others) ≡ []
      by true is out later = cc
      by false is out later = ap (λ (b : Bool). cond b (p ∷ alike q others) (alike q others)) (turned q p ∙ is) ∙ later out

  like_itself : is_alike q q ≡ true
  like_itself = alike_is q q ∙ eq-eqb (key_of q) (key_of q) refl

  first_group : (problems : List Problem) → is_known is_alike problems q ≡ false → group_of (problems ++ q ∷ []) q ≡ alone q
  first_group problems none =
      group_more problems q ∙ ap (λ (b : Bool). cond b (joined (group_of problems q) q) (group_of problems q)) like_itself
      ∙ ap (λ (group : List Problem). joined (sum_up q group) q) (none_alike problems none)
      ∙ (let most : max 0 (units_of q) ≡ units_of q = omega arith in
      ap (λ (u : ℕ). let g : Group = record { first = q; count = 1; last = time_of q; worst = u } in g) most)

-- ---- the first ones

-- no two are alike
abbrev Distinct : List Problem → Type 0
Distinct [] = Unit {0}
Distinct (x ∷ others) = AllByRecursion (λ y. is_alike x y ≡ false) others × Distinct others

all_kept : (P : Problem → Type 0) (keep : Problem → Bool) (xs : List Problem) → AllByRecursion P xs → AllByRecursion P (filter keep xs)
all_kept P keep [] all = tt
all_kept P keep (x ∷ others) all = by (keep x) (all_kept P keep others all.1)
  where
    by : (b : Bool) → AllByRecursion P (filter keep others) → AllByRecursion P (cond b (x ∷ filter keep others) (filter keep others))
    by true later = (all.0, later)
    by false later = later

distinct_kept : (keep : Problem → Bool) (xs : List Problem) → Distinct xs → Distinct (filter keep xs)
distinct_kept keep [] are = tt
distinct_kept keep (x ∷ others) are = by (keep x) (distinct_kept keep others are.1)
  where
    by : (b : Bool) → Distinct (filter keep others) → Distinct (cond b (x ∷ filter keep others) (filter keep others))
    by true later = (all_kept (λ y. is_alike x y ≡ false) keep others are.0, later)
    by false later = later

left_out : (x : Problem) (xs : List Problem) → AllByRecursion (λ y. is_alike x y ≡ false) (filter (λ y. not (is_alike x y)) xs)
left_out x [] = tt
left_out x (y ∷ others) = by (is_alike x y) refl (left_out x others)
  where
    by : (b : Bool) → is_alike x y ≡ b → AllByRecursion (λ z. is_alike x z ≡ false) (filter (λ z. not (is_alike x z)) others)
        → AllByRecursion (λ z. is_alike x z ≡ false) (cond (not b) (y ∷ filter (λ z. not (is_alike x z)) others) (filter (λ z. not (is_alike x z)) others))
    by true is later = later
    by false is later = (is, later)

distinct_firsts : (problems : List Problem) → Distinct (firsts is_alike problems)
distinct_firsts [] = tt
distinct_firsts (x ∷ others) = (left_out x (firsts is_alike others), distinct_kept (λ y. not (is_alike x y)) (firsts is_alike others) (distinct_firsts others))

-- one of the first ones is like a problem where one of all is
known_firsts : (problems : List Problem) (q : Problem) → is_known is_alike (firsts is_alike problems) q ≡ is_known is_alike problems q
known_firsts [] q = refl
known_firsts (x ∷ others) q = by (is_alike x q) refl (known_firsts others q)
  where
    by : (b : Bool) → is_alike x q ≡ b → is_known is_alike (firsts is_alike others) q ≡ is_known is_alike others q
        → b || is_known is_alike (filter (λ y. not (is_alike x y)) (firsts is_alike others)) q ≡ b || is_known is_alike others q
    by true is later = refl
    by false is later =
        any-filter_same (λ y. is_alike y q) (λ y. not (is_alike x y)) true (λ y at. ap not (turned x y ∙ same_kind y q x at ∙ turned q x ∙ is)) (firsts is_alike others)
        ∙ later

-- ---- all groups

module _ (q : Problem) (problems : List Problem) where
  abbrev before : Problem → ℕ × Group
  before p = (key_of p, group_of problems p)

  abbrev now : Problem → ℕ × Group
  now p = (key_of p, cond (is_alike p q) (joined (group_of problems p) q) (group_of problems p))

  key_test : (p : Problem) → nat_eq (key_of q) (key_of p) ≡ is_alike p q
  key_test p = either_way (key_of q) (key_of p) ∙ sym (alike_is p q)

  unchanged : (x : Problem) (others : List Problem) → is_alike x q ≡ true → AllByRecursion (λ y. is_alike x y ≡ false) others → map before others ≡ map now others
  unchanged x [] is none = refl
  unchanged x (y ∷ others) is none =
      let other : is_alike y q ≡ false = turned y q ∙ sym (same_kind x q y is) ∙ none.0 in
      ap₂ (λ (b : Bool) (l : List (ℕ × Group)). (key_of y, cond b (joined (group_of problems y) q) (group_of problems y)) ∷ l) (sym other) (unchanged x others is none.1)

  inserted : (xs : List Problem) → Distinct xs → insert_entry nat_eq (map before xs) (key_of q) (joined_to (lookup (nat_eq (key_of q)) (map before xs)) q)
      ≡ map now xs ++ cond (is_known is_alike xs q) [] ((key_of q, alone q) ∷ [])
  inserted [] are = refl
  inserted (x ∷ others) are = by (is_alike x q) refl (nat_eq (key_of q) (key_of x)) (key_test x) (inserted others are.1)
    where
      by : (b : Bool) → is_alike x q ≡ b → (test : Bool) → test ≡ is_alike x q
          → insert_entry nat_eq (map before others) (key_of q) (joined_to (lookup (nat_eq (key_of q)) (map before others)) q) ≡ map now others ++ cond (is_known is_alike others q) [] ((key_of q, alone q) ∷ [])
          → (let found : Option Group = cond test (Some (group_of problems x)) (lookup (nat_eq (key_of q)) (map before others)) in
          cond test ((key_of x, joined_to found q) ∷ map before others) (before x ∷ insert_entry nat_eq (map before others) (key_of q) (joined_to found q)))
          ≡ (key_of x, cond b (joined (group_of problems x) q) (group_of problems x)) ∷ (map now others ++ cond (b || is_known is_alike others q) [] ((key_of q, alone q) ∷ []))
      by true is true at later = ap (λ (l : List (ℕ × Group)). (key_of x, joined (group_of problems x) q) ∷ l) (unchanged x others is are.0 ∙ sym (append-nil (map now others)))
      by true is false at later = cc
      by false is true at later = cc
      by false is false at later = ap (λ (l : List (ℕ × Group)). before x ∷ l) later

  same_entries : (xs : List Problem) → map now xs ≡ map (λ p. (key_of p, group_of (problems ++ q ∷ []) p)) xs
  same_entries [] = refl
  same_entries (x ∷ others) = ap₂ (λ (g : Group) (l : List (ℕ × Group)). (key_of x, g) ∷ l) (sym (group_more q problems x)) (same_entries others)

  last_entry : (b : Bool) → is_known is_alike problems q ≡ b
      → cond {A = List (ℕ × Group)} b [] ((key_of q, alone q) ∷ []) ≡ map (λ p. (key_of p, group_of (problems ++ q ∷ []) p)) (cond b [] (q ∷ []))
  last_entry true is = refl
  last_entry false is = ap (λ (g : Group). (key_of q, g) ∷ []) (sym (first_group q problems is))

  -- with a problem more
  pub keyed_more : insert_entry nat_eq (keyed_groups problems) (key_of q) (joined_to (lookup (nat_eq (key_of q)) (keyed_groups problems)) q) ≡ keyed_groups (problems ++ q ∷ [])
  keyed_more =
      let fs = firsts is_alike problems in
      let known = is_known is_alike problems q in
      let entry : Problem → ℕ × Group = (λ p. (key_of p, group_of (problems ++ q ∷ []) p)) in
      inserted fs (distinct_firsts problems)
      ∙ ap₂ (λ (l : List (ℕ × Group)) (b : Bool). l ++ cond b [] ((key_of q, alone q) ∷ [])) (same_entries fs) (known_firsts problems q)
      ∙ ap (λ (l : List (ℕ × Group)). map entry fs ++ l) (last_entry known refl)
      ∙ sym (map-append entry fs (cond known [] (q ∷ [])))
      ∙ ap (map entry) (sym (firsts_more is_alike problems q))

-- ---- how many there are

few : (problems : List Problem) (p : Problem) → (group_of problems p).count ≤ length problems
few problems p = omega (arith, length-filter_both (is_alike p) (λ q. not (is_alike p q)) (λ q. refl) problems)

-- so a group has room for one more
pub room_left : (problems : List Problem) (q : Problem) → length problems + 1 < 2 ^ 64 → IfSome (lookup (nat_eq (key_of q)) (keyed_groups problems)) (λ (group : Group). group.count + 1 < 2 ^ 64)
room_left problems q room =
    All-lookup (λ (group : Group). group.count + 1 < 2 ^ 64) (nat_eq (key_of q)) (keyed_groups problems)
    (All-map (λ (e : ℕ × Group). e.1.count + 1 < 2 ^ 64) (λ (p : Problem). (key_of p, group_of problems p)) (firsts is_alike problems)
    (λ k d within. (let small = few problems (get_or (firsts is_alike problems) k d) in omega (arith, small, room))))

-- the groups without their keys
unkeyed : (problems fs : List Problem) → values_of (map (λ p. (key_of p, group_of problems p)) fs) ≡ map (group_of problems) fs
unkeyed problems [] = refl
unkeyed problems (p ∷ fs) = ap (λ (gs : List Group). group_of problems p ∷ gs) (unkeyed problems fs)

pub groups_are : (problems : List Problem) → values_of (keyed_groups problems) ≡ groups problems
groups_are problems = unkeyed problems (firsts is_alike problems)
