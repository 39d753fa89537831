-- Changes in the new run are met one after the other.
use Rattle.std.proofs.Common.{◌≡◌, ℕ, zero, suc, ◌+◌, ◌<◌, Bool, true, false, not, cond, ◌&&◌, ◌||◌, List, [], ◌∷◌, ◌++◌, All, length, get_or, take, refl, sym, ap, ◌∙◌, arith, add-one, subst}
use Rattle.std.specs.Prelude.{◌==◌, nat_lt}
use Rattle.std.proofs.lemmas.Bool.{lt-ltb}
use Rattle.std.proofs.Math.Seq.{take-suc}
use Rattle.std.proofs.lemmas.List.Elements.{All-get_or}
use Rattle.std.proofs.lemmas.List.Sums.{sum_by-append}
use Rattle.mp_kernel.specs.events.Adding.{listed}
use Rattle.mp_kernel.specs.declared.datapath.level_change.LevelChange.{LevelChange}
use Rattle.mp_partition.specs.runs.Outcomes.{Outcome}
use Rattle.mp_active.specs.declared.compare.numbers.Numbers.{Numbers}
use Rattle.mp_active.specs.declared.compare.comparison.Comparison.{Comparison}
use Rattle.mp_active.specs.compare.Comparing.{seen_at, is_tracked, changes_of, IsShaped, ArePlaced}
use Rattle.mp_active.specs.compare.Meeting.{old_level, is_due, others_of, departures, HasMet}

none_more : (a b : Bool) → a ≡ (a || (b && false))
none_more true b = refl
none_more false true = refl
none_more false false = refl

no_number : (a b : Bool) (n : ℕ) → cond a (cond b n n) n ≡ n
no_number true true n = refl
no_number true false n = refl
no_number false b n = refl

-- nothing is met
pub met_none : (run : Outcome) (time : ℕ) (was : Comparison) → HasMet run time [] [] was was
met_none run time was = record {
  kept = refl;
  places = refl;
  over = λ unseen. unseen;
  seen = λ x. none_more (seen_at was x == time) (is_tracked was x time);
  departing = λ x. let none = no_number (is_tracked was x time) (is_due was x time) 0 in omega arith;
}

or_more : (t : Bool) (m n : ℕ) → ((t && nat_lt 0 m) || (t && nat_lt 0 n)) ≡ (t && nat_lt 0 (m + n))
or_more true zero n = let same : n ≡ 0 + n = omega arith in ap (λ k. nat_lt 0 k) same
or_more true (suc m) n = ap (λ b. b || nat_lt 0 n) (lt-ltb 0 (suc m) (omega arith)) ∙ sym (lt-ltb 0 (suc m + n) (omega arith))
or_more false m n = refl

or_assoc : (p q r : Bool) → ((p || q) || r) ≡ (p || (q || r))
or_assoc true q r = refl
or_assoc false q r = refl

both_seen : (p q r t u : Bool) (m n k : ℕ) → q ≡ (p || (t && nat_lt 0 m)) → r ≡ (q || (u && nat_lt 0 n)) → u ≡ t → m + n ≡ k → r ≡ (p || (t && nat_lt 0 k))
both_seen p q r t u m n k first second same sum =
    second ∙ ap (λ b. b || (u && nat_lt 0 n)) first ∙ ap (λ b. (p || (t && nat_lt 0 m)) || (b && nat_lt 0 n)) same
    ∙ or_assoc p (t && nat_lt 0 m) (t && nat_lt 0 n) ∙ ap (λ b. p || b) (or_more t m n) ∙ ap (λ j. p || (t && nat_lt 0 j)) sum

both_departures : (t d : Bool) (a b c e f g : ℕ) → cond t (cond d a (b + c)) 0 + cond t (cond d e (f + g)) 0 ≡ cond t (cond d (a + e) ((b + f) + (c + g))) 0
both_departures true true a b c e f g = refl
both_departures true false a b c e f g = omega arith
both_departures false d a b c e f g = refl

departures_join : (run : Outcome) (c : Comparison) (time : ℕ) (bits more : List ℕ) (levels others : List LevelChange) (x : ℕ) →
    departures run c time bits levels x + departures run c time more others x ≡ departures run c time (bits ++ more) (levels ++ others) x
departures_join run c time bits more levels others x =
    both_departures (is_tracked c x time) (is_due c x time) (others_of run c x levels) (listed x bits) (changes_of x levels) (others_of run c x others) (listed x more) (changes_of x others)
    ∙ ap (λ n. cond (is_tracked c x time) (cond (is_due c x time) n ((listed x bits + listed x more) + (changes_of x levels + changes_of x others))) 0)
    (sym (sum_by-append (λ (change : LevelChange). cond ((change.number == x) && not (change.level == old_level run c x)) 1 0) levels others))
    ∙ ap (λ n. cond (is_tracked c x time) (cond (is_due c x time) (others_of run c x (levels ++ others)) (n + (changes_of x levels + changes_of x others))) 0)
    (sym (sum_by-append (λ d. cond (d == x) 1 0) bits more))
    ∙ ap (λ n. cond (is_tracked c x time) (cond (is_due c x time) (others_of run c x (levels ++ others)) (listed x (bits ++ more) + n)) 0)
    (sym (sum_by-append (λ (change : LevelChange). cond (change.number == x) 1 0) levels others))

-- some are met, and then more
pub met_join : (run : Outcome) (time : ℕ) (bits more : List ℕ) (levels others : List LevelChange) (was then is : Comparison) →
    HasMet run time bits levels was then → HasMet run time more others then is → HasMet run time (bits ++ more) (levels ++ others) was is
met_join run time bits more levels others was then is first second = record {
  kept = second.kept ∙ ap (λ (c : Comparison). record c { seen = is.seen; departing = is.departing }) first.kept;
  places = second.places ∙ first.places;
  over = λ unseen. second.over (first.over unseen);
  seen = λ x. both_seen (seen_at was x == time) (seen_at then x == time) (seen_at is x == time) (is_tracked was x time) (is_tracked then x time)
      (listed x bits + changes_of x levels) (listed x more + changes_of x others) (listed x (bits ++ more) + changes_of x (levels ++ others))
      (first.seen x) (second.seen x) (ap (λ (c : Comparison). is_tracked c x time) first.kept)
      (let a = sum_by-append (λ d. cond (d == x) 1 0) bits more in
      let b = sum_by-append (λ (change : LevelChange). cond (change.number == x) 1 0) levels others in
      omega arith);
  departing = λ x.
      let a = first.departing x in
      let b = second.departing x in
      let same = ap (λ (c : Comparison). departures run c time more others x) first.kept in
      let both = departures_join run was time bits more levels others x in
      omega arith;
}

-- one number alone is among what is met
pub record IsAlone (run : Outcome) (time number : ℕ) (bits : List ℕ) (levels : List LevelChange) (was : Comparison) : Type 0 where
  pub here : 0 < listed number bits + changes_of number levels
  pub none : (x : ℕ) → (number == x) ≡ false → listed x bits + changes_of x levels ≡ 0
  pub no_departures : (x : ℕ) → (number == x) ≡ false → departures run was time bits levels x ≡ 0

-- what stands in each list of numbers stays there
pub shape_kept : (run : Outcome) (time : ℕ) (bits : List ℕ) (levels : List LevelChange) (was is : Comparison) → HasMet run time bits levels was is → IsShaped was → IsShaped is
shape_kept run time bits levels was is met shape = subst IsShaped (sym met.kept) (record {
  delays = shape.delays;
  next = shape.next;
  have_data = shape.have_data;
  asleep = shape.asleep;
  times = shape.times;
  places = shape.places;
  seen = met.places ∙ shape.seen;
  few = shape.few;
  wires = shape.wires;
  own = shape.own;
})

pub numbers_kept : (run : Outcome) (time : ℕ) (bits : List ℕ) (levels : List LevelChange) (was is : Comparison) → HasMet run time bits levels was is → is.numbers ≡ was.numbers
numbers_kept run time bits levels was is met = ap (λ (c : Comparison). c.numbers) met.kept

pub nobody : Outcome
nobody = record { horizon = 0; waves = []; ends = []; kept = [] }

-- a toggle more is met
pub toggle_more : (run : Outcome) (time : ℕ) (xs : List ℕ) (i : ℕ) (was then is : Comparison) → i < length xs →
    HasMet run time (take i xs) [] was then → HasMet run time (get_or xs i 0 ∷ []) [] then is → HasMet run time (take (i + 1) xs) [] was is
toggle_more run time xs i was then is low first second =
    subst (λ (ys : List ℕ). HasMet run time ys [] was is) (sym (take-suc xs i 0 low) ∙ ap (λ j. take j xs) (sym (add-one i)))
    (met_join run time (take i xs) (get_or xs i 0 ∷ []) [] [] was then is first second)

pub level_more : (run : Outcome) (time : ℕ) (xs : List LevelChange) (i : ℕ) (d : LevelChange) (was then is : Comparison) → i < length xs →
    HasMet run time [] (take i xs) was then → HasMet run time [] (get_or xs i d ∷ []) then is → HasMet run time [] (take (i + 1) xs) was is
level_more run time xs i d was then is low first second =
    subst (λ (ys : List LevelChange). HasMet run time [] ys was is) (sym (take-suc xs i d low) ∙ ap (λ j. take j xs) (sym (add-one i)))
    (met_join run time [] [] (take i xs) (get_or xs i d ∷ []) was then is first second)

pub placed_kept : (run other : Outcome) (time at : ℕ) (bits : List ℕ) (levels : List LevelChange) (was is : Comparison) → HasMet other time bits levels was is → ArePlaced run at was → ArePlaced run at is
placed_kept run other time at bits levels was is met placed = subst (ArePlaced run at) (sym met.kept) placed

-- before more is met, all that is met is a number
pub toggle_within : (run : Outcome) (time : ℕ) (bits xs : List ℕ) (levels : List LevelChange) (i : ℕ) (was is : Comparison) → HasMet run time bits levels was is → i < length xs →
    All (λ x. x < length was.numbers.wires.items) xs → get_or xs i 0 < length is.numbers.wires.items
toggle_within run time bits xs levels i was is met low all =
    subst (λ (numbers : Numbers). get_or xs i 0 < length numbers.wires.items) (sym (numbers_kept run time bits levels was is met)) (All-get_or (λ x. x < length was.numbers.wires.items) xs i 0 low all)

pub level_within : (run : Outcome) (time : ℕ) (bits : List ℕ) (levels xs : List LevelChange) (i : ℕ) (d : LevelChange) (was is : Comparison) → HasMet run time bits levels was is → i < length xs →
    All (λ (change : LevelChange). change.number < length was.numbers.wires.items) xs → (get_or xs i d).number < length is.numbers.wires.items
level_within run time bits levels xs i d was is met low all =
    subst (λ (numbers : Numbers). (get_or xs i d).number < length numbers.wires.items) (sym (numbers_kept run time bits levels was is met)) (All-get_or (λ (change : LevelChange). change.number < length was.numbers.wires.items) xs i d low all)
