-- Since when two levels of width 1 differ, and what is held meanwhile.
use Rattle.std.proofs.Common.{◌≡◌, ◌≢◌, ℕ, ◌<◌, ◌≤◌, Bool, true, false, not, cond, ◌==◌, max, Some, zero, suc, refl, sym, ap, ◌∙◌, arith}
use Rattle.std.specs.Prelude.{unwrap_or}
use Rattle.std.proofs.lemmas.Bool.{eqb-true, eqb-false}
use Rattle.mp_questions.specs.timing.Events.{last_event, since}
use Rattle.mp_questions.specs.timing.Waits.{apart}
use Rattle.mp_questions.proofs.lemmas.timing.EventLemmas.{same_true, same_false}

-- ---- an event of the next unit

since_event : (f : ℕ → ℕ) (t : ℕ) → f t ≢ f (suc t) → since f (suc t) ≡ suc t
since_event f t differ = rw (same_false (f t) (f (suc t)) differ) refl

since_quiet : (f : ℕ → ℕ) (t : ℕ) → f t ≡ f (suc t) → since f (suc t) ≡ since f t
since_quiet f t same = rw (same_true (f t) (f (suc t)) same) refl

pub since_low : (f : ℕ → ℕ) (t : ℕ) → since f t ≤ t
since_low f zero = omega arith
since_low f (suc t) = by (f t == f (suc t)) (since_low f t)
  where
    by : (b : Bool) → since f t ≤ t → unwrap_or (cond (not b) (Some (suc t)) (last_event f t)) 0 ≤ suc t
    by true low = omega (arith, low)
    by false low = omega arith

-- ---- two levels of width 1

-- the level of a test
abbrev of_test : Bool → ℕ
of_test same = cond same 0 1

-- both change: they differ as before
both : (a b c d : ℕ) → a < 2 → b < 2 → c < 2 → d < 2 → a ≢ b → c ≢ d → of_test (a == c) ≡ of_test (b == d)
both a b c d la lb lc ld one other = by (a == c) (b == d) refl refl
  where
    by : (t s : Bool) → (a == c) ≡ t → (b == d) ≡ s → of_test t ≡ of_test s
    by true true is_t is_s = refl
    by false false is_t is_s = refl
    by true false is_t is_s = let same = eqb-true a c is_t in let differ = eqb-false b d is_s in absurd (omega arith)
    by false true is_t is_s = let differ = eqb-false a c is_t in let same = eqb-true b d is_s in absurd (omega arith)

-- one changes: they differ otherwise
one_alone : (a b c d : ℕ) → a < 2 → b < 2 → c < 2 → d < 2 → a ≢ b → c ≡ d → of_test (a == c) ≢ of_test (b == d)
one_alone a b c d la lb lc ld differ stays = by (a == c) (b == d) refl refl
  where
    by : (t s : Bool) → (a == c) ≡ t → (b == d) ≡ s → of_test t ≢ of_test s
    by true true is_t is_s same = let x = eqb-true a c is_t in let y = eqb-true b d is_s in absurd (omega arith)
    by false false is_t is_s same = let x = eqb-false a c is_t in let y = eqb-false b d is_s in absurd (omega arith)
    by true false is_t is_s same = absurd (omega (arith, same))
    by false true is_t is_s same = absurd (omega (arith, same))

other_alone : (a b c d : ℕ) → a < 2 → b < 2 → c < 2 → d < 2 → a ≡ b → c ≢ d → of_test (a == c) ≢ of_test (b == d)
other_alone a b c d la lb lc ld stays differ = by (a == c) (b == d) refl refl
  where
    by : (t s : Bool) → (a == c) ≡ t → (b == d) ≡ s → of_test t ≢ of_test s
    by true true is_t is_s same = let x = eqb-true a c is_t in let y = eqb-true b d is_s in absurd (omega arith)
    by false false is_t is_s same = let x = eqb-false a c is_t in let y = eqb-false b d is_s in absurd (omega arith)
    by true false is_t is_s same = absurd (omega (arith, same))
    by false true is_t is_s same = absurd (omega (arith, same))

module _ (f g : ℕ → ℕ) (bits_f : (t : ℕ) → f t < 2) (bits_g : (t : ℕ) → g t < 2) where
  -- since when they differ as they do: by the last events of both, and from before where these come at once
  pub record IsApart (t : ℕ) : Type 0 where
    pub both : (e : ℕ) → since f t ≡ suc e → since g t ≡ suc e → since (apart f g) t ≡ since (apart f g) e
    pub none : since f t ≡ 0 → since g t ≡ 0 → since (apart f g) t ≡ 0
    pub one : since f t ≢ since g t → since (apart f g) t ≡ max (since f t) (since g t)

  both_next : (t : ℕ) → f t ≢ f (suc t) → g t ≢ g (suc t) → IsApart (suc t)
  both_next t df dg =
      let at_f = since_event f t df in
      let at_g = since_event g t dg in
      let still = since_quiet (apart f g) t (both (f t) (f (suc t)) (g t) (g (suc t)) (bits_f t) (bits_f (suc t)) (bits_g t) (bits_g (suc t)) df dg) in
      record {
        both = λ e is_f is_g. let same : t ≡ e = omega (arith, at_f, is_f) in still ∙ ap (since (apart f g)) same;
        none = λ is_f is_g. absurd (omega (arith, at_f, is_f));
        one = λ differ. absurd (differ (at_f ∙ sym at_g));
      }

  first_next : (t : ℕ) → f t ≢ f (suc t) → g t ≡ g (suc t) → IsApart (suc t)
  first_next t df sg =
      let at_f = since_event f t df in
      let at_g = since_quiet g t sg in
      let low = since_low g t in
      let event = since_event (apart f g) t (one_alone (f t) (f (suc t)) (g t) (g (suc t)) (bits_f t) (bits_f (suc t)) (bits_g t) (bits_g (suc t)) df sg) in
      record {
        both = λ e is_f is_g. absurd (omega (arith, at_f, is_f, at_g, is_g, low));
        none = λ is_f is_g. absurd (omega (arith, at_f, is_f));
        one = λ differ. let most : suc t ≡ max (since f (suc t)) (since g (suc t)) = omega (arith, at_f, at_g, low) in event ∙ most;
      }

  second_next : (t : ℕ) → f t ≡ f (suc t) → g t ≢ g (suc t) → IsApart (suc t)
  second_next t sf dg =
      let at_f = since_quiet f t sf in
      let at_g = since_event g t dg in
      let low = since_low f t in
      let event = since_event (apart f g) t (other_alone (f t) (f (suc t)) (g t) (g (suc t)) (bits_f t) (bits_f (suc t)) (bits_g t) (bits_g (suc t)) sf dg) in
      record {
        both = λ e is_f is_g. absurd (omega (arith, at_f, is_f, at_g, is_g, low));
        none = λ is_f is_g. absurd (omega (arith, at_g, is_g));
        one = λ differ. let most : suc t ≡ max (since f (suc t)) (since g (suc t)) = omega (arith, at_f, at_g, low) in event ∙ most;
      }

  none_next : (t : ℕ) → IsApart t → f t ≡ f (suc t) → g t ≡ g (suc t) → IsApart (suc t)
  none_next t before sf sg =
      let at_f = since_quiet f t sf in
      let at_g = since_quiet g t sg in
      let still = since_quiet (apart f g) t (ap (λ v. cond (v == g t) 0 1) sf ∙ ap (λ v. cond (f (suc t) == v) 0 1) sg) in
      record {
        both = λ e is_f is_g. still ∙ before.both e (sym at_f ∙ is_f) (sym at_g ∙ is_g);
        none = λ is_f is_g. still ∙ before.none (sym at_f ∙ is_f) (sym at_g ∙ is_g);
        one = λ differ. still ∙ before.one (λ same. differ (at_f ∙ same ∙ sym at_g)) ∙ sym (ap (λ v. max v (since g (suc t))) at_f ∙ ap (max (since f t)) at_g);
      }

  pub is_apart : (t : ℕ) → IsApart t
  is_apart zero = record { both = λ e is_f is_g. absurd (omega (arith, is_f)); none = λ is_f is_g. refl; one = λ differ. absurd (differ refl) }
  is_apart (suc t) = by (is_apart t) (f t == f (suc t)) (g t == g (suc t)) refl refl
    where
      by : IsApart t → (a b : Bool) → (f t == f (suc t)) ≡ a → (g t == g (suc t)) ≡ b → IsApart (suc t)
      by before true true is_a is_b = none_next t before (eqb-true (f t) (f (suc t)) is_a) (eqb-true (g t) (g (suc t)) is_b)
      by before true false is_a is_b = second_next t (eqb-true (f t) (f (suc t)) is_a) (eqb-false (g t) (g (suc t)) is_b)
      by before false true is_a is_b = first_next t (eqb-false (f t) (f (suc t)) is_a) (eqb-true (g t) (g (suc t)) is_b)
      by before false false is_a is_b = both_next t (eqb-false (f t) (f (suc t)) is_a) (eqb-false (g t) (g (suc t)) is_b)

-- ---- what is held while two levels differ

module _ (q x y g : ℕ → ℕ) (init : ℕ) (first : q 0 ≡ cond (x 0 == y 0) (g 0) init) (next : (u : ℕ) → q (suc u) ≡ cond (x (suc u) == y (suc u)) (g (suc u)) (q u)) where
  follows : (t : ℕ) → x t ≡ y t → q t ≡ g t
  follows zero same = first ∙ ap (λ b. cond b (g 0) init) (same_true (x 0) (y 0) same)
  follows (suc t) same = next t ∙ ap (λ b. cond b (g (suc t)) (q t)) (same_true (x (suc t)) (y (suc t)) same)

  -- the level when they last agreed, or else the first one
  record IsHeld (t : ℕ) : Type 0 where
    never : since (apart x y) t ≡ 0 → q t ≡ init
    last : (e : ℕ) → since (apart x y) t ≡ suc e → q t ≡ g e

  held_next : (t : ℕ) → (x t ≢ y t → IsHeld t) → x (suc t) ≢ y (suc t) → (b : Bool) → (x t == y t) ≡ b → IsHeld (suc t)
  held_next t before differ true is =
      let stays : q (suc t) ≡ q t = next t ∙ ap (λ b. cond b (g (suc t)) (q t)) (same_false (x (suc t)) (y (suc t)) differ) in
      let same = eqb-true (x t) (y t) is in
      let was : apart x y t ≡ 0 = ap (λ b. cond b 0 1) is in
      let now : apart x y (suc t) ≡ 1 = ap (λ b. cond b 0 1) (same_false (x (suc t)) (y (suc t)) differ) in
      let event = since_event (apart x y) t (λ equal. absurd (omega (arith, was, now, equal))) in
      record {
        never = λ none. absurd (omega (arith, event, none));
        last = λ e is_e. let at : t ≡ e = omega (arith, event, is_e) in stays ∙ follows t same ∙ ap g at;
      }
  held_next t before differ false is =
      let stays : q (suc t) ≡ q t = next t ∙ ap (λ b. cond b (g (suc t)) (q t)) (same_false (x (suc t)) (y (suc t)) differ) in
      let kept = before (eqb-false (x t) (y t) is) in
      let was : apart x y t ≡ 1 = ap (λ b. cond b 0 1) is in
      let now : apart x y (suc t) ≡ 1 = ap (λ b. cond b 0 1) (same_false (x (suc t)) (y (suc t)) differ) in
      let quiet = since_quiet (apart x y) t (was ∙ sym now) in
      record {
        never = λ none. stays ∙ kept.never (sym quiet ∙ none);
        last = λ e is_e. stays ∙ kept.last e (sym quiet ∙ is_e);
      }

  is_held : (t : ℕ) → x t ≢ y t → IsHeld t
  is_held zero differ = record { never = λ none. first ∙ ap (λ b. cond b (g 0) init) (same_false (x 0) (y 0) differ); last = λ e is. absurd (omega (arith, is)) }
  is_held (suc t) differ = held_next t (is_held t) differ (x t == y t) refl

  -- what is told by since when they differ
  pub held_is : (t : ℕ) → x t ≢ y t → (s out : ℕ) → s ≡ since (apart x y) t → (s ≡ 0 → out ≡ init) → ((e : ℕ) → s ≡ suc e → out ≡ g e) → out ≡ q t
  held_is t differ zero out is never last = never refl ∙ sym ((is_held t differ).never (sym is))
  held_is t differ (suc e) out is never last = last e refl ∙ sym ((is_held t differ).last e (sym is))
