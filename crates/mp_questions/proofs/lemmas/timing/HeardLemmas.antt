-- What is heard of a wave some units later.
use Rattle.std.proofs.Common.{◌≡◌, ℕ, ◌+◌, ◌-◌, ◌<◌, ◌≤◌, Bool, true, false, not, cond, ◌==◌, List, [], ◌∷◌, length, get_or, slice_get, Option, Some, None, option_map, zero, suc, refl, sym, ap, subst, ◌∙◌, inl, inr, arith}
use Rattle.std.specs.Prelude.{unwrap_or}
use Rattle.std.proofs.lemmas.Bool.{cases_lt}
use Rattle.std.specs.List.{All}
use Rattle.std.proofs.lemmas.Option.{slice_get-get_or, slice_get_within}
use Rattle.mp_wave.specs.Waveform.{Waveform, IsWaveform, AreChanges, level_from, level_of, last_time, earlier_than, between}
use Rattle.mp_wave.proofs.WaveformLemmas.{nat_le-true, nat_le-false, le-last_time}
use Rattle.mp_wave.proofs.PrefixLemmas.{nat_lt-true, nat_lt-false, none_earlier, all_later, cut_levels, AreChanges-between, last_time-between}
use Rattle.mp_questions.specs.timing.Events.{last_event, since}
use Rattle.mp_questions.specs.timing.Trails.{last_upto}
use Rattle.mp_questions.proofs.lemmas.timing.EventLemmas.{same_true, last_is, none_between}

last_of_waveform : (wave : Waveform) (t : ℕ) → IsWaveform wave → last_event (level_of wave) t ≡ last_upto None wave.changes t
last_of_waveform wave t form =
    let e = last_time 0 wave.changes + t + 1 in
    sym (last_is (level_of wave) t 0 wave.initial e t None wave.changes (omega arith) (omega arith) refl (record { form = form; within = omega arith; levels = λ u low high. refl }))

-- ---- events that are heard later

one_later : (b : Bool) (a early d : ℕ) (o p : Option ℕ) → a ≡ early + d → o ≡ option_map (λ u. u + d) p → cond (not b) (Some a) o ≡ option_map (λ u. u + d) (cond (not b) (Some early) p)
one_later true a early d o p at rest = rest
one_later false a early d o p at rest = ap (λ k. let q : Option ℕ = Some k in q) at

quiet_next : (f : ℕ → ℕ) (t : ℕ) → f t ≡ f (suc t) → last_event f (suc t) ≡ last_event f t
quiet_next f t same =
    let is : (f t == f (suc t)) ≡ true = same_true (f t) (f (suc t)) same in
    rw is refl

last_late : (f g : ℕ → ℕ) (d t : ℕ) → ((s : ℕ) → s ≤ t → g (s - d) ≡ f s) → last_event f t ≡ option_map (λ u. u + d) (last_event g (t - d))
last_late f g d zero same = let none : 0 - d ≡ 0 = omega arith in ap (λ k. option_map (λ u. u + d) (last_event g k)) (sym none)
last_late f g d (suc t) same =
    let before = last_late f g d t (λ s low. same s (omega (arith, low))) in
    elim (cases_lt t d) as (λ _. last_event f (suc t) ≡ option_map (λ u. u + d) (last_event g (suc t - d))) [
      | inl early ↦
          let now : suc t - d ≡ t - d = omega (arith, early) in
          let stays : f t ≡ f (suc t) = sym (same t (omega arith)) ∙ ap g (sym now) ∙ same (suc t) (omega arith) in
          quiet_next f t stays ∙ before ∙ ap (λ k. option_map (λ u. u + d) (last_event g k)) (sym now)
      | inr late ↦
          let now : suc t - d ≡ suc (t - d) = omega (arith, late) in
          let here : f t ≡ g (t - d) = sym (same t (omega arith)) in
          let next : f (suc t) ≡ g (suc (t - d)) = sym (same (suc t) (omega arith)) ∙ ap g now in
          ap (λ v. cond (not (v == f (suc t))) (Some (suc t)) (last_event f t)) here
          ∙ ap (λ v. cond (not (g (t - d) == v)) (Some (suc t)) (last_event f t)) next
          ∙ one_later (g (t - d) == g (suc (t - d))) (suc t) (suc (t - d)) d (last_event f t) (last_event g (t - d)) (omega (arith, late)) before
          ∙ ap (λ k. option_map (λ u. u + d) (last_event g k)) (sym now)
    ]

-- ---- the last change of a cut

abbrev last_of : Option ℕ → List (ℕ × ℕ) → Option ℕ
last_of last [] = last
last_of last (c ∷ cs) = last_of (Some c.0) cs

upto_is : (s v k : ℕ) (last : Option ℕ) (changes : List (ℕ × ℕ)) → AreChanges s v changes → last_upto last changes k ≡ last_of last (earlier_than (k + 1) changes)
upto_is s v k last [] are = refl
upto_is s v k last (x ∷ xs) are =
    elim (cases_lt k x.0) as (λ _. last_upto last (x ∷ xs) k ≡ last_of last (earlier_than (k + 1) (x ∷ xs))) [
      | inl later ↦ rw (nat_le-false x.0 k later, nat_lt-false x.0 (k + 1) (omega (arith, later)), none_earlier (k + 1) x.0 x.1 xs (omega (arith, later)) are.2) refl
      | inr sooner ↦ rw (nat_le-true x.0 k sooner, nat_lt-true x.0 (k + 1) (omega (arith, sooner))) (upto_is x.0 x.1 k (Some x.0) xs are.2)
    ]

same_some : (x y : ℕ × ℕ) → (let o : Option (ℕ × ℕ) = Some x in o) ≡ Some y → x ≡ y
same_some x y same = cc

-- it is the last one of the list
last_of-last : (last : Option ℕ) (x : ℕ × ℕ) (xs : List (ℕ × ℕ)) (l : ℕ × ℕ) → Some l ≡ slice_get (x ∷ xs) (length (x ∷ xs) - 1) → last_of last (x ∷ xs) ≡ Some l.0
last_of-last last x [] l is = ap (λ (c : ℕ × ℕ). let o : Option ℕ = Some c.0 in o) (sym (same_some l x is))
last_of-last last x (y ∷ ys) l is =
    let shorter : length (x ∷ (y ∷ ys)) - 1 ≡ suc (length (y ∷ ys) - 1) = omega arith in
    last_of-last (Some x.0) y ys l (is ∙ ap (slice_get (x ∷ (y ∷ ys))) shorter)

some_last : (cs : List (ℕ × ℕ)) (l : ℕ × ℕ) → Some l ≡ slice_get cs (length cs - 1) → last_of None cs ≡ Some l.0
some_last [] l is = let absent : ⊥ = cc in absurd absent
some_last (x ∷ xs) l is = last_of-last None x xs l is

none_last : (cs : List (ℕ × ℕ)) → (let o : Option (ℕ × ℕ) = None in o) ≡ slice_get cs (length cs - 1) → last_of None cs ≡ None
none_last [] is = refl
none_last (x ∷ xs) is =
    let there = slice_get-get_or (x ∷ xs) (length (x ∷ xs) - 1) x (omega arith) in
    let present : ⊥ = cc in
    absurd present

-- ---- an input that hears a wave so many units later

module _ (wave : Waveform) (form : IsWaveform wave) (d : ℕ) (f : ℕ → ℕ) where
  -- the events up to a time
  module _ (t : ℕ) (hears : (s : ℕ) → s ≤ t → level_of wave (s - d) ≡ f s) where
    since_is : since f t ≡ unwrap_or (option_map (λ u. u + d) (last_upto None wave.changes (t - d))) 0
    since_is = ap (λ o. unwrap_or o 0) (last_late f (level_of wave) d t hears ∙ ap (option_map (λ u. u + d)) (last_of_waveform wave (t - d) form))

    -- none before the delay is over
    pub since_early : t < d → 0 ≡ since f t
    since_early early =
        let none : t - d ≡ 0 = omega (arith, early) in
        sym (ap (λ o. unwrap_or o 0) (last_late f (level_of wave) d t hears ∙ ap (λ k. option_map (λ u. u + d) (last_event (level_of wave) k)) none))

    -- by the changes up to then
    module _ (upto : ℕ) (is_upto : upto ≡ t - d) (cs : List (ℕ × ℕ)) (is : cs ≡ between 0 (upto + 1) wave.changes) where
      cut_is : last_of None cs ≡ last_upto None wave.changes (t - d)
      cut_is =
          ap (last_of None) (is ∙ ap (earlier_than (upto + 1)) (all_later 0 0 wave.initial wave.changes (omega arith) form))
          ∙ sym (upto_is 0 wave.initial upto None wave.changes form) ∙ ap (last_upto None wave.changes) is_upto

      pub since_some : (l : ℕ × ℕ) → Some l ≡ slice_get cs (length cs - 1) → l.0 + d ≡ since f t
      since_some l last = sym (since_is ∙ ap (λ o. unwrap_or (option_map (λ u. u + d) o) 0) (sym cut_is ∙ some_last cs l last))

      pub since_none : (let o : Option (ℕ × ℕ) = None in o) ≡ slice_get cs (length cs - 1) → 0 ≡ since f t
      since_none last = sym (since_is ∙ ap (λ o. unwrap_or (option_map (λ u. u + d) o) 0) (sym cut_is ∙ none_last cs last))

  -- the next event
  module _ (time end a b : ℕ) (is_a : a ≡ time - d) (is_b : b ≡ end - d) (cs : List (ℕ × ℕ)) (is : cs ≡ between a b wave.changes) where
    -- levels in a cut
    in_cut : (u : ℕ) → a ≤ u → u < b → level_from (level_of wave a) cs u ≡ level_of wave u
    in_cut u low high = ap (λ l. level_from (level_of wave a) l u) is ∙ cut_levels wave a b u form low high

    nothing_there : (c : ℕ × ℕ) → b ≤ a → Some c ≡ slice_get cs 0 → ⊥
    nothing_there c none first =
        let empty : cs ≡ [] = is ∙ none_between wave a b form none in
        let lacks : Some c ≡ slice_get [] 0 = first ∙ ap (λ l. slice_get l 0) empty in
        cc

    -- the first change lies in the cut
    first_in : (rest : List (ℕ × ℕ)) (c : ℕ × ℕ) → a < b → rest ≡ between a b wave.changes → Some c ≡ slice_get rest 0 → (a < c.0) × (c.0 < b)
    first_in [] c some cut first = let lacks : ⊥ = cc in absurd lacks
    first_in (x ∷ xs) c some cut first =
        let are = subst (AreChanges a (level_of wave a)) (sym cut) (AreChanges-between wave a b form) in
        let last = subst (λ l. last_time a l < b) (sym cut) (last_time-between wave a b form some) in
        let least = le-last_time x.0 x.1 xs are.2 in
        let same : c.0 ≡ x.0 = ap (λ (y : ℕ × ℕ). y.0) (same_some c x first) in
        (omega (arith, same, are.0), omega (arith, same, last, least))

    pub change_in : (c : ℕ × ℕ) → Some c ≡ slice_get cs 0 → (a < c.0) × (c.0 < b)
    change_in c first =
        elim (cases_lt a b) as (λ _. (a < c.0) × (c.0 < b)) [
          | inl some ↦ first_in cs c some is first
          | inr none ↦ absurd (nothing_there c none first)
        ]

    before_first : (rest : List (ℕ × ℕ)) (c : ℕ × ℕ) (v u : ℕ) → Some c ≡ slice_get rest 0 → u < c.0 → level_from v rest u ≡ v
    before_first [] c v u first before = refl
    before_first (x ∷ xs) c v u first before =
        let same : c.0 ≡ x.0 = ap (λ (y : ℕ × ℕ). y.0) (same_some c x first) in
        rw (nat_le-false x.0 u (omega (arith, same, before))) refl

    without : (rest : List (ℕ × ℕ)) (v u : ℕ) → (let o : Option (ℕ × ℕ) = None in o) ≡ slice_get rest 0 → level_from v rest u ≡ v
    without [] v u first = refl
    without (x ∷ xs) v u first = let there : ⊥ = cc in absurd there

    module _ (most t : ℕ) (hears : (s : ℕ) → s < most → level_of wave (s - d) ≡ f s) (le : end ≤ most) (low : time ≤ t) (high : t < end) where
      -- the level is that at the cut's first time
      quiet_by : (t - d < b → level_from (level_of wave a) cs (t - d) ≡ level_of wave a) → f t ≡ f time
      quiet_by held =
          sym (hears t (omega (arith, high, le))) ∙ same ∙ ap (level_of wave) is_a ∙ hears time (omega (arith, low, high, le))
        where
          same : level_of wave (t - d) ≡ level_of wave a
          same =
              elim (cases_lt a (t - d)) as (λ _. level_of wave (t - d) ≡ level_of wave a) [
                | inl later ↦
                    let below : t - d < b = omega (arith, later, is_b, high) in
                    sym (in_cut (t - d) (omega (arith, later)) below) ∙ held below
                | inr over ↦ let here : t - d ≡ a = omega (arith, over, is_a, low) in ap (level_of wave) here
              ]

      pub quiet_before : (c : ℕ × ℕ) → Some c ≡ slice_get cs 0 → t < c.0 + d → f t ≡ f time
      quiet_before c first before =
          let inside = change_in c first in
          quiet_by (λ below. before_first cs c (level_of wave a) (t - d) first (omega (arith, before, inside.0)))

      pub quiet_without : (let o : Option (ℕ × ℕ) = None in o) ≡ slice_get cs 0 → f t ≡ f time
      quiet_without first = quiet_by (λ below. without cs (level_of wave a) (t - d) first)

-- ---- a port that isn't there

constant_last : (f : ℕ → ℕ) (v t : ℕ) → ((s : ℕ) → s ≤ t → v ≡ f s) → last_event f t ≡ None
constant_last f v zero same = refl
constant_last f v (suc t) same = quiet_next f t (sym (same t (omega arith)) ∙ same (suc t) (omega arith)) ∙ constant_last f v t (λ s low. same s (omega (arith, low)))

pub constant_since : (f : ℕ → ℕ) (v t : ℕ) → ((s : ℕ) → s ≤ t → v ≡ f s) → 0 ≡ since f t
constant_since f v t same = ap (λ o. unwrap_or o 0) (sym (constant_last f v t same))

-- ---- a change at a place of a list that lies before an end

pub last_within : (cs : List (ℕ × ℕ)) (end : ℕ) → All (λ (c : ℕ × ℕ). c.0 < end) cs → (l : ℕ × ℕ) → Some l ≡ slice_get cs (length cs - 1) → l.0 < end
last_within cs end below l is =
    let within = slice_get_within cs (length cs - 1) l (sym is) in
    let same : l ≡ get_or cs (length cs - 1) l = same_some l (get_or cs (length cs - 1) l) (is ∙ slice_get-get_or cs (length cs - 1) l within) in
    subst (λ (c : ℕ × ℕ). c.0 < end) (sym same) (below (length cs - 1) l within)
