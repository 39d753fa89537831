-- Facts about words that are read in turn.
use Rattle.mp_text.proofs.lemmas.lexing.Names.{arith, ◌≡◌, ◌+◌, ◌<◌, ◌≤◌, ◌∷◌, ◌++◌, All-get_or, ℕ, List, [], Bor, Result, Ok, Err, append_assoc, length, get_or, take, drop, Bool, not, cond, nat_lt, Some, None, refl, sym, ap, ◌∙◌, at_drop_more, at_drop_all, append-nil, take-map, drop-map, before_first, after_first, position, position_or_len, length-map, map, LineError, with_front, ◌>>=◌, texts, each_word}

module _ {W X A : Type 0} (read : W → Result A LineError) (see : X → W) (ws : List X) (i : ℕ) (d : X) (front : List A) where
  abbrev Goes : Type 0
  Goes = with_front front (each_word read (map see (drop i ws))) ≡ each_word read (map see ws)

  each_next : i < length ws → each_word read (map see (drop i ws)) ≡ each_word read (see (get_or ws i d) ∷ map see (drop (i + 1) ws))
  each_next within = at_drop_more (λ xs. each_word read (map see xs)) ws i d within

  -- a word that cannot be read fails them all
  pub each_err : (e : LineError) → i < length ws → Goes → read (see (get_or ws i d)) ≡ Err e → each_word read (map see ws) ≡ Err e
  unfolding each_word
  each_err e within goes failed = sym goes ∙ rw (each_next within, failed) refl

  -- what was read goes behind the front
  pub each_ok : (item : A) → i < length ws → Goes → read (see (get_or ws i d)) ≡ Ok item
      → with_front (front ++ item ∷ []) (each_word read (map see (drop (i + 1) ws))) ≡ each_word read (map see ws)
  unfolding each_word
  each_ok item within goes was = grind (arith, append_assoc, goes, was, (each_next within))

  -- no word is left
  pub each_end : length ws ≤ i → Goes → each_word read (map see ws) ≡ Ok front
  unfolding each_word
  each_end over goes = sym goes ∙ rw (at_drop_all (λ xs. each_word read (map see xs)) ws i over) (ap Ok (append-nil front))

-- the first word that passes stands where its text does
position_or_len-texts : (p : List ℕ → Bool) (ws : List (Bor (List ℕ))) → position_or_len p (texts ws) ≡ position_or_len (λ w. p w.now) ws
position_or_len-texts p [] = refl
position_or_len-texts p (w ∷ ws) = ap (λ n. cond (not (p w.now)) (1 + n) 0) (position_or_len-texts p ws)

pub texts-before_first : (p : List ℕ → Bool) (ws : List (Bor (List ℕ))) → texts (before_first (λ w. p w.now) ws) ≡ before_first p (texts ws)
texts-before_first p ws = sym (ap (λ n. take n (texts ws)) (position_or_len-texts p ws) ∙ take-map (λ w. w.now) (position_or_len (λ w. p w.now) ws) ws)

pub texts-after_first : (p : List ℕ → Bool) (ws : List (Bor (List ℕ))) → texts (after_first (λ w. p w.now) ws) ≡ after_first p (texts ws)
texts-after_first p ws = sym (ap (λ n. drop (n + 1) (texts ws)) (position_or_len-texts p ws) ∙ drop-map (λ w. w.now) (position_or_len (λ w. p w.now) ws + 1) ws)

pub texts-from_first : (p : List ℕ → Bool) (ws : List (Bor (List ℕ))) → texts (drop (position_or_len (λ w. p w.now) ws) ws) ≡ drop (position_or_len p (texts ws)) (texts ws)
texts-from_first p ws = sym (ap (λ n. drop n (texts ws)) (position_or_len-texts p ws) ∙ drop-map (λ w. w.now) (position_or_len (λ w. p w.now) ws) ws)

pub position-texts : (p : List ℕ → Bool) (ws : List (Bor (List ℕ))) → position (λ w. p w.now) ws ≡ position p (texts ws)
position-texts p ws =
    ap (λ n. cond (nat_lt n (length ws)) (Some n) None) (sym (position_or_len-texts p ws))
    ∙ ap (λ n. cond (nat_lt (position_or_len p (texts ws)) n) (Some (position_or_len p (texts ws))) None) (sym (length-map ws (λ w. w.now)))

pub ruleset each_steps = (All-get_or, each_err, each_ok, each_end)
