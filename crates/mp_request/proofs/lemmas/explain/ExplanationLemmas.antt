-- What the first entries of a guide tell of a word, one entry after the other.
use Rattle.std.proofs.Common.{◌≡◌, ℕ, ◌+◌, ◌<◌, Bool, ◌||◌, List, [], ◌∷◌, ◌++◌, append_assoc, length, get_or, take, drop, take-append-drop, Ok, Err, sym, ap, subst, ◌∙◌}
use Rattle.std.specs.List.{filter, flat_map}
use Rattle.std.proofs.lemmas.List.{take_more}
use Rattle.std.proofs.lemmas.List.Concat.{flat_map-append}
use Rattle.std.proofs.lemmas.List.Elements.{filter-append}
use Rattle.std.proofs.lemmas.List.Folds.{list_any_more}
use Rattle.mp_streams.specs.Outgoing.{Outgoing, Puts}
use Rattle.mp_streams.proofs.OutLemmas.{puts_sooner, puts_then}
use Rattle.mp_request.specs.declared.explain.entry.Entry.{Entry}
use Rattle.mp_request.specs.explain.Explanations.{entry_text, explanation, is_known}
use Rattle.mp_request.specs.explain.Subjects.{is_called}

-- guides end to end
explanation-append : (word : List ℕ) (xs ys : List Entry) → explanation word (xs ++ ys) ≡ explanation word xs ++ explanation word ys
explanation-append word xs ys =
    let p : Entry → Bool = λ entry. is_called word entry.subject in
    ap (flat_map entry_text) (filter-append p xs ys) ∙ flat_map-append entry_text (filter p xs) (filter p ys)

module _ (word : List ℕ) (guide : List Entry) (i : ℕ) (d : Entry) (within : i < length guide) where
  abbrev entry : Entry
  entry = get_or guide i d

  abbrev so_far : List ℕ
  so_far = explanation word (take i guide)

  abbrev one : List ℕ
  one = explanation word (entry ∷ [])

  abbrev rest : List ℕ
  rest = explanation word (drop (i + 1) guide)

  told : explanation word (take (i + 1) guide) ≡ so_far ++ one
  told = ap (explanation word) (take_more guide i d within) ∙ explanation-append word (take i guide) (entry ∷ [])

  -- what is told so far, of the entry, and of the rest
  whole : explanation word guide ≡ so_far ++ (one ++ rest)
  whole =
      sym (ap (explanation word) (take-append-drop (i + 1) guide)) ∙ explanation-append word (take (i + 1) guide) (drop (i + 1) guide)
      ∙ ap (λ l. l ++ rest) told ∙ append_assoc so_far one rest

  -- whether an entry so far or this one is meant
  pub known_more : is_known word (take (i + 1) guide) ≡ (is_known word (take i guide) || is_called word entry.subject)
  known_more = list_any_more (λ e. is_called word e.subject) guide i d within

  module _ {S T U E : Type 0} {f : E → Bool} {done : T} {a b c : Outgoing S} where
    -- the entry is told behind those so far
    pub explained_next : {did : U} → Puts {T = T} f (Ok done) a b so_far → Puts {T = U} f (Ok did) b c one → Puts {T = T} f (Ok done) a c (explanation word (take (i + 1) guide))
    explained_next {did = did} first second =
        subst (Puts {T = T} f (Ok done) a c) (sym told)
        (let both : Puts {T = U} f (Ok did) a c (so_far ++ one) = puts_then first second in
        record { front = both.front; lost = both.lost; taken = both.taken; held = both.held; ends = both.ends })

    -- the entry failed
    pub explained_stopped : {error : E} → Puts {T = T} f (Ok done) a b so_far → Puts {T = U} f (Err error) b c one → Puts {T = U} f (Err error) a c (explanation word guide)
    explained_stopped {error = error} first second = subst (Puts {T = U} f (Err error) a c) (sym whole) (puts_then first (puts_sooner rest second))
