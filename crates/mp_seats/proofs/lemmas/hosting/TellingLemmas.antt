-- Lines of seats, one behind the other.
use Rattle.std.proofs.Common.{◌≡◌, ℕ, ◌+◌, ◌<◌, ◌≤◌, Bool, false, List, [], ◌∷◌, ◌++◌, append_assoc, length, take, drop, take-append-drop, slice_index_or, refl, sym, ap, subst, ◌∙◌}
use Rattle.std.proofs.lemmas.List.{append-nil, map-append, take_more, take_all}
use Rattle.mp_seats.specs.declared.hosting.seat_place.SeatName.{SeatName}
use Rattle.mp_seats.specs.hosting.Places.{place_text, places_text, TellsOf}

places_both : (xs ys : List (SeatName × Bool)) → places_text (xs ++ ys) ≡ places_text xs ++ places_text ys
places_both [] ys = refl
places_both (x ∷ xs) ys = ap (λ text. place_text x.0 x.1 ++ text) (places_both xs ys) ∙ sym (append_assoc (place_text x.0 x.1) (places_text xs) (places_text ys))

-- no seat
pub tells_none : TellsOf [] []
tells_none = ([], refl, refl)

-- one seat
tells_one : (name : SeatName) (taken : Bool) → TellsOf (name ∷ []) (place_text name taken)
tells_one name taken = ((name, taken) ∷ [], refl, sym (append-nil (place_text name taken)))

-- seats behind others
pub tells_both : {names others : List SeatName} {text later : List ℕ} → TellsOf names text → TellsOf others later → TellsOf (names ++ others) (text ++ later)
tells_both {names} {others} {text} {later} first second = (
  first.0 ++ second.0,
  map-append (λ place. place.0) first.0 second.0 ∙ (λ i. first.1 i ++ second.1 i),
  (λ i. first.2 i ++ second.2 i) ∙ sym (places_both first.0 second.0),
)

-- all of these, as free ones
pub tells_all : (names : List SeatName) → (text : List ℕ) × TellsOf names text
tells_all [] = ([], tells_none)
tells_all (name ∷ names) = let rest = tells_all names in (place_text name false ++ rest.0, tells_both (tells_one name false) rest.1)

-- ---- seat by seat

module _ (names : List SeatName) (k : ℕ) (name : SeatName) (taken : Bool) (text : List ℕ) (within : k < length names) (here : name ≡ slice_index_or names k name) (before : TellsOf (take k names) text) where
  next : take (k + 1) names ≡ take k names ++ name ∷ []
  next = take_more names k name within ∙ ap (λ x. take k names ++ x ∷ []) (sym here)

  -- one seat more
  pub tells_more : TellsOf (take (k + 1) names) (text ++ place_text name taken)
  tells_more = subst (λ l. TellsOf l (text ++ place_text name taken)) (sym next) (tells_both before (tells_one name taken))

  -- and then those behind it
  pub tells_rest : (later : List ℕ) × TellsOf names ((text ++ place_text name taken) ++ later)
  tells_rest =
      let rest = tells_all (drop (k + 1) names) in
      (rest.0, subst (λ l. TellsOf l ((text ++ place_text name taken) ++ rest.0)) (take-append-drop (k + 1) names) (tells_both tells_more rest.1))

-- no more seats
pub tells_whole : (names : List SeatName) (k : ℕ) (text : List ℕ) → length names ≤ k → TellsOf (take k names) text → TellsOf names text
tells_whole names k text ends before = subst (λ l. TellsOf l text) (take_all k names ends) before
