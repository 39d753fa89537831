-- Those who come to a seat, one behind the other.
use Rattle.std.proofs.Common.{◌≡◌, ◌+◌, ◌<◌, ℕ, zero, suc, Bool, List, [], ◌∷◌, ◌++◌, length, map, slice_index_or, All, Option, refl, sym, ap, subst, ◌∙◌, inl, inr, arith}
use mathlib.Core.List.{IsPrefix}
use Rattle.mp_version.specs.Stories.{Story}
use Rattle.mp_version.specs.Extending.{Extends}
use Rattle.mp_version.proofs.PrefixLemmas.{prefix_self, prefix_trans, extends_self, extends_trans}
use Rattle.mp_seats.specs.Replies.{Writing}
use Rattle.mp_seats.specs.Steps.{Seated}
use Rattle.mp_seats.specs.hosting.Stays.{IsStay, IsSignedStay, AreStays, WasAttended, WasSignedAttended, AreAttended, Each}

module _ (T : Type 0) {D : Type 0} (Comes : D → D → Option (List ℕ) → Option (List ℕ) → Type 0) (Leaves : D → D → Option (List ℕ) → Type 0) (TurnsAway : D → D → Type 0) (w : Writing) (edits : Bool) where
  -- nobody came yet
  pub nobody_came : (seat : Seated) (door : D) → WasAttended T Comes Leaves TurnsAway w edits seat door seat door
  nobody_came seat door = record { stays = []; are = (refl, refl) }

  more_stays : (seat : Seated) (door : D) (stays : List (Seated × D)) (seat' : Seated) (door' : D) (last : Seated) (end : D)
      → AreStays T Comes Leaves TurnsAway w edits seat door stays seat' door' → IsStay T Comes Leaves TurnsAway w edits seat' last door' end
      → AreStays T Comes Leaves TurnsAway w edits seat door (stays ++ (last, end) ∷ []) last end
  more_stays seat door [] seat' door' last end are stay =
      let there : IsStay T Comes Leaves TurnsAway w edits seat last door' end = subst (λ s. IsStay T Comes Leaves TurnsAway w edits s last door' end) are.0 stay in
      (subst (λ d. IsStay T Comes Leaves TurnsAway w edits seat last d end) are.1 there, (refl, refl))
  more_stays seat door (next ∷ stays) seat' door' last end are stay = (are.0, more_stays next.0 next.1 stays seat' door' last end are.1 stay)

  -- one more came and left
  pub one_more_stay : (seat : Seated) (door : D) (seat' : Seated) (door' : D) (last : Seated) (end : D)
      → WasAttended T Comes Leaves TurnsAway w edits seat door seat' door' → IsStay T Comes Leaves TurnsAway w edits seat' last door' end
      → WasAttended T Comes Leaves TurnsAway w edits seat door last end
  one_more_stay seat door seat' door' last end attended stay =
      record { stays = attended.stays ++ (last, end) ∷ []; are = more_stays seat door attended.stays seat' door' last end attended.are stay }

  -- at the end of a day nobody came any more
  pub no_more_stay : (seat : Seated) (door : D) (seat' : Seated) (door' : D) (last : Seated) (end : D)
      → WasAttended T Comes Leaves TurnsAway w edits seat door seat' door' → last ≡ seat' → end ≡ door' → WasAttended T Comes Leaves TurnsAway w edits seat door last end
  no_more_stay seat door seat' door' last end attended same_seat same_door =
      subst (λ s. WasAttended T Comes Leaves TurnsAway w edits seat door s end) (sym same_seat)
      (subst (λ d. WasAttended T Comes Leaves TurnsAway w edits seat door seat' d) (sym same_door) attended)

  -- who came and left forgot no author
  pub stay_begins : (seat last : Seated) (before after : D) → IsStay T Comes Leaves TurnsAway w edits seat last before after → IsPrefix seat.signed last.signed
  stay_begins seat last before after (inl left) = left.served.visit.seat.begins
  stay_begins seat last before after (inr turned) = subst (λ (s : Seated). IsPrefix seat.signed s.signed) (sym turned.same) (prefix_self seat.signed)

  -- ---- what was seen goes forward

  stay_extends : (start last : Seated) (before after : D) → IsStay T Comes Leaves TurnsAway w edits start last before after → Extends last.seen start.seen
  stay_extends start last before after (inl left) = left.served.visit.seat.extends
  stay_extends start last before after (inr turned) = subst (λ (s : Seated). Extends s.seen start.seen) (sym turned.same) (extends_self start.seen)

  stays_extend : (seat : Seated) (door : D) (stays : List (Seated × D)) (last : Seated) (end : D) → AreStays T Comes Leaves TurnsAway w edits seat door stays last end → Extends last.seen seat.seen
  stays_extend seat door [] last end are = subst (λ (s : Seated). Extends s.seen seat.seen) (sym are.0) (extends_self seat.seen)
  stays_extend seat door (next ∷ others) last end are =
      extends_trans last.seen next.0.seen seat.seen (stays_extend next.0 next.1 others last end are.1) (stay_extends seat next.0 door next.1 are.0)

  -- what was seen at the first seat extends what was seen there at first
  pub first_extends : (now : Story) (start : ℕ → Seated) (number : ℕ) (doors : List D) (lasts : List Seated) → AreAttended T Comes Leaves TurnsAway w edits start number doors lasts
      → 0 < length doors → All (λ (s : Seated). Extends now s.seen) lasts → Extends now (start number).seen
  first_extends now start number [] lasts are some seen = absurd (omega (arith, some))
  first_extends now start number (door ∷ doors) [] are some seen = absurd are
  first_extends now start number (door ∷ doors) (last ∷ lasts) are some seen =
      extends_trans now last.seen (start number).seen (seen 0 last (omega arith)) (stays_extend (start number) door are.0.1.stays last are.0.0 are.0.1.are)

  -- ---- all seats

  module _ {P : Type 0} (seat : P → Seated) (door : P → D) (start : ℕ → Seated) where
    -- each post was attended from the state on that its number has
    posts_attended : (number : ℕ) (old new : List P) → length new ≡ length old → ((k j : ℕ) (p : P) → j ≡ number + k → k < length old → seat (slice_index_or old k p) ≡ start j)
        → Each (λ p q. WasAttended T Comes Leaves TurnsAway w edits (seat p) (door p) (seat q) (door q)) old new
        → AreAttended T Comes Leaves TurnsAway w edits start number (map door old) (map seat new)
    posts_attended number [] [] same here each = tt
    posts_attended number [] (q ∷ qs) same here each = absurd (omega (arith, same))
    posts_attended number (p ∷ ps) [] same here each = absurd (omega (arith, same))
    posts_attended number (p ∷ ps) (q ∷ qs) same here each = (
      (door q, subst (λ s. WasAttended T Comes Leaves TurnsAway w edits s (door p) (seat q) (door q)) (here 0 number p (omega arith) (omega arith)) (each 0 p (omega arith))),
      posts_attended (number + 1) ps qs (omega (arith, same)) (λ k j r at within. here (suc k) j r (omega (arith, at)) (omega (arith, within)))
          (λ k r within. each (suc k) r (omega (arith, within))),
    )

    -- all people at the posts have just come
    all_came : {Q : Type 0} (of : Q → Seated) (people : List Q) (old : List P) (state : ℕ → Seated) → map seat old ≡ map of people
        → ((k : ℕ) (q : Q) → k < length people → of (slice_index_or people k q) ≡ state k) → (k : ℕ) (p : P) → k < length old → seat (slice_index_or old k p) ≡ state k
    all_came of people [] state same came k p within = absurd (omega (arith, within))
    all_came of [] (o ∷ os) state same came k p within = absurd (cc same)
    all_came of (q ∷ qs) (o ∷ os) state same came zero p within = let head : seat o ≡ of q = cc same in head ∙ came 0 q (omega arith)
    all_came of (q ∷ qs) (o ∷ os) state same came (suc k) p within =
        all_came of qs os (λ j. state (suc j)) (cc same) (λ j r inside. came (suc j) r (omega (arith, inside))) k p (omega (arith, within))

    pub all_attended : {Q : Type 0} (of : Q → Seated) (people : List Q) (doors : List D) (old new : List P) → map seat old ≡ map of people
        → ((k : ℕ) (q : Q) → k < length people → of (slice_index_or people k q) ≡ start (k + 1)) → map door old ≡ doors → length new ≡ length old
        → Each (λ p q. WasAttended T Comes Leaves TurnsAway w edits (seat p) (door p) (seat q) (door q)) old new
        → AreAttended T Comes Leaves TurnsAway w edits start 1 doors (map seat new)
    all_attended of people doors old new seats came same_doors same each =
        subst (λ ds. AreAttended T Comes Leaves TurnsAway w edits start 1 ds (map seat new)) same_doors
        (posts_attended 1 old new same (λ k j p at within. all_came of people old (λ n. start (n + 1)) seats came k p within ∙ ap start (let e : k + 1 ≡ j = omega (arith, at) in e)) each)

-- those who came, whoever makes the edits to come
module _ (T : Type 0) {D : Type 0} (Comes : D → D → Option (List ℕ) → Option (List ℕ) → Type 0) (Leaves : D → D → Option (List ℕ) → Type 0) (TurnsAway : D → D → Type 0) (w : List ℕ → Writing) (edits : Bool) where
  pub signed_nobody : (seat : Seated) (door : D) → WasSignedAttended T Comes Leaves TurnsAway w edits seat door seat door
  signed_nobody seat door authors more = nobody_came T Comes Leaves TurnsAway (w authors) edits seat door

  pub signed_one_more : (seat : Seated) (door : D) (seat' : Seated) (door' : D) (last : Seated) (end : D)
      → WasSignedAttended T Comes Leaves TurnsAway w edits seat door seat' door' → IsSignedStay T Comes Leaves TurnsAway w edits seat' last door' end
      → WasSignedAttended T Comes Leaves TurnsAway w edits seat door last end
  signed_one_more seat door seat' door' last end attended stay authors more =
      let here = stay authors more in
      let before = prefix_trans seat'.signed last.signed authors (stay_begins T Comes Leaves TurnsAway (w authors) edits seat' last door' end here) more in
      one_more_stay T Comes Leaves TurnsAway (w authors) edits seat door seat' door' last end (attended authors before) here

  pub signed_no_more : (seat : Seated) (door : D) (seat' : Seated) (door' : D) (last : Seated) (end : D)
      → WasSignedAttended T Comes Leaves TurnsAway w edits seat door seat' door' → last ≡ seat' → end ≡ door' → WasSignedAttended T Comes Leaves TurnsAway w edits seat door last end
  signed_no_more seat door seat' door' last end attended same_seat same_door authors more =
      no_more_stay T Comes Leaves TurnsAway (w authors) edits seat door seat' door' last end (attended authors (subst (λ (s : Seated). IsPrefix s.signed authors) same_seat more)) same_seat same_door

  -- the posts that were attended, once all edits have their authors
  pub each_attended : {P : Type 0} (seat : P → Seated) (door : P → D) (authors : List ℕ) (old new : List P) → length new ≡ length old
      → Each (λ p q. WasSignedAttended T Comes Leaves TurnsAway w edits (seat p) (door p) (seat q) (door q)) old new → All (λ q. IsPrefix (seat q).signed authors) new
      → Each (λ p q. WasAttended T Comes Leaves TurnsAway (w authors) edits (seat p) (door p) (seat q) (door q)) old new
  each_attended seat door authors old new same each begin k p within = each k p within authors (begin k p (omega (arith, within, same)))
