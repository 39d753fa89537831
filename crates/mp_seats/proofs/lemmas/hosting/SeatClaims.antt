-- What those who come to a seat claim in the story, and what all seats do.
use Rattle.std.proofs.Common.{◌≡◌, ℕ, ◌+◌, ◌-◌, ◌<◌, ◌≤◌, suc, Bool, true, List, [], ◌∷◌, length, map, slice_index_or, All, Option, refl, sym, ap, subst, inl, inr, length-append, arith}
use mathlib.Core.List.{IsPrefix}
use Rattle.mp_version.specs.Stories.{Story}
use Rattle.mp_version.specs.publication.Chronicles.{unsigned}
use Rattle.mp_desk.specs.Holders.{ExtendsEach, accepted_by, BeginWithEach}
use Rattle.mp_version.proofs.PrefixLemmas.{prefix_self, prefix_trans, extends_self, extends_length}
use Rattle.mp_meeting.specs.Sittings.{DesignerTally}
use Rattle.mp_meeting.specs.Seats.{working}
use Rattle.mp_seats.specs.Marks.{Mark, AcceptedAt, RefusedAt, AnsweredAt, Rise, accepted_of, told_of, places_of, AreSigned}
use Rattle.mp_seats.specs.Replies.{Writing}
use Rattle.mp_seats.specs.Steps.{Seated}
use Rattle.mp_seats.specs.hosting.Guests.{sitter, just_come}
use Rattle.mp_seats.specs.hosting.Claims.{times_claimed, AreClaimed, AreAllSigned}
use Rattle.mp_seats.specs.hosting.Stays.{IsStay, AreStays, AreAttended, claims_of_stay, claims_of_stays, claims}
use Rattle.mp_seats.proofs.lemmas.hosting.StayLemmas.{stay_begins}
use Rattle.mp_seats.proofs.lemmas.hosting.ClaimLemmas.{AreRising, rising_sooner, rising_later, rising_append, signed_append, AreBelow, below_more, below_append, times_below, AreClaims, count_claims, all_claimed}

marks_rise : (seen last : ℕ) (marks : List Mark) → Rise seen last marks → AreRising seen last (places_of marks)
marks_rise seen last [] rise = rise
marks_rise seen last (AcceptedAt k ∷ marks) rise = (rise.0, marks_rise (k + 1) last marks rise.1)
marks_rise seen last (RefusedAt k ∷ marks) rise = rising_sooner seen k last (places_of marks) rise.0 (marks_rise k last marks rise.1)
marks_rise seen last (AnsweredAt k ∷ marks) rise = rising_sooner seen k last (places_of marks) rise.0 (marks_rise k last marks rise.1)

marks_counted : (marks : List Mark) → accepted_of marks ≡ length (places_of marks)
marks_counted [] = omega arith
marks_counted (AcceptedAt k ∷ marks) = let rest = marks_counted marks in omega (arith, rest)
marks_counted (RefusedAt k ∷ marks) = marks_counted marks
marks_counted (AnsweredAt k ∷ marks) = marks_counted marks

-- the number that is told last is no less than the one that was told before, no more than there are edits, and above the place of each accepted edit
marks_below : (told seen last : ℕ) (marks : List Mark) → told ≤ seen → Rise seen last marks → (told ≤ told_of told marks) × (told_of told marks ≤ last) × AreBelow (told_of told marks) (places_of marks)
marks_below told seen last [] low rise = let up = rise in (omega arith, omega (arith, low, up), tt)
marks_below told seen last (AcceptedAt k ∷ marks) low rise =
    let rest = marks_below (k + 1) (k + 1) last marks (omega arith) rise.1 in let least = rest.0 in let here = rise.0 in
    (omega (arith, least, here, low), rest.1, (omega (arith, least), rest.2))
marks_below told seen last (RefusedAt k ∷ marks) low rise = let here = rise.0 in marks_below told k last marks (omega (arith, low, here)) rise.1
marks_below told seen last (AnsweredAt k ∷ marks) low rise = let here = rise.0 in marks_below told k last marks (omega (arith, low, here)) rise.1

module _ (T : Type 0) {D : Type 0} (Comes : D → D → Option (List ℕ) → Option (List ℕ) → Type 0) (Leaves : D → D → Option (List ℕ) → Type 0) (TurnsAway : D → D → Type 0) (w : Writing) (edits : Bool) where
  -- ---- somebody who came

  stay_number : (seat last : Seated) (before after : D) → IsStay T Comes Leaves TurnsAway w edits seat last before after → last.number ≡ seat.number
  stay_number seat last before after (inl left) = left.served.visit.seat.number
  stay_number seat last before after (inr turned) = ap (λ (s : Seated). s.number) turned.same

  stay_rises : (seat last : Seated) (before after : D) (stay : IsStay T Comes Leaves TurnsAway w edits seat last before after)
      → AreRising (length seat.seen.edits) (length last.seen.edits) (claims_of_stay T Comes Leaves TurnsAway w edits seat last before after stay)
  stay_rises seat last before after (inl left) =
      let at = left.served.visit.seat in marks_rise (length seat.seen.edits) (length last.seen.edits) at.marks (at.rise last.seen (extends_self last.seen))
  stay_rises seat last before after (inr turned) = let same = ap (λ (s : Seated). length s.seen.edits) turned.same in omega (arith, same)

  stay_signed : (authors : List ℕ) (seat last : Seated) (before after : D) (stay : IsStay T Comes Leaves TurnsAway w edits seat last before after) → IsPrefix last.signed authors
      → AreSigned seat.number authors (claims_of_stay T Comes Leaves TurnsAway w edits seat last before after stay)
  stay_signed authors seat last before after (inl left) more = left.served.visit.seat.signed authors more
  stay_signed authors seat last before after (inr turned) more = tt

  stay_counts : (seat last : Seated) (before after : D) (stay : IsStay T Comes Leaves TurnsAway w edits seat last before after)
      → last.accepted ≡ seat.accepted + length (claims_of_stay T Comes Leaves TurnsAway w edits seat last before after stay)
  stay_counts seat last before after (inl left) =
      let at = left.served.visit.seat in let accepted = at.accepted in let counted = marks_counted at.marks in omega (arith, accepted, counted)
  stay_counts seat last before after (inr turned) = let same = ap (λ (s : Seated). s.accepted) turned.same in omega (arith, same)

  stay_below : (seat last : Seated) (before after : D) (stay : IsStay T Comes Leaves TurnsAway w edits seat last before after) → seat.told ≤ length seat.seen.edits
      → (seat.told ≤ last.told) × (last.told ≤ length last.seen.edits) × AreBelow last.told (claims_of_stay T Comes Leaves TurnsAway w edits seat last before after stay)
  stay_below seat last before after (inl left) low =
      let at = left.served.visit.seat in
      subst (λ (told : ℕ). (seat.told ≤ told) × (told ≤ length last.seen.edits) × AreBelow told (places_of at.marks)) (sym at.told)
      (marks_below seat.told (length seat.seen.edits) (length last.seen.edits) at.marks low (at.rise last.seen (extends_self last.seen)))
  stay_below seat last before after (inr turned) low =
      let told = ap (λ (s : Seated). s.told) turned.same in let seen = ap (λ (s : Seated). length s.seen.edits) turned.same in
      (omega (arith, told), omega (arith, told, seen, low), tt)

  -- ---- all who came

  stays_begin : (seat : Seated) (door : D) (stays : List (Seated × D)) (last : Seated) (end : D) → AreStays T Comes Leaves TurnsAway w edits seat door stays last end
      → IsPrefix seat.signed last.signed
  stays_begin seat door [] last end are = subst (λ (s : Seated). IsPrefix seat.signed s.signed) (sym are.0) (prefix_self seat.signed)
  stays_begin seat door (next ∷ others) last end are =
      prefix_trans seat.signed next.0.signed last.signed (stay_begins T Comes Leaves TurnsAway w edits seat next.0 door next.1 are.0) (stays_begin next.0 next.1 others last end are.1)

  stays_rise : (seat : Seated) (door : D) (stays : List (Seated × D)) (last : Seated) (end : D) (are : AreStays T Comes Leaves TurnsAway w edits seat door stays last end)
      → AreRising (length seat.seen.edits) (length last.seen.edits) (claims_of_stays T Comes Leaves TurnsAway w edits seat door stays last end are)
  stays_rise seat door [] last end are = let same = ap (λ (s : Seated). length s.seen.edits) are.0 in omega (arith, same)
  stays_rise seat door (next ∷ others) last end are =
      rising_append (length seat.seen.edits) (length next.0.seen.edits) (length last.seen.edits) (claims_of_stay T Comes Leaves TurnsAway w edits seat next.0 door next.1 are.0)
      (claims_of_stays T Comes Leaves TurnsAway w edits next.0 next.1 others last end are.1) (stay_rises seat next.0 door next.1 are.0) (stays_rise next.0 next.1 others last end are.1)

  stays_signed : (authors : List ℕ) (seat : Seated) (door : D) (stays : List (Seated × D)) (last : Seated) (end : D)
      (are : AreStays T Comes Leaves TurnsAway w edits seat door stays last end) → IsPrefix last.signed authors
      → AreSigned seat.number authors (claims_of_stays T Comes Leaves TurnsAway w edits seat door stays last end are)
  stays_signed authors seat door [] last end are more = tt
  stays_signed authors seat door (next ∷ others) last end are more =
      let rest = claims_of_stays T Comes Leaves TurnsAway w edits next.0 next.1 others last end are.1 in
      signed_append seat.number authors (claims_of_stay T Comes Leaves TurnsAway w edits seat next.0 door next.1 are.0) rest
      (stay_signed authors seat next.0 door next.1 are.0 (prefix_trans next.0.signed last.signed authors (stays_begin next.0 next.1 others last end are.1) more))
      (subst (λ (author : ℕ). AreSigned author authors rest) (stay_number seat next.0 door next.1 are.0) (stays_signed authors next.0 next.1 others last end are.1 more))

  stays_count : (seat : Seated) (door : D) (stays : List (Seated × D)) (last : Seated) (end : D) (are : AreStays T Comes Leaves TurnsAway w edits seat door stays last end)
      → last.accepted ≡ seat.accepted + length (claims_of_stays T Comes Leaves TurnsAway w edits seat door stays last end are)
  stays_count seat door [] last end are = let same = ap (λ (s : Seated). s.accepted) are.0 in omega (arith, same)
  stays_count seat door (next ∷ others) last end are =
      let first = stay_counts seat next.0 door next.1 are.0 in
      let rest = stays_count next.0 next.1 others last end are.1 in
      omega
      (arith, first, rest, length-append (claims_of_stay T Comes Leaves TurnsAway w edits seat next.0 door next.1 are.0) (claims_of_stays T Comes Leaves TurnsAway w edits next.0 next.1 others last end are.1))

  stays_below : (seat : Seated) (door : D) (stays : List (Seated × D)) (last : Seated) (end : D) (are : AreStays T Comes Leaves TurnsAway w edits seat door stays last end)
      → seat.told ≤ length seat.seen.edits → (seat.told ≤ last.told) × AreBelow last.told (claims_of_stays T Comes Leaves TurnsAway w edits seat door stays last end are)
  stays_below seat door [] last end are low = let told = ap (λ (s : Seated). s.told) are.0 in (omega (arith, told), tt)
  stays_below seat door (next ∷ others) last end are low =
      let first = stay_below seat next.0 door next.1 are.0 low in
      let rest = stays_below next.0 next.1 others last end are.1 first.1 in
      let here = first.0 in let up = rest.0 in (
        omega (arith, here, up),
        below_append last.told (claims_of_stay T Comes Leaves TurnsAway w edits seat next.0 door next.1 are.0)
            (claims_of_stays T Comes Leaves TurnsAway w edits next.0 next.1 others last end are.1)
            (below_more next.0.told last.told (claims_of_stay T Comes Leaves TurnsAway w edits seat next.0 door next.1 are.0) rest.0 first.2) rest.1,
      )

-- ---- all seats of designers

module _ (T : Type 0) {D : Type 0} (Comes : D → D → Option (List ℕ) → Option (List ℕ) → Type 0) (Leaves : D → D → Option (List ℕ) → Type 0) (TurnsAway : D → D → Type 0) (w : Writing) (first now : Story) where
  seats_claim : (authors : List ℕ) (number : ℕ) (doors : List D) (ss : List DesignerTally)
      (are : AreAttended T Comes Leaves TurnsAway w true (λ n. just_come n first) number doors (map sitter ss)) → ExtendsEach now (map working ss) → BeginWithEach authors (map working ss)
      → AreClaims authors (length first.edits) (length now.edits) number (claims T Comes Leaves TurnsAway w true (λ n. just_come n first) number doors (map sitter ss) are)
  seats_claim authors number [] [] are extends begin = tt
  seats_claim authors number [] (s ∷ ss) are extends begin = absurd are
  seats_claim authors number (door ∷ doors) [] are extends begin = absurd are
  seats_claim authors number (door ∷ doors) (s ∷ ss) are extends begin = (
    rising_later (length first.edits) (length s.seen.edits) (length now.edits) (claims_of_stays T Comes Leaves TurnsAway w true (just_come number first) door are.0.1.stays (sitter s) are.0.0 are.0.1.are)
        (extends_length now s.seen extends.0) (stays_rise T Comes Leaves TurnsAway w true (just_come number first) door are.0.1.stays (sitter s) are.0.0 are.0.1.are),
    stays_signed T Comes Leaves TurnsAway w true authors (just_come number first) door are.0.1.stays (sitter s) are.0.0 are.0.1.are begin.0,
    seats_claim authors (number + 1) doors ss are.1 extends.1 begin.1,
  )

  -- the places of each seat have its number as their author
  pub seats_signed : (authors : List ℕ) (number : ℕ) (doors : List D) (ss : List DesignerTally)
      (are : AreAttended T Comes Leaves TurnsAway w true (λ n. just_come n first) number doors (map sitter ss)) → BeginWithEach authors (map working ss)
      → AreAllSigned authors number (claims T Comes Leaves TurnsAway w true (λ n. just_come n first) number doors (map sitter ss) are)
  seats_signed authors number [] [] are begin = tt
  seats_signed authors number [] (s ∷ ss) are begin = absurd are
  seats_signed authors number (door ∷ doors) [] are begin = absurd are
  seats_signed authors number (door ∷ doors) (s ∷ ss) are begin = (
    stays_signed T Comes Leaves TurnsAway w true authors (just_come number first) door are.0.1.stays (sitter s) are.0.0 are.0.1.are begin.0,
    seats_signed authors (number + 1) doors ss are.1 begin.1,
  )

  -- nobody at the desk made the edits of the first story
  pub older_unsigned : (authors : List ℕ) (number : ℕ) (doors : List D) (ss : List DesignerTally)
      (are : AreAttended T Comes Leaves TurnsAway w true (λ n. just_come n first) number doors (map sitter ss)) → 0 < length doors → BeginWithEach authors (map working ss)
      → IsPrefix (unsigned first) authors
  older_unsigned authors number [] ss are some begin = absurd (omega (arith, some))
  older_unsigned authors number (door ∷ doors) [] are some begin = absurd are
  older_unsigned authors number (door ∷ doors) (s ∷ ss) are some begin =
      prefix_trans (unsigned first) s.signed authors (stays_begin T Comes Leaves TurnsAway w true (just_come number first) door are.0.1.stays (sitter s) are.0.0 are.0.1.are) begin.0

  seats_count : (number : ℕ) (doors : List D) (ss : List DesignerTally) (are : AreAttended T Comes Leaves TurnsAway w true (λ n. just_come n first) number doors (map sitter ss))
      → accepted_by (map working ss) ≡ count_claims (claims T Comes Leaves TurnsAway w true (λ n. just_come n first) number doors (map sitter ss) are)
  seats_count number [] [] are = omega arith
  seats_count number [] (s ∷ ss) are = absurd are
  seats_count number (door ∷ doors) [] are = absurd are
  seats_count number (door ∷ doors) (s ∷ ss) are =
      let here = stays_count T Comes Leaves TurnsAway w true (just_come number first) door are.0.1.stays (sitter s) are.0.0 are.0.1.are in
      let rest = seats_count (number + 1) doors ss are.1 in
      omega (arith, here, rest)

  -- each edit behind those of the first story has its place by one line of one seat
  pub claimed_once : (doors : List D) (ss : List DesignerTally) (are : AreAttended T Comes Leaves TurnsAway w true (λ n. just_come n first) 1 doors (map sitter ss)) → ExtendsEach now (map working ss)
      → (authors : List ℕ) → BeginWithEach authors (map working ss) → length now.edits ≡ length first.edits + accepted_by (map working ss)
      → AreClaimed (length first.edits) (length now.edits) (claims T Comes Leaves TurnsAway w true (λ n. just_come n first) 1 doors (map sitter ss) are)
  claimed_once doors ss are extends authors begin counted =
      all_claimed authors (length first.edits) (length now.edits) (claims T Comes Leaves TurnsAway w true (λ n. just_come n first) 1 doors (map sitter ss) are)
      (seats_claim authors 1 doors ss are extends begin) (let all = seats_count 1 doors ss are in omega (arith, counted, all))

  -- no place is claimed from a number on that is no less than what each seat was told
  none_claimed : (place n : ℕ) → n ≤ place → (number : ℕ) (doors : List D) (ss : List DesignerTally) (are : AreAttended T Comes Leaves TurnsAway w true (λ n. just_come n first) number doors (map sitter ss))
      → All (λ (s : DesignerTally). s.told ≤ n) ss → times_claimed place (claims T Comes Leaves TurnsAway w true (λ n. just_come n first) number doors (map sitter ss) are) ≡ 0
  none_claimed place n up number [] [] are told = refl
  none_claimed place n up number [] (s ∷ ss) are told = absurd are
  none_claimed place n up number (door ∷ doors) [] are told = absurd are
  none_claimed place n up number (door ∷ doors) (s ∷ ss) are told =
      let mine = claims_of_stays T Comes Leaves TurnsAway w true (just_come number first) door are.0.1.stays (sitter s) are.0.0 are.0.1.are in
      let below = stays_below T Comes Leaves TurnsAway w true (just_come number first) door are.0.1.stays (sitter s) are.0.0 are.0.1.are (omega arith) in
      let low : s.told ≤ n = told 0 s (omega arith) in
      let here = times_below place s.told mine below.1 (omega (arith, low, up)) in
      let rest = none_claimed place n up (number + 1) doors ss are.1 (λ k d within. told (suc k) d (omega (arith, within))) in
      omega (arith, here, rest)

  -- where edits came, each viewer whose number is no less than what the designers were told has seen them all
  pub all_seen : (doors : List D) (ss : List DesignerTally) (are : AreAttended T Comes Leaves TurnsAway w true (λ n. just_come n first) 1 doors (map sitter ss))
      → AreClaimed (length first.edits) (length now.edits) (claims T Comes Leaves TurnsAway w true (λ n. just_come n first) 1 doors (map sitter ss) are) → (numbers : List ℕ)
      → All (λ (n : ℕ). All (λ (s : DesignerTally). s.told ≤ n) ss) numbers → All (λ (n : ℕ). n ≤ length now.edits) numbers
      → length first.edits < length now.edits → All (λ (n : ℕ). n ≡ length now.edits) numbers
  all_seen doors ss are claimed numbers told within some k d low =
      let n = slice_index_or numbers k d in
      let most : n ≤ length now.edits = within k d low in
      let unseen : n < length now.edits → ◌≡◌ {A = ℕ} 0 1 =
      λ less.
      let once = claimed.once (length now.edits - 1) (omega (arith, some)) (omega (arith, some)) in
      let none = none_claimed (length now.edits - 1) n (omega (arith, less)) 1 doors ss are (told k d low) in
      omega (arith, once, none) in
      grind (arith, most, unseen)
