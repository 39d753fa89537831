-- Chains of places that name a number.
use Rattle.std.proofs.Common.{◌≡◌, ℕ, ◌*◌, ◌/◌, ◌%◌, ◌<◌, ◌≤◌, ◌⊎◌, inl, inr, List, [], ◌∷◌, ◌++◌, length, get_or, replicate, Option, Some, None, zero, suc, refl, ap, sym, subst, ◌∙◌, arith}
use Rattle.std.specs.Prelude.{slice_get}
use Rattle.std.proofs.lemmas.Bool.{cases_lt}
use Rattle.std.proofs.lemmas.List.{get_or_append_left, get_or_past, length-replicate}
use Rattle.std.proofs.lemmas.Option.{slice_get_within}
use Rattle.mp_holding.specs.declared.sets.needs.Need.{Need}
use Rattle.mp_holding.specs.declared.sets.needs.Need.TheVariants.{Always, Never, Member}
use Rattle.mp_holding.specs.declared.sets.needs.Needs.{Needs}
use Rattle.mp_holding.specs.declared.sets.readers.Readers.{Readers}
use Rattle.mp_holding.specs.sets.Elimination.{where_no_need}
use Rattle.mp_holding.specs.sets.Needs.{need_at, need_of}
use Rattle.mp_holding.specs.sets.Readers.{AreReaders, Covers}

-- a need names no number, or one
pub named : (need : Need) → ((k : ℕ) → need ≡ Member k → ⊥) ⊎ ((k : ℕ) × (need ≡ Member k))
named Always = inl (λ k is. let no : ⊥ = cc in no)
named Never = inl (λ k is. let no : ⊥ = cc in no)
named (Member k) = inr (k, refl)

pub same_member : (j k : ℕ) → Member j ≡ Member k → j ≡ k
same_member j k is = cc

-- the chains of the places before one
pub record AreReadersUpto (needs : List Needs) (end : ℕ) (last before : List ℕ) : Type 0 where
  pub places : length last ≡ length needs
  pub count : length before ≡ end
  pub last_covers : (k : ℕ) → k < length needs → Covers needs (get_or last k 0) end k
  pub last_names : (k place : ℕ) → get_or last k 0 ≡ suc place → need_at needs place ≡ Member k
  pub last_low : (k : ℕ) → get_or last k 0 ≤ end
  pub before_covers : (place k : ℕ) → place < end → k < length needs → need_at needs place ≡ Member k → Covers needs (get_or before place 0) place k
  pub before_names : (place k earlier : ℕ) → place < end → need_at needs place ≡ Member k → get_or before place 0 ≡ suc earlier → need_at needs earlier ≡ Member k
  pub falls : (place : ℕ) → get_or before place 0 ≤ place

-- what is noted at a place
pub record IsNoted (needs : List Needs) (place : ℕ) (old new : List ℕ) (noted : ℕ) : Type 0 where
  pub places : length new ≡ length old
  pub before : (k : ℕ) → need_at needs place ≡ Member k → noted ≡ get_or old k 0
  pub last : (k : ℕ) → k < length old → need_at needs place ≡ Member k → get_or new k 0 ≡ suc place
  pub others : (k : ℕ) → (need_at needs place ≡ Member k → ⊥) → get_or new k 0 ≡ get_or old k 0
  pub other : ((k : ℕ) → need_at needs place ≡ Member k → ⊥) → noted ≡ 0

module _ (needs : List Needs) (end : ℕ) (last new before : List ℕ) (noted : ℕ) (were : AreReadersUpto needs end last before) (is : IsNoted needs end last new noted) where
  abbrev after : List ℕ
  after = before ++ noted ∷ []

  -- a number is named here, or not
  here : (k : ℕ) → (need_at needs end ≡ Member k) ⊎ (need_at needs end ≡ Member k → ⊥)
  here k = by (named (need_at needs end))
    where
      same : (j : ℕ) → need_at needs end ≡ Member j → (j < k) ⊎ (k ≤ j) → (need_at needs end ≡ Member k) ⊎ (need_at needs end ≡ Member k → ⊥)
      same j named_j (inl lower) = inr (λ named_k. let one = same_member j k (sym named_j ∙ named_k) in omega (arith, one, lower))
      same j named_j (inr past) = by_eq (cases_lt k j)
        where
          by_eq : (k < j) ⊎ (j ≤ k) → (need_at needs end ≡ Member k) ⊎ (need_at needs end ≡ Member k → ⊥)
          by_eq (inl higher) = inr (λ named_k. let one = same_member j k (sym named_j ∙ named_k) in omega (arith, one, higher))
          by_eq (inr upto) = let one : j ≡ k = omega (arith, past, upto) in inl (subst (λ i. need_at needs end ≡ Member i) one named_j)

      by : ((k : ℕ) → need_at needs end ≡ Member k → ⊥) ⊎ ((j : ℕ) × (need_at needs end ≡ Member j)) → (need_at needs end ≡ Member k) ⊎ (need_at needs end ≡ Member k → ⊥)
      by (inl none) = inr (none k)
      by (inr one) = same one.0 one.1 (cases_lt one.0 k)

  noted_low : noted ≤ end
  noted_low = by (named (need_at needs end))
    where
      by : ((k : ℕ) → need_at needs end ≡ Member k → ⊥) ⊎ ((j : ℕ) × (need_at needs end ≡ Member j)) → noted ≤ end
      by (inl none) = omega (arith, is.other none)
      by (inr one) = let low = were.last_low one.0 in omega (arith, is.before one.0 one.1, low)

  earlier_is : (place : ℕ) → place < end → get_or after place 0 ≡ get_or before place 0
  earlier_is place low = get_or_append_left before (noted ∷ []) 0 place (omega (arith, low, were.count))

  last_is : get_or after end 0 ≡ noted
  last_is = subst (λ (i : ℕ). get_or after i 0 ≡ noted) were.count (at_end before)
    where
      at_end : (xs : List ℕ) → get_or (xs ++ noted ∷ []) (length xs) 0 ≡ noted
      at_end [] = refl
      at_end (x ∷ xs) = at_end xs

  last_count : length after ≡ suc end
  last_count = one before ∙ ap suc were.count
    where
      one : (xs : List ℕ) → length (xs ++ noted ∷ []) ≡ suc (length xs)
      one [] = refl
      one (x ∷ xs) = ap suc (one xs)

  covers_next : (k : ℕ) → k < length needs → Covers needs (get_or new k 0) (suc end) k
  covers_next k low place from below names = by (here k)
    where
      by : (need_at needs end ≡ Member k) ⊎ (need_at needs end ≡ Member k → ⊥) → ⊥
      by (inl so) = let noted_here = is.last k (omega (arith, low, were.places)) so in omega (arith, noted_here, from, below)
      by (inr not_so) = earlier (cases_lt place end)
        where
          earlier : (place < end) ⊎ (end ≤ place) → ⊥
          earlier (inl sooner) = were.last_covers k low place (let same = is.others k not_so in omega (arith, same, from)) sooner names
          earlier (inr there) = let one : place ≡ end = omega (arith, there, below) in not_so (subst (λ i. need_at needs i ≡ Member k) one names)

  names_next : (k place : ℕ) → get_or new k 0 ≡ suc place → need_at needs place ≡ Member k
  names_next k place so = by (here k) (cases_lt k (length last))
    where
      by : (need_at needs end ≡ Member k) ⊎ (need_at needs end ≡ Member k → ⊥) → (k < length last) ⊎ (length last ≤ k) → need_at needs place ≡ Member k
      by (inl named_here) (inl low) = let one : end ≡ place = (let noted_here = is.last k low named_here in omega (arith, noted_here, so)) in subst (λ i. need_at needs i ≡ Member k) one named_here
      by (inl named_here) (inr past) = let none : get_or new k 0 ≡ 0 = get_or_past new k 0 (omega (arith, is.places, past)) in absurd (omega (arith, none, so))
      by (inr not_here) low = were.last_names k place (sym (is.others k not_here) ∙ so)

  low_next : (k : ℕ) → get_or new k 0 ≤ suc end
  low_next k = by (here k) (cases_lt k (length last))
    where
      by : (need_at needs end ≡ Member k) ⊎ (need_at needs end ≡ Member k → ⊥) → (k < length last) ⊎ (length last ≤ k) → get_or new k 0 ≤ suc end
      by (inl named_here) (inl low) = let noted_here = is.last k low named_here in omega (arith, noted_here)
      by (inl named_here) (inr past) = let none : get_or new k 0 ≡ 0 = get_or_past new k 0 (omega (arith, is.places, past)) in omega (arith, none)
      by (inr not_here) low = let same = is.others k not_here in let old = were.last_low k in omega (arith, same, old)

  before_next : (place k : ℕ) → place < suc end → k < length needs → need_at needs place ≡ Member k → Covers needs (get_or after place 0) place k
  before_next place k below low names = by (cases_lt place end)
    where
      by : (place < end) ⊎ (end ≤ place) → Covers needs (get_or after place 0) place k
      by (inl sooner) = subst (λ (i : ℕ). Covers needs i place k) (sym (earlier_is place sooner)) (were.before_covers place k sooner low names)
      by (inr there) =
          let one : end ≡ place = omega (arith, there, below) in
          let names_here : need_at needs end ≡ Member k = subst (λ i. need_at needs i ≡ Member k) (sym one) names in
          subst (λ (j : ℕ). Covers needs (get_or after j 0) j k) one
          (subst (λ (i : ℕ). Covers needs i end k) (sym (last_is ∙ is.before k names_here)) (were.last_covers k low))

  before_names_next : (place k earlier : ℕ) → place < suc end → need_at needs place ≡ Member k → get_or after place 0 ≡ suc earlier → need_at needs earlier ≡ Member k
  before_names_next place k earlier below names so = by (cases_lt place end)
    where
      by : (place < end) ⊎ (end ≤ place) → need_at needs earlier ≡ Member k
      by (inl sooner) = were.before_names place k earlier sooner names (sym (earlier_is place sooner) ∙ so)
      by (inr there) =
          let one : place ≡ end = omega (arith, there, below) in
          let names_here : need_at needs end ≡ Member k = subst (λ i. need_at needs i ≡ Member k) one names in
          let here_is : get_or after end 0 ≡ suc earlier = subst (λ (j : ℕ). get_or after j 0 ≡ suc earlier) one so in
          were.last_names k earlier (sym (is.before k names_here) ∙ sym last_is ∙ here_is)

  falls_next : (place : ℕ) → get_or after place 0 ≤ place
  falls_next place = by (cases_lt place end) (cases_lt end place)
    where
      by : (place < end) ⊎ (end ≤ place) → (end < place) ⊎ (place ≤ end) → get_or after place 0 ≤ place
      by (inl sooner) other = let same = earlier_is place sooner in let old = were.falls place in omega (arith, same, old)
      by (inr past) (inl later) = let none : get_or after place 0 ≡ 0 = get_or_past after place 0 (omega (arith, last_count, later)) in omega (arith, none)
      by (inr past) (inr upto) = let one : end ≡ place = omega (arith, past, upto) in subst (λ (j : ℕ). get_or after j 0 ≤ j) one (omega (arith, last_is, noted_low))

  pub noted_next : AreReadersUpto needs (suc end) new after
  noted_next = record {
    places = is.places ∙ were.places;
    count = last_count;
    last_covers = covers_next;
    last_names = names_next;
    last_low = low_next;
    before_covers = before_next;
    before_names = before_names_next;
    falls = falls_next;
  }

-- ---- all places

zeros : (count k : ℕ) → ◌≡◌ {A = ℕ} (get_or (replicate count 0) k 0) 0
zeros zero k = refl
zeros (suc count) zero = refl
zeros (suc count) (suc k) = zeros count k

pub none_noted : (needs : List Needs) → AreReadersUpto needs 0 (replicate (length needs) 0) []
none_noted needs = record {
  places = length-replicate (length needs) 0;
  count = refl;
  last_covers = λ k low place from below names. omega (arith, below);
  last_names = λ k place is. let none = zeros (length needs) k in absurd (omega (arith, none, is));
  last_low = λ k. let none = zeros (length needs) k in omega (arith, none);
  before_covers = λ place k below low names. absurd (omega (arith, below));
  before_names = λ place k earlier below names is. absurd (omega (arith, below));
  falls = λ place. omega arith;
}

-- a place that names a number is one of four of a number
names_low : (needs : List Needs) (place k : ℕ) → need_at needs place ≡ Member k → place < 4 * length needs
names_low needs place k names = by (slice_get needs (place / 4)) refl names
  where
    by : (slot : Option Needs) → slice_get needs (place / 4) ≡ slot → need_of (place % 4) slot ≡ Member k → place < 4 * length needs
    by None at is = absurd (none_named (place % 4) is)
      where
        none_named : (p : ℕ) → need_of p None ≡ Member k → ⊥
        none_named p is = cc
    by (Some found) at is = let low = slice_get_within needs (place / 4) found at in omega (arith, low)

pub all_noted : (needs : List Needs) (end : ℕ) (readers : Readers) → end ≡ 4 * length needs → AreReadersUpto needs end readers.last.items readers.before.items → AreReaders needs readers
all_noted needs end readers all are = record {
  last = λ k low place from below. are.last_covers k low place from (omega (arith, below, all));
  last_names = are.last_names;
  before = λ place k low names. are.before_covers place k (let within = names_low needs place k names in omega (arith, within, all)) low names;
  before_names = λ place k earlier names. are.before_names place k earlier (let within = names_low needs place k names in omega (arith, within, all)) names;
  falls = are.falls;
  within = λ k. let low = are.last_low k in omega (arith, low, all);
}

-- ---- looking at the places of a number

-- the numbers that no place before one names another
abbrev pub unnamed_before : List Needs → ℕ → ℕ → ℕ → Type 0
unnamed_before needs gone behind k = (place : ℕ) → place / 4 ≡ k → place < behind → need_at needs place ≡ Member gone → ⊥

module _ (needs : List Needs) (readers : Readers) (are : AreReaders needs readers) (gone : ℕ) (low : gone < length needs) where
  pub starts : (behind k : ℕ) → behind ≡ get_or readers.last.items gone 0 → unnamed_before needs gone behind k → where_no_need needs gone k
  starts behind k is free place of names = by (cases_lt place behind)
    where
      by : (place < behind) ⊎ (behind ≤ place) → ⊥
      by (inl sooner) = free place of sooner names
      by (inr past) = are.last gone low place (omega (arith, past, is)) (names_low needs place gone names) names

  pub goes_on : (place next k : ℕ) → need_at needs place ≡ Member gone → next ≡ get_or readers.before.items place 0 → unnamed_before needs gone next k
      → unnamed_before needs gone (suc place) k ⊎ (k ≡ place / 4)
  goes_on place next k names is free = by (cases_lt k (place / 4)) (cases_lt (place / 4) k)
    where
      apart : (k ≡ place / 4 → ⊥) → unnamed_before needs gone (suc place) k
      apart other earlier of below named_there = by (cases_lt earlier next) (cases_lt earlier place)
        where
          by : (earlier < next) ⊎ (next ≤ earlier) → (earlier < place) ⊎ (place ≤ earlier) → ⊥
          by (inl sooner) any = free earlier of sooner named_there
          by (inr past) (inl before) = are.before place gone low names earlier (omega (arith, past, is)) before named_there
          by (inr past) (inr there) = let one : earlier ≡ place = omega (arith, there, below) in other (sym of ∙ ap (λ i. i / 4) one)

      by : (k < place / 4) ⊎ (place / 4 ≤ k) → (place / 4 < k) ⊎ (k ≤ place / 4) → unnamed_before needs gone (suc place) k ⊎ (k ≡ place / 4)
      by (inl lower) other = inl (apart (λ same. omega (arith, same, lower)))
      by (inr upto) (inl higher) = inl (apart (λ same. omega (arith, same, higher)))
      by (inr upto) (inr down) = inr (omega (arith, upto, down))
