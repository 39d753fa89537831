-- Codes at places, and their rows.
use Rattle.std.proofs.Common.{◌≡◌, ℕ, ◌+◌, ◌<◌, ◌≤◌, ◌==◌, ◌&&◌, nat_lt, Bool, true, false, not, cond, List, [], ◌∷◌, ◌++◌, length, get_or, take, drop, Option, Some, None, unwrap_or, refl, sym, ap, ◌∙◌, append_assoc, append-nil, add-one, arith}
use Rattle.std.proofs.Math.Seq.{drop-cons}
use Rattle.std.proofs.lemmas.Bool.Decides.{nat_tests}
use Rattle.std.proofs.lemmas.Grind.{flat_map-append}
use Rattle.std.proofs.lemmas.Iterator.Adapters.{position_from-zero}
use Rattle.std.proofs.lemmas.List.{take_more}
use Rattle.std.proofs.lemmas.List.Sums.{fold-append, prefix_len-le-length}
use Rattle.std.specs.BTreeMap.{is_at}
use Rattle.std.specs.List.{flat_map, position, position_from, position_or_len}
use Rattle.mp_modules.specs.Findings.{by_number, code_number}
use Rattle.mp_modules.specs.declared.finding_code.FindingCode.{FindingCode}
use Rattle.mp_model.specs.declared.finding.Place.{Place}
use Rattle.mp_model.specs.declared.finding.Finding.{Finding}
use Rattle.mp_picture.specs.declared.columns.Columns.{Columns}
use Rattle.mp_picture.specs.Columns.{column_of}
use Rattle.mp_picture.specs.Found.{is_place}
use Rattle.mp_picture.specs.PlaceKeys.{numbered_order}
use Rattle.mp_picture.specs.svg.FoundGroups.{row_among}
use Rattle.mp_picture.specs.svg.MarkNumbers.{is_mark, mark_key}
use Rattle.mp_picture.specs.declared.svg.mark_rows.MarkRow.{MarkRow}
use Rattle.mp_picture.specs.svg.MarkRows as marks
use Rattle.mp_picture.specs.svg.MarkRows.{last_of, row_if, rows_at}
use Rattle.mp_picture.proofs.FoundLemmas.{either_way}
use Rattle.mp_picture.proofs.PlaceKeyLemmas.{numbered_tell, same_either_way}

-- two codes at places are looked up as one if they are the same
pub marks_tell : (p q : Place) (c d : FindingCode) → is_at (numbered_order (mark_key p c)) (mark_key q d) ≡ is_mark p c q d
marks_tell p q c d = numbered_tell p q (code_number c) (code_number d)

-- what is found is at a place and code as these are at it
pub mark_is : (f : Finding) (p : Place) (c : FindingCode) → is_mark f.place f.code p c ≡ marks.is_at p c f
mark_is f p c =
    ap (λ (b : Bool). b && (code_number f.code == code_number c)) (either_way f.place p)
    ∙ ap (λ (b : Bool). is_place p f.place && b) (same_either_way (code_number f.code) (code_number c))

-- the last column with one finding more
pub last_more : (c : Columns) (p : Place) (code : FindingCode) (fs : List Finding) (i : ℕ) (d : Finding) → i < length fs
    → last_of c p code (take (i + 1) fs) ≡ cond (marks.is_at p code (get_or fs i d)) (Some (column_of c (get_or fs i d).time)) (last_of c p code (take i fs))
last_more c p code fs i d within = ap (last_of c p code) (take_more fs i d within) ∙ fold-append _ None (take i fs) (get_or fs i d ∷ [])

-- the rows with those of one place more
pub rows_more : (c : Columns) (fs : List Finding) (places : List Place) (i : ℕ) (d : Place) (lasts : Place → FindingCode → Option ℕ) → i < length places
    → ((p : Place) (code : FindingCode) → lasts p code ≡ last_of c p code fs)
    → flat_map (rows_at c fs) (take i places) ++ flat_map (λ code. row_if (get_or places i d) code (lasts (get_or places i d) code)) by_number ≡ flat_map (rows_at c fs) (take (i + 1) places)
rows_more c fs places i d lasts within are =
    let p = get_or places i d in
    let first = flat_map (rows_at c fs) (take i places) in
    let here : flat_map (λ (code : FindingCode). row_if p code (lasts p code)) by_number ≡ rows_at c fs p =
    (λ j. flat_map (λ (code : FindingCode). row_if p code (are p code j)) by_number) in
    ap (λ (rs : List MarkRow). first ++ rs) (here ∙ sym (append-nil (rows_at c fs p)))
    ∙ sym (ap (flat_map (rows_at c fs)) (take_more places i d within) ∙ flat_map-append (rows_at c fs) (take i places) (p ∷ []))

-- the rows of codes with that of one more
pub codes_more : (row : FindingCode → List MarkRow) (all codes : List FindingCode) (i : ℕ) (d : FindingCode) (first items new : List MarkRow) → i < length all → codes ≡ all
    → items ≡ first ++ flat_map row (take i all) → new ≡ items ++ row (get_or codes i d) → new ≡ first ++ flat_map row (take (i + 1) all)
codes_more row all codes i d first items new within are before now =
    now
    ∙ ap (λ (cs : List FindingCode). items ++ row (get_or cs i d)) are
    ∙ ap (λ (rs : List MarkRow). rs ++ row (get_or all i d)) before
    ∙ append_assoc first (flat_map row (take i all)) (row (get_or all i d))
    ∙ ap (λ (rs : List MarkRow). first ++ rs)
    (ap (λ (rs : List MarkRow). flat_map row (take i all) ++ rs) (sym (append-nil (row (get_or all i d))))
    ∙ sym (ap (flat_map row) (take_more all i d within) ∙ flat_map-append row (take i all) (get_or all i d ∷ [])))

-- ---- first rows

module _ {X : Type 0} (test : X → Bool) (xs : List X) where
  -- from one place before on
  pub first_sooner : (left k : ℕ) (d : X) → left ≡ k + 1 → k < length xs → cond (test (get_or xs k d)) (Some k) (position_from test left (drop left xs)) ≡ position_from test k (drop k xs)
  first_sooner left k d is within =
      ap (λ (n : ℕ). cond (test (get_or xs k d)) (Some k) (position_from test n (drop n xs))) is
      ∙ sym (ap (position_from test k) (drop-cons xs k d within ∙ ap (λ (n : ℕ). get_or xs k d ∷ drop n xs) (sym (add-one k))))

  -- from the first place on
  pub first_of_all : (left : ℕ) → left ≡ 0 → position_from test left (drop left xs) ≡ position test xs
  first_of_all left none = ap (λ (n : ℕ). position_from test n (drop n xs)) none ∙ sym (position_from-zero test xs)

  found_or : (first : ℕ) (b : Bool) → (b ≡ false → length xs ≡ first) → unwrap_or (cond b (Some first) None) (length xs) ≡ first
  found_or first true past = refl
  found_or first false past = past refl

  past_all : (first count : ℕ) → first ≤ count → nat_lt first count ≡ false → count ≡ first
  past_all first count within past = grind (arith, nat_tests)

  -- how many stand before the first, or all
  pub before_first : (found : Option ℕ) → found ≡ position test xs → unwrap_or found (length xs) ≡ position_or_len test xs
  before_first found is =
      let first = position_or_len test xs in
      ap (λ (o : Option ℕ). unwrap_or o (length xs)) is
      ∙ found_or first (nat_lt first (length xs)) (past_all first (length xs) (prefix_len-le-length (λ x. not (test x)) xs))

-- so many stand before the row of a finding, and no more than there are
pub rows_before : (rows all : List MarkRow) (f : Finding) (row : ℕ) → rows ≡ all → row ≡ row_among rows f → (row ≡ row_among all f) × (row ≤ length all)
rows_before rows all f row same is =
    let value = is ∙ ap (λ (rs : List MarkRow). row_among rs f) same in
    let most = prefix_len-le-length (λ (r : MarkRow). not (marks.is_at r.place r.code f)) all in
    (value, omega (arith, value, most))
