-- Rows that lie one after the other in one list, and those that have one entry alone beside it.
use Rattle.std.proofs.Common.{◌≡◌, ℕ, Bool, true, false, cond, ◌+◌, ◌-◌, ◌<◌, ◌≤◌, List, [], ◌∷◌, ◌++◌, take, drop, length, slice_index, slice_index_or, zero, suc, refl, ap, sym, subst, ◌∙◌, arith}
use Rattle.std.specs.Prelude.{◌==◌}
use Rattle.std.proofs.lemmas.List.{take_all, drop_at, take-append-le, drop-append-le, length-drop, length-append}
use Rattle.mp_kernel.specs.declared.events.fanout_entry.FanoutEntry.{FanoutEntry}
use Rattle.mp_kernel.specs.events.Fanouts.{rows_from, rows_of, Rises, ArePlaces, no_entry, head_of, listed_of, row_by, rows_by}

pub rises_le : (s : ℕ) (ends : List ℕ) (size : ℕ) → Rises s ends size → s ≤ size
rises_le s [] size rises = omega (arith, rises)
rises_le s (e ∷ ends) size rises = omega (arith, rises.0, rises_le e ends size rises.1)

length_from : (s : ℕ) (ends : List ℕ) (list : List FanoutEntry) → length (rows_from s ends list) ≡ length ends
length_from s [] list = refl
length_from s (e ∷ ends) list = ap suc (length_from e ends list)

pub length_rows : (places : List ℕ) (list : List FanoutEntry) → length (rows_of places list) ≡ length places - 1
length_rows [] list = omega arith
length_rows (s ∷ ends) list = length_from s ends list ∙ omega arith

-- the place and the next
rises_at : (s : ℕ) (ends : List ℕ) (size w : ℕ) → Rises s ends size → w < length ends → (slice_index (s ∷ ends) w ≤ slice_index ends w) × (slice_index ends w ≤ size)
rises_at s [] size w rises within = absurd (omega arith)
rises_at s (e ∷ ends) size zero rises within = (rises.0, rises_le e ends size rises.1)
rises_at s (e ∷ ends) size (suc w) rises within = rises_at e ends size w rises.1 (omega (arith, within))

row_from : (s : ℕ) (ends : List ℕ) (list : List FanoutEntry) (w : ℕ) → w < length ends
    → slice_index_or (rows_from s ends list) w [] ≡ take (slice_index ends w - slice_index (s ∷ ends) w) (drop (slice_index (s ∷ ends) w) list)
row_from s [] list w within = absurd (omega arith)
row_from s (e ∷ ends) list zero within = refl
row_from s (e ∷ ends) list (suc w) within = row_from e ends list w (omega (arith, within))

pub places_at : (places : List ℕ) (size w : ℕ) → ArePlaces places size → w + 1 < length places → (slice_index places w ≤ slice_index places (w + 1)) × (slice_index places (w + 1) ≤ size)
places_at [] size w are within = absurd are
places_at (s ∷ ends) size w are within =
    let e : suc w ≡ w + 1 = omega arith in
    subst (λ k. (slice_index (s ∷ ends) w ≤ slice_index (s ∷ ends) k) × (slice_index (s ∷ ends) k ≤ size)) e (rises_at s ends size w are (omega (arith, within)))

pub row_is : (places : List ℕ) (list : List FanoutEntry) (w : ℕ) → w + 1 < length places
    → slice_index_or (rows_of places list) w [] ≡ take (slice_index places (w + 1) - slice_index places w) (drop (slice_index places w) list)
row_is [] list w within = absurd (omega arith)
row_is (s ∷ ends) list w within =
    let e : suc w ≡ w + 1 = omega arith in
    subst (λ k. slice_index_or (rows_from s ends list) w [] ≡ take (slice_index (s ∷ ends) k - slice_index (s ∷ ends) w) (drop (slice_index (s ∷ ends) w) list)) e (row_from s ends list w (omega (arith, within)))

-- one row more
push_from : (s : ℕ) (ends : List ℕ) (list row : List FanoutEntry) → Rises s ends (length list)
    → rows_from s (ends ++ length (list ++ row) ∷ []) (list ++ row) ≡ rows_from s ends list ++ row ∷ []
push_from s [] list row rises =
    let size = length-append list row in
    let behind : drop s (list ++ row) ≡ row = drop_at list row s (sym rises) in
    ap (λ xs. take (length (list ++ row) - s) xs ∷ []) behind ∙ ap (λ xs. xs ∷ []) (take_all (length (list ++ row) - s) row (omega (arith, size, rises)))
push_from s (e ∷ ends) list row rises =
    let le = rises_le e ends (length list) rises.1 in
    let rest = push_from e ends list row rises.1 in
    let shorter = length-drop s list in
    let here : take (e - s) (drop s (list ++ row)) ≡ take (e - s) (drop s list) =
    ap (take (e - s)) (drop-append-le s list row (omega (arith, rises.0, le))) ∙ take-append-le (e - s) (drop s list) row (omega (arith, shorter, rises.0, le)) in
    ap (λ x. x ∷ rows_from e (ends ++ length (list ++ row) ∷ []) (list ++ row)) here ∙ ap (λ xs. take (e - s) (drop s list) ∷ xs) rest

pub rows_push : (places : List ℕ) (list row : List FanoutEntry) → ArePlaces places (length list) → rows_of (places ++ length (list ++ row) ∷ []) (list ++ row) ≡ rows_of places list ++ row ∷ []
rows_push [] list row are = absurd are
rows_push (s ∷ ends) list row are = push_from s ends list row are

rises_push : (s : ℕ) (ends : List ℕ) (size more : ℕ) → Rises s ends size → size ≤ more → Rises s (ends ++ more ∷ []) more
rises_push s [] size more rises le = (omega (arith, rises, le), refl)
rises_push s (e ∷ ends) size more rises le = (rises.0, rises_push e ends size more rises.1 le)

pub places_push : (places : List ℕ) (size more : ℕ) → ArePlaces places size → size ≤ more → ArePlaces (places ++ more ∷ []) more
places_push [] size more are le = absurd are
places_push (s ∷ ends) size more are le = rises_push s ends size more are le

-- rows by their heads
pub length_by : (heads : List FanoutEntry) (rows : List (List FanoutEntry)) → length (rows_by heads rows) ≡ length heads
length_by [] rows = refl
length_by (head ∷ heads) [] = ap suc (length_by heads [])
length_by (head ∷ heads) (row ∷ rows) = ap suc (length_by heads rows)

pub row_by_at : (heads : List FanoutEntry) (rows : List (List FanoutEntry)) (w : ℕ) → w < length heads
    → slice_index_or (rows_by heads rows) w [] ≡ row_by (slice_index_or heads w no_entry) (slice_index_or rows w [])
row_by_at [] rows w within = absurd (omega arith)
row_by_at (head ∷ heads) [] zero within = refl
row_by_at (head ∷ heads) [] (suc w) within = row_by_at heads [] w (omega (arith, within))
row_by_at (head ∷ heads) (row ∷ rows) zero within = refl
row_by_at (head ∷ heads) (row ∷ rows) (suc w) within = row_by_at heads rows w (omega (arith, within))

-- one row more
by_push : (heads : List FanoutEntry) (rows : List (List FanoutEntry)) (head : FanoutEntry) (row : List FanoutEntry) → length heads ≡ length rows
    → rows_by (heads ++ head ∷ []) (rows ++ row ∷ []) ≡ rows_by heads rows ++ row_by head row ∷ []
by_push [] [] head row same = refl
by_push [] (r ∷ rows) head row same = absurd (omega (arith, same))
by_push (h ∷ heads) [] head row same = absurd (omega (arith, same))
by_push (h ∷ heads) (r ∷ rows) head row same = ap (λ xs. row_by h r ∷ xs) (by_push heads rows head row (omega (arith, same)))

-- a row is what its head and what is listed of it say
whole : (row : List FanoutEntry) → row_by (head_of row) (listed_of row) ≡ row
whole [] = refl
whole (only ∷ []) = by (only.event == 0)
  where
    by : (none : Bool) → cond none (cond none (only ∷ []) []) (only ∷ []) ≡ only ∷ []
    by true = refl
    by false = refl
whole (first ∷ second ∷ others) = refl

pub headed_push : (heads : List FanoutEntry) (places : List ℕ) (list row : List FanoutEntry) → length heads + 1 ≡ length places → ArePlaces places (length list)
    → rows_by (heads ++ head_of row ∷ []) (rows_of (places ++ length (list ++ listed_of row) ∷ []) (list ++ listed_of row)) ≡ rows_by heads (rows_of places list) ++ row ∷ []
headed_push heads places list row same are =
    let size = length_rows places list in
    ap (rows_by (heads ++ head_of row ∷ [])) (rows_push places list (listed_of row) are)
    ∙ by_push heads (rows_of places list) (head_of row) (listed_of row) (omega (arith, same, size))
    ∙ ap (λ x. rows_by heads (rows_of places list) ++ x ∷ []) (whole row)
