use Rattle.std.proofs.Common.{◌≡◌, ◌≢◌, ◌+◌, ◌-◌, ◌<◌, ◌≤◌, ℕ, zero, suc, cond, [], ◌∷◌, List, length, take, drop, slice_index, slice_index_or, refl, ap, sym, subst, ◌∙◌, arith}
use Rattle.std.proofs.lemmas.Bool.{eq-eqb, ne_eqb}
use Rattle.mp_kernel.specs.declared.events.fanout_entry.FanoutEntry.{FanoutEntry}
use Rattle.mp_kernel.specs.events.Fanouts.{rows_of, ArePlaces, no_entry, rows_by}
use Rattle.mp_kernel.proofs.lemmas.events.FanoutLemmas.{row_is, row_by_at, length_by, places_at}
use Rattle.mp_kernel.proofs.events.fanout.Fanout.of.Goals as goal

-- a row has a head
headed : (heads slice : List FanoutEntry) (others rows : List (List FanoutEntry)) (w : ℕ) → slice ≡ heads → rows_by heads others ≡ rows → w < length rows → w < length slice
headed heads slice others rows w same view within =
    let a = ap (length {A = FanoutEntry}) same in
    let b = ap (length {A = List FanoutEntry}) view in
    let d = length_by heads others in
    omega (arith, within, a, b, d)

-- and a place and a next one
placed : (heads : List FanoutEntry) (places slice : List ℕ) (others rows : List (List FanoutEntry)) (w : ℕ) → slice ≡ places → length heads + 1 ≡ length places → rows_by heads others ≡ rows → w < length rows
    → w + 1 < length slice
placed heads places slice others rows w same count view within =
    let low = headed heads heads others rows w refl view within in
    let a = ap length same in
    omega (arith, low, a, count)

bounds : (places slice : List ℕ) (list other : List FanoutEntry) (w : ℕ) → slice ≡ places → other ≡ list → ArePlaces places (length list) → w + 1 < length slice
    → (slice_index slice w ≤ slice_index slice (w + 1)) × (slice_index slice (w + 1) ≤ length other)
bounds places slice list other w same one are low =
    subst (λ (xs : List FanoutEntry). (slice_index slice w ≤ slice_index slice (w + 1)) × (slice_index slice (w + 1) ≤ length xs)) (sym one)
    (places_at slice (length list) w (subst (λ xs. ArePlaces xs (length list)) (sym same) are) low)

pub bounds-heads-w : goal.bounds-heads-w
bounds-heads-w c = headed c.self.inside.heads.items c.as_slice-heads.result.now (rows_of c.self.inside.places.items c.self.inside.list.items) c.args.self.now c.args.wire c.as_slice-heads.ensures.value c.self.view_is c.requires

pub bounds-places-w : goal.bounds-places-w
bounds-places-w c =
    let low = placed c.self.inside.heads.items c.self.inside.places.items c.as_slice-places.result.now (rows_of c.self.inside.places.items c.self.inside.list.items) c.args.self.now c.args.wire
    c.as_slice-places.ensures.value c.self.invariant.0 c.self.view_is c.requires in omega (arith, low)

pub bounds-places-w-2 : goal.bounds-places-w-2
bounds-places-w-2 c = placed c.self.inside.heads.items c.self.inside.places.items c.as_slice-places.result.now (rows_of c.self.inside.places.items c.self.inside.list.items) c.args.self.now c.args.wire
    c.as_slice-places.ensures.value c.self.invariant.0 c.self.view_is c.requires

pub part-requires-2-clause-rise : goal.part-requires-2-clause-rise
part-requires-2-clause-rise c = (bounds c.self.inside.places.items c.as_slice-places.result.now c.self.inside.list.items c.as_slice.result.now c.args.wire
    c.as_slice-places.ensures.value c.as_slice.ensures.value c.self.invariant.1
    (placed c.self.inside.heads.items c.self.inside.places.items c.as_slice-places.result.now (rows_of c.self.inside.places.items c.self.inside.list.items) c.args.self.now c.args.wire
    c.as_slice-places.ensures.value c.self.invariant.0 c.self.view_is c.requires)).0

pub part-requires-2-clause-within : goal.part-requires-2-clause-within
part-requires-2-clause-within c = (bounds c.self.inside.places.items c.as_slice-places.result.now c.self.inside.list.items c.as_slice.result.now c.args.wire
    c.as_slice-places.ensures.value c.as_slice.ensures.value c.self.invariant.1
    (placed c.self.inside.heads.items c.self.inside.places.items c.as_slice-places.result.now (rows_of c.self.inside.places.items c.self.inside.list.items) c.args.self.now c.args.wire
    c.as_slice-places.ensures.value c.self.invariant.0 c.self.view_is c.requires)).1

-- one of a list
one_at : (xs : List FanoutEntry) (w : ℕ) → w < length xs → take (w + 1 - w) (drop w xs) ≡ slice_index_or xs w no_entry ∷ []
one_at [] w within = absurd (omega arith)
one_at (x ∷ xs) zero within = refl
one_at (x ∷ xs) (suc w) within = let e : suc w + 1 - suc w ≡ w + 1 - w = omega arith in ap (λ k. take k (drop w xs)) e ∙ one_at xs w (omega (arith, within))

one_read : (heads slice row : List FanoutEntry) (others rows : List (List FanoutEntry)) (w : ℕ) → slice ≡ heads → rows_by heads others ≡ rows → w < length slice
    → (slice_index_or slice w no_entry).event ≢ 0 → row ≡ take (w + 1 - w) (drop w slice) → row ≡ slice_index_or rows w []
one_read heads slice row others rows w same view within has is =
    is ∙ one_at slice w within
    ∙ sym (ap (λ b. cond b (slice_index_or others w []) (slice_index_or slice w no_entry ∷ [])) (ne_eqb (slice_index_or slice w no_entry).event 0 has))
    ∙ sym (row_by_at slice others w within)
    ∙ ap (λ xs. slice_index_or (rows_by xs others) w []) same ∙ ap (λ (xs : List (List FanoutEntry)). slice_index_or xs w []) view

pub returns-then-heads-w-ne0 : goal.returns-then-heads-w-ne0
returns-then-heads-w-ne0 c =
    one_read c.self.inside.heads.items c.as_slice-heads.result.now c.part.result.now (rows_of c.self.inside.places.items c.self.inside.list.items) c.args.self.now c.args.wire
    c.as_slice-heads.ensures.value c.self.view_is
    (headed c.self.inside.heads.items c.as_slice-heads.result.now (rows_of c.self.inside.places.items c.self.inside.list.items) c.args.self.now c.args.wire c.as_slice-heads.ensures.value c.self.view_is c.requires)
    c.if-heads-w-ne0.true c.part.ensures

listed_read : (heads slice : List FanoutEntry) (places ends : List ℕ) (list other row : List FanoutEntry) (rows : List (List FanoutEntry)) (w : ℕ) → slice ≡ heads → ends ≡ places → other ≡ list →
    rows_by heads (rows_of places list) ≡ rows → w < length slice → w + 1 < length ends → (slice_index_or slice w no_entry).event ≡ 0 →
    row ≡ take (slice_index ends (w + 1) - slice_index ends w) (drop (slice_index ends w) other) → row ≡ slice_index_or rows w []
listed_read heads slice places ends list other row rows w same tied one view within low none is =
    is ∙ ap (λ (xs : List FanoutEntry). take (slice_index ends (w + 1) - slice_index ends w) (drop (slice_index ends w) xs)) one
    ∙ sym (row_is ends list w low)
    ∙ ap (λ xs. slice_index_or (rows_of xs list) w []) tied
    ∙ sym (ap (λ b. cond b (slice_index_or (rows_of places list) w []) (slice_index_or slice w no_entry ∷ [])) (eq-eqb (slice_index_or slice w no_entry).event 0 none))
    ∙ sym (row_by_at slice (rows_of places list) w within)
    ∙ ap (λ xs. slice_index_or (rows_by xs (rows_of places list)) w []) same ∙ ap (λ (xs : List (List FanoutEntry)). slice_index_or xs w []) view

pub returns : goal.returns
returns c =
    let others = rows_of c.self.inside.places.items c.self.inside.list.items in
    let within = headed c.self.inside.heads.items c.as_slice-heads.result.now others c.args.self.now c.args.wire c.as_slice-heads.ensures.value c.self.view_is c.requires in
    let low = placed c.self.inside.heads.items c.self.inside.places.items c.as_slice-places.result.now others c.args.self.now c.args.wire c.as_slice-places.ensures.value c.self.invariant.0 c.self.view_is c.requires in
    listed_read c.self.inside.heads.items c.as_slice-heads.result.now c.self.inside.places.items c.as_slice-places.result.now c.self.inside.list.items c.as_slice.result.now c.part-2.result.now c.args.self.now
    c.args.wire c.as_slice-heads.ensures.value c.as_slice-places.ensures.value c.as_slice.ensures.value c.self.view_is within low c.if-heads-w-ne0.false c.part-2.ensures
