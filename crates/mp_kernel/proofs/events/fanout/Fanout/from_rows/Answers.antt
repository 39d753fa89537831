use Rattle.std.proofs.Common.{◌≡◌, ◌+◌, ◌++◌, ◌∷◌, [], List, ℕ, length, take, slice_index_or, ◌<◌, refl, ap, sym, subst, ◌∙◌, arith}
use Rattle.std.proofs.lemmas.List.{take_more, length-append, get_or_read}
use Rattle.mp_kernel.specs.declared.events.fanout_entry.FanoutEntry.{FanoutEntry}
use Rattle.mp_kernel.specs.events.Fanouts.{rows_of, ArePlaces, head_of, listed_of, rows_by}
use Rattle.mp_kernel.proofs.lemmas.events.FanoutLemmas.{headed_push, places_push}
use Rattle.mp_kernel.proofs.events.fanout.Fanout.from_rows.Goals as goal

more : (heads new_heads : List FanoutEntry) (places : List ℕ) (list row : List FanoutEntry) (new : List ℕ) (after : List FanoutEntry) (rows : List (List FanoutEntry)) (i : ℕ) →
    length heads + 1 ≡ length places → ArePlaces places (length list) → rows_by heads (rows_of places list) ≡ take i rows
    → new_heads ≡ heads ++ head_of row ∷ [] → after ≡ list ++ listed_of row → new ≡ places ++ length after ∷ [] → row ≡ slice_index_or rows i [] → i < length rows →
    ArePlaces new (length after) × ((length new_heads + 1 ≡ length new) × (rows_by new_heads (rows_of new after) ≡ take (i + 1) rows))
more heads new_heads places list row new after rows i count are joined headed longer next read within =
    let size = length-append list (listed_of row) in
    let long = ap length longer in
    let at : new ≡ places ++ length (list ++ listed_of row) ∷ [] = next ∙ ap (λ k. places ++ k ∷ []) long in
    let one_head = ap (length {A = FanoutEntry}) headed ∙ length-append heads (head_of row ∷ []) in
    let one_place = ap length next ∙ length-append places (length after ∷ []) in (
      subst (λ xs. ArePlaces xs (length after)) (sym next) (places_push places (length list) (length after) are (omega (arith, size, long))),
      (
        omega (arith, one_head, one_place, count),
        ap (λ xs. rows_by xs (rows_of new after)) headed ∙ ap (λ xs. rows_by (heads ++ head_of row ∷ []) (rows_of xs after)) at
            ∙ ap (λ xs. rows_by (heads ++ head_of row ∷ []) (rows_of (places ++ length (list ++ listed_of row) ∷ []) xs)) longer ∙ headed_push heads places list row count are
            ∙ ap (λ xs. xs ++ row ∷ []) joined ∙ ap (λ x. take i rows ++ x ∷ []) read ∙ sym (take_more rows i [] within),
      ),
    )

pub loop-row-preserved : goal.loop-row-preserved
loop-row-preserved c =
    let rows = c.args.rows.now in
    let i = c.loop-row.row-index in
    let v = c.loop-row.invariant in
    let row = slice_index_or rows i [] in
    let read : c.as_slice.result.now ≡ row = c.as_slice.ensures ∙ get_or_read rows i c.row-item.result c.loop-row-test.true c.row-item.is [] in
    let added = c.in_ok-add_row.ensures in
    let found = more c.loop-row.heads.items c.add_row.new.heads.items c.loop-row.places.items c.loop-row.list.items row c.add_row.new.places.items c.add_row.new.list.items rows i v.count v.places v.joined
    (added.heads ∙ ap (λ (xs : List FanoutEntry). c.loop-row.heads.items ++ head_of xs ∷ []) read)
    (added.list ∙ ap (λ (xs : List FanoutEntry). c.loop-row.list.items ++ listed_of xs) read)
    added.places refl c.loop-row-test.true in
    record { places = found.0; count = found.1.0; joined = found.1.1 }
