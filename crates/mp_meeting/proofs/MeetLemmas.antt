-- What a meeting led to, designer by designer.
use Rattle.std.proofs.Common.{◌≡◌, ℕ, ◌+◌, ◌<◌, ◌≤◌, zero, suc, List, [], ◌∷◌, ◌++◌, map, take, drop, length, slice_index, slice_index_or, false, All, refl, sym, ap, ◌∙◌, subst, arith}
use Rattle.std.specs.Borrow.{Bor}
use Rattle.std.proofs.lemmas.Grind.{get_or_default_zero}
use Rattle.std.proofs.Math.Seq.{take-append_seam}
use Rattle.std.proofs.lemmas.List.{length-map}
use Rattle.std.proofs.lemmas.List.Elements.{All-head, All-tail}
use Rattle.mp_netlist.specs.Circuit.{Circuit}
use Rattle.mp_text.specs.lexing.Lines.{lines_of}
use Rattle.mp_text.specs.lexing.Divisions.{lines_of_each}
use Rattle.mp_version.specs.Stories.{Story, opening}
use Rattle.mp_version.specs.Extending.{Extends}
use Rattle.mp_desk.specs.Holders.{Working, Seeing, GoesOn, ExtendsEach}
use Rattle.mp_desk.specs.Holders as holders
use Rattle.mp_meeting.specs.Sittings.{DesignerTally, begun, HasWorked, WorkedEach}
use Rattle.mp_meeting.specs.Seats.{working, tally_of}
use Rattle.mp_meeting.specs.Meetings.{AreWorked, accepted_by, IsMeeting}
use Rattle.mp_version.proofs.PrefixLemmas.{prefix_trans, extends_trans, extends_length}
use Rattle.mp_meeting.proofs.FateLemmas.{among_more}

-- each designer has worked through the block
abbrev pub AllDone : Story → List (Bor (List ℕ)) → List DesignerTally → Type 0
AllDone start [] [] = Unit {0}
AllDone start (b ∷ bs) (s ∷ ss) = HasWorked start (lines_of b.now) s × AllDone start bs ss
AllDone start bs ss = ⊥

all_done : (start : Story) (bs : List (Bor (List ℕ))) (ss : List DesignerTally) → length bs ≡ length ss
    → ((k : ℕ) (s : DesignerTally) (b : Bor (List ℕ)) → k < length ss → HasWorked start (lines_of (slice_index_or bs k b).now) (slice_index_or ss k s)) → AllDone start bs ss
all_done start [] [] same h = tt
all_done start [] (s ∷ ss) same h = absurd (omega (arith, same))
all_done start (b ∷ bs) [] same h = absurd (omega (arith, same))
all_done start (b ∷ bs) (s ∷ ss) same h = (h 0 s b (omega arith), all_done start bs ss (omega (arith, same)) (λ k t c within. h (suc k) t c (omega (arith, within))))

-- those who have just come have seen the opening version
all_begun : (start : Story) (ds : List Working) → All (λ (d : Working). d.seen ≡ start) ds → (k : ℕ) (s : DesignerTally) → k < length ds → (slice_index_or (map begun ds) k s).seen ≡ start
all_begun start [] h k s within = absurd (omega (arith, within))
all_begun start (d ∷ ds) h zero s within = All-head (λ (d : Working). d.seen ≡ start) d ds h
all_begun start (d ∷ ds) h (suc k) s within = all_begun start ds (All-tail (λ (d : Working). d.seen ≡ start) d ds h) k s (omega (arith, within))

module _ (now : Story) (numbers : List ℕ) where
  -- the viewers were told of this
  abbrev Told : List DesignerTally → Type 0
  Told ss = All (λ (n : ℕ). All (λ (s : DesignerTally). s.told ≤ n) ss) numbers

  worked : (base : Circuit) (bs : List (Bor (List ℕ))) (ss : List DesignerTally) → AllDone (opening base) bs ss → ExtendsEach now (map working ss) → Told ss → AreWorked now numbers (lines_of_each bs) (map tally_of ss)
  worked base [] [] done extends told = tt
  worked base [] (s ∷ ss) done extends told = absurd done
  worked base (b ∷ bs) [] done extends told = absurd done
  worked base (b ∷ bs) (s ∷ ss) done extends told =
      let h = done.0 in (
        record {
          fates = h.fates;
          judged = h.judged now extends.0;
          rise = h.rise now extends.0;
          accepted = h.accepted;
          refused = h.refused;
          seen = λ k n within. among_more s.told (slice_index_or numbers k n) h.fates (All-head (λ (t : DesignerTally). t.told ≤ slice_index_or numbers k n) s ss (told k n within)) h.among;
        },
        worked base bs ss done.1 extends.1 (λ k n within. All-tail (λ (t : DesignerTally). t.told ≤ slice_index_or numbers k n) s ss (told k n within)),
      )

  counted_alike : (ss : List DesignerTally) → accepted_by (map tally_of ss) ≡ holders.accepted_by (map working ss)
  counted_alike [] = refl
  counted_alike (s ∷ ss) = ap (λ (n : ℕ). s.accepted + n) (counted_alike ss)

  based : (base : Circuit) (bs : List (Bor (List ℕ))) (ss : List DesignerTally) → 0 < length bs → AllDone (opening base) bs ss → ExtendsEach now (map working ss) → now.base ≡ base
  based base [] ss some done extends = absurd (omega (arith, some))
  based base (b ∷ bs) [] some done extends = absurd done
  based base (b ∷ bs) (s ∷ ss) some done extends = extends.0.same_base ∙ done.0.extends.same_base

  pub met : (base : Circuit) (bs : List (Bor (List ℕ))) (ds : List Working) (old new : List DesignerTally) → All (λ (d : Working). d.seen ≡ opening base) ds
      → old ≡ map begun ds → length ds ≡ length bs → 0 < length bs → length new ≡ length old
      → WorkedEach bs old new → All (λ (s : DesignerTally). s.wanting ≡ false) new → Told new → ExtendsEach now (map working new) → length now.edits ≡ holders.accepted_by (map working new)
      → All (λ (n : ℕ). n ≤ length now.edits) numbers → IsMeeting base (lines_of_each bs) now (map tally_of new) numbers
  met base bs ds old new fresh seated count some same done whole told extends counted within =
      let size : length old ≡ length ds = ap (λ (l : List DesignerTally). length l) seated ∙ length-map ds begun in
      let all : AllDone (opening base) bs new =
      all_done (opening base) bs new (omega (arith, count, same, size))
      (λ k s b inside.
      subst (λ (start : Story). HasWorked start (lines_of (slice_index_or bs k b).now) (slice_index_or new k s))
      (ap (λ (l : List DesignerTally). (slice_index_or l k s).seen) seated ∙ all_begun (opening base) ds fresh k s (omega (arith, inside, same, size)))
      (done k s b (omega (arith, inside, same)) (whole k s inside))) in
      record {
        same_base = based base bs new some all extends;
        worked = worked base bs new all extends told;
        counted = counted_alike new ∙ sym counted;
        within = within;
      }

-- those who sat down have only just come
pub seated_fresh : (ds : List Working) (ss : List DesignerTally) → ss ≡ map begun ds → All (λ (s : DesignerTally). s ≡ begun (working s)) ss
seated_fresh ds ss same = subst (All (λ (s : DesignerTally). s ≡ begun (working s))) (sym same) (by ds)
  where
    by : (ds : List Working) → All (λ (s : DesignerTally). s ≡ begun (working s)) (map begun ds)
    by [] k s within = absurd (omega (arith, within))
    by (d ∷ ds) zero s within = refl
    by (d ∷ ds) (suc k) s within = by ds k s (omega (arith, within))

-- no viewer saw more than there was
pub none_more : (now : Story) (numbers : List ℕ) (vs : List Seeing) → length numbers ≡ length vs
    → ((k : ℕ) (v : Seeing) → k < length vs → slice_index numbers k ≡ length (slice_index_or vs k v).last.edits) → All (λ (v : Seeing). Extends now v.last) vs → All (λ (n : ℕ). n ≤ length now.edits) numbers
none_more now numbers vs count last read k n within =
    let v : Seeing = record { last = now; learnt = now; reads = []; signed = [] } in
    let under = extends_length now (slice_index_or vs k v).last (read k v (omega (arith, within, count))) in
    let same = last k v (omega (arith, within, count)) in
    let plain = get_or_default_zero numbers k n within in
    omega (arith, under, same, plain)

-- a list that was lent whole and came back changed
pub came_back : {A : Type 0} (len : ℕ) (new old : List A) → length new ≡ len → take len (new ++ drop (length new) old) ≡ new
came_back len new old same = ap (λ (n : ℕ). take n (new ++ drop (length new) old)) (sym same) ∙ take-append_seam new (drop (length new) old)

-- what a viewer read last goes on from what this viewer had read, and so does what goes on from that
pub all_looked : (now : Story) (authors : List ℕ) (old new : List Seeing) → length new ≡ length old
    → ((k : ℕ) (v : Seeing) → k < length new → GoesOn (slice_index_or new k v).last (slice_index_or new k v).signed (slice_index_or old k v).last (slice_index_or old k v).signed)
    → All (λ (v : Seeing). GoesOn now authors v.last v.signed) new → All (λ (v : Seeing). GoesOn now authors v.last v.signed) old
all_looked now authors old new same later read k v within =
    let a = read k v (omega (arith, within, same)) in
    let b = later k v (omega (arith, within, same)) in
    record {
      extends = extends_trans now (slice_index_or new k v).last (slice_index_or old k v).last a.extends b.extends;
      begins = prefix_trans (slice_index_or old k v).signed (slice_index_or new k v).signed authors b.begins a.begins;
    }
