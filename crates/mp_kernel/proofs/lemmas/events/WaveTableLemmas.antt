-- The waves of a table, of which some toggles wait in lists.
use Rattle.std.proofs.Common.{◌≡◌, ◌≢◌, ℕ, ◌+◌, ◌/◌, ◌<◌, ◌≤◌, ◌⊎◌, inl, inr, Bool, true, false, cond, List, [], ◌∷◌, length, refl, sym, ap, ◌∙◌, arith, eq-eqb, get_or-set_same, get_or-set_other, subst}
use Rattle.std.specs.Prelude.{◌==◌, slice_set, slice_index_or}
use Rattle.std.proofs.lemmas.Bool.{eqb-true, eqb-false, false_from_ne_true}
use Rattle.std.proofs.lemmas.List.{length-set}
use Rattle.std.proofs.lemmas.Bool.{cases_lt}
use Rattle.std.proofs.Math.ListN.{get_or-eq_default}
use Rattle.std.proofs.lemmas.List.FromFn.{length-map-range_with_len, get_or-map-range_with_len, fill_by_all}
use Rattle.mp_wave.specs.Waveform.{Waveform, last_time}
use Rattle.mp_wave.specs.ToggleWaves.{toggled_at}
use Rattle.mp_kernel.specs.declared.events.late_toggles.LateToggle.{LateToggle}
use Rattle.mp_kernel.specs.events.Toggling.{wave_at, AreToggled}
use Rattle.mp_kernel.specs.events.WaveTables.{toggled_by, late_times, whole_wave, waves_by, AreLate, AreAllLate, CanWait}
use Rattle.mp_kernel.proofs.lemmas.events.LateToggleLemmas.{none, strange, late_kept, none_late}

-- the wave of a wire with its toggles in the list of its share
abbrev pub late_of : List (List LateToggle) → ℕ → List LateToggle
late_of late w = slice_index_or late (w / 16384) []

abbrev pub wave_by : List (List LateToggle) → List Waveform → ℕ → Waveform
wave_by late waves w = whole_wave waves (late_of late w) w

-- ---- a table's waves
pub length_by : (late : List (List LateToggle)) (waves : List Waveform) → length (waves_by late waves) ≡ length waves
length_by late waves = length-map-range_with_len (wave_by late waves) 0 (length waves)

pub wave_in : (late : List (List LateToggle)) (waves : List Waveform) (w : ℕ) → w < length waves → wave_at (waves_by late waves) w ≡ wave_by late waves w
wave_in late waves w within = get_or-map-range_with_len (wave_by late waves) 0 (length waves) w w none within (omega arith)

pub same_view : (late : List (List LateToggle)) (waves new : List Waveform) → length new ≡ length waves → ((w : ℕ) → w < length waves → wave_at new w ≡ wave_by late waves w) → new ≡ waves_by late waves
same_view late waves new long each = fill_by_all (wave_by late waves) new (length waves) none long each

no_wave : (late : List (List LateToggle)) (waves : List Waveform) (w : ℕ) → length waves ≤ w → wave_at (waves_by late waves) w ≡ none
no_wave late waves w beyond = get_or-eq_default (waves_by late waves) none (let long = length_by late waves in omega arith)

toggled_once : (late new_late : List (List LateToggle)) (waves new : List Waveform) (wire time v : ℕ) (b : Bool) → length new ≡ length waves → wire < length waves →
    ((v : ℕ) → v ≢ wire → wave_by new_late new v ≡ wave_by late waves v) → wave_by new_late new wire ≡ toggled_at (wave_by late waves wire) time →
    (wire == v) ≡ b → (v < length waves) ⊎ (length waves ≤ v) →
    wave_at (waves_by new_late new) v ≡ cond (0 + cond b 1 0 == 0) (wave_at (waves_by late waves) v) (toggled_at (wave_at (waves_by late waves) v) time)
toggled_once late new_late waves new wire time v true long placed others own is side =
    subst (λ k. wave_at (waves_by new_late new) k ≡ toggled_at (wave_at (waves_by late waves) k) time) (eqb-true wire v is)
    (wave_in new_late new wire (omega arith) ∙ own ∙ sym (ap (λ k. toggled_at k time) (wave_in late waves wire placed)))
toggled_once late new_late waves new wire time v false long placed others own is (inl within) =
    wave_in new_late new v (omega arith) ∙ others v (λ e. eqb-false wire v is (sym e)) ∙ sym (wave_in late waves v within)
toggled_once late new_late waves new wire time v false long placed others own is (inr beyond) =
    no_wave new_late new v (omega arith) ∙ sym (no_wave late waves v beyond)

-- a wire toggles, where its wave does and others stay
pub toggled_view : (late new_late : List (List LateToggle)) (waves new : List Waveform) (wire time : ℕ) → length new ≡ length waves → wire < length waves →
    ((v : ℕ) → v ≢ wire → wave_by new_late new v ≡ wave_by late waves v) → wave_by new_late new wire ≡ toggled_at (wave_by late waves wire) time →
    AreToggled (waves_by late waves) (waves_by new_late new) (wire ∷ []) time
toggled_view late new_late waves new wire time long placed others own = record {
  placed = length_by new_late new ∙ long ∙ sym (length_by late waves);
  each = λ v. toggled_once late new_late waves new wire time v (wire == v) long placed others own refl (cases_lt v (length waves));
}

-- ---- a table's wire toggles, where no list is of its share
alone : (late : List (List LateToggle)) (waves : List Waveform) (wire : ℕ) → length late ≤ wire / 16384 → wave_by late waves wire ≡ wave_at waves wire
alone late waves wire beyond = ap (λ l. whole_wave waves l wire) (get_or-eq_default late [] beyond)

pub placed_in : (late : List (List LateToggle)) (waves view : List Waveform) (wire : ℕ) → waves_by late waves ≡ view → wire < length view → wire < length waves
placed_in late waves view wire is within = let long = length_by late waves in let same : length (waves_by late waves) ≡ length view = ap length is in omega arith

viewed : (late : List (List LateToggle)) (waves view : List Waveform) (wire : ℕ) → waves_by late waves ≡ view → wire < length view → wave_at view wire ≡ wave_by late waves wire
viewed late waves view wire is within = ap (λ l. wave_at l wire) (sym is) ∙ wave_in late waves wire (placed_in late waves view wire is within)

pub over_alone : (late : List (List LateToggle)) (waves view : List Waveform) (wire time : ℕ) → waves_by late waves ≡ view → wire < length view → length late ≤ wire / 16384 →
    last_time 0 (wave_at view wire).changes < time → last_time 0 (wave_at waves wire).changes < time
over_alone late waves view wire time is within beyond over =
    subst (λ (v : Waveform). last_time 0 v.changes < time) (viewed late waves view wire is within ∙ alone late waves wire beyond) over

kept_share : (waves : List Waveform) (late : List (List LateToggle)) (wire share : ℕ) (own : Waveform) → AreAllLate waves late → length late ≤ wire / 16384 → (share < length late) ⊎ (length late ≤ share) →
    AreLate (slice_set waves wire own) share (slice_index_or late share [])
kept_share waves late wire share own are beyond (inl within) =
    late_kept waves (slice_set waves wire own) share (slice_index_or late share []) (are share) (length-set waves wire own)
    (λ w same. get_or-set_other waves wire w own none (λ e. let here : w / 16384 ≡ wire / 16384 = ap (λ v. v / 16384) e in omega arith))
kept_share waves late wire share own are beyond (inr outside) =
    subst (λ l. AreLate (slice_set waves wire own) share l) (sym (get_or-eq_default late [] outside)) (none_late (slice_set waves wire own) share)

pub kept_alone : (waves : List Waveform) (late : List (List LateToggle)) (wire : ℕ) (own : Waveform) → AreAllLate waves late → length late ≤ wire / 16384 → AreAllLate (slice_set waves wire own) late
kept_alone waves late wire own are beyond = λ share. kept_share waves late wire share own are beyond (cases_lt share (length late))

pub toggled_alone : (late : List (List LateToggle)) (waves view : List Waveform) (wire time : ℕ) (own : Waveform) → waves_by late waves ≡ view → wire < length view → length late ≤ wire / 16384 →
    own ≡ toggled_at (wave_at waves wire) time → AreToggled view (waves_by late (slice_set waves wire own)) (wire ∷ []) time
toggled_alone late waves view wire time own is within beyond toggled =
    let placed = placed_in late waves view wire is within in
    subst (λ old. AreToggled old (waves_by late (slice_set waves wire own)) (wire ∷ []) time) is
    (toggled_view late late waves (slice_set waves wire own) wire time (length-set waves wire own) placed
    (λ v other. ap (λ w. toggled_by w (late_times v (late_of late v))) (get_or-set_other waves wire v own none other))
    (alone late (slice_set waves wire own) wire beyond ∙ get_or-set_same waves wire own none placed ∙ toggled ∙ ap (λ w. toggled_at w time) (sym (alone late waves wire beyond))))

-- ---- and where it waits in the list of its share
pub can_wait : (late : List (List LateToggle)) (waves view : List Waveform) (wire time : ℕ) (list : List LateToggle) → waves_by late waves ≡ view → wire < length view → AreAllLate waves late →
    last_time 0 (wave_at view wire).changes < time → list ≡ late_of late wire → CanWait waves list (record { wire = wire; time = time })
can_wait late waves view wire time list is within are over same = record {
  before = subst (λ l. AreLate waves (wire / 16384) l) (sym same) (are (wire / 16384));
  waved = placed_in late waves view wire is within;
  over = subst (λ (v : Waveform). last_time 0 v.changes < time) (viewed late waves view wire is within ∙ ap (λ l. whole_wave waves l wire) (sym same)) over;
}

share_kept : (waves now : List Waveform) (late : List (List LateToggle)) (share k : ℕ) (list : List LateToggle) (b : Bool) → AreAllLate waves late → length now ≡ length waves → AreLate now share list →
    ((w : ℕ) → w / 16384 ≢ share → wave_at now w ≡ wave_at waves w) → share < length late → (share == k) ≡ b → AreLate now k (slice_index_or (slice_set late share list) k [])
share_kept waves now late share k list true are long own others within is =
    subst (λ j. AreLate now j (slice_index_or (slice_set late share list) j [])) (eqb-true share k is)
    (subst (λ l. AreLate now share l) (sym (get_or-set_same late share list [] within)) own)
share_kept waves now late share k list false are long own others within is =
    let other : k ≢ share = λ e. eqb-false share k is (sym e) in
    subst (λ l. AreLate now k l) (sym (get_or-set_other late share k list [] other))
    (late_kept waves now k (slice_index_or late k []) (are k) long (λ w same. others w (λ e. other (sym same ∙ e))))

pub kept_pushed : (waves now : List Waveform) (late : List (List LateToggle)) (share : ℕ) (list : List LateToggle) → AreAllLate waves late → length now ≡ length waves → AreLate now share list →
    ((w : ℕ) → w / 16384 ≢ share → wave_at now w ≡ wave_at waves w) → share < length late → AreAllLate now (slice_set late share list)
kept_pushed waves now late share list are long own others within = λ k. share_kept waves now late share k list (share == k) are long own others within refl

cond_other : {X : Type 0} (wire v : ℕ) (a b : X) → v ≢ wire → cond (wire == v) a b ≡ b
cond_other wire v a b other = ap (λ (c : Bool). cond c a b) (false_from_ne_true (wire == v) (λ e. other (sym (eqb-true wire v e))))

other_pushed : (waves now : List Waveform) (late : List (List LateToggle)) (wire time v : ℕ) (list : List LateToggle) (b : Bool) →
    ((w : ℕ) → w / 16384 ≢ wire / 16384 → wave_at now w ≡ wave_at waves w) → wire / 16384 < length late →
    ((w : ℕ) → whole_wave now list w ≡ cond (wire == w) (toggled_at (whole_wave waves (late_of late wire) w) time) (whole_wave waves (late_of late wire) w)) →
    v ≢ wire → (v / 16384 == wire / 16384) ≡ b → wave_by (slice_set late (wire / 16384) list) now v ≡ wave_by late waves v
other_pushed waves now late wire time v list true others within pushed other is =
    let same : v / 16384 ≡ wire / 16384 = eqb-true (v / 16384) (wire / 16384) is in
    ap (λ k. whole_wave now (slice_index_or (slice_set late (wire / 16384) list) k []) v) same
    ∙ ap (λ l. whole_wave now l v) (get_or-set_same late (wire / 16384) list [] within)
    ∙ pushed v
    ∙ cond_other wire v (toggled_at (whole_wave waves (late_of late wire) v) time) (whole_wave waves (late_of late wire) v) other
    ∙ ap (λ k. whole_wave waves (slice_index_or late k []) v) (sym same)
other_pushed waves now late wire time v list false others within pushed other is =
    let apart = eqb-false (v / 16384) (wire / 16384) is in
    ap (λ l. whole_wave now l v) (get_or-set_other late (wire / 16384) (v / 16384) list [] apart)
    ∙ ap (λ w. toggled_by w (late_times v (late_of late v))) (others v apart)

pub toggled_pushed : (waves now view : List Waveform) (late : List (List LateToggle)) (wire time : ℕ) (list : List LateToggle) → waves_by late waves ≡ view → wire < length view → length now ≡ length waves →
    ((w : ℕ) → w / 16384 ≢ wire / 16384 → wave_at now w ≡ wave_at waves w) → wire / 16384 < length late →
    ((w : ℕ) → whole_wave now list w ≡ cond (wire == w) (toggled_at (whole_wave waves (late_of late wire) w) time) (whole_wave waves (late_of late wire) w)) →
    AreToggled view (waves_by (slice_set late (wire / 16384) list) now) (wire ∷ []) time
toggled_pushed waves now view late wire time list is placed long others within pushed =
    subst (λ old. AreToggled old (waves_by (slice_set late (wire / 16384) list) now) (wire ∷ []) time) is
    (toggled_view late (slice_set late (wire / 16384) list) waves now wire time long (placed_in late waves view wire is placed)
    (λ v other. other_pushed waves now late wire time v list (v / 16384 == wire / 16384) others within pushed other refl)
    (ap (λ l. whole_wave now l wire) (get_or-set_same late (wire / 16384) list [] within)
    ∙ pushed wire
    ∙ ap (λ (b : Bool). cond b (toggled_at (whole_wave waves (late_of late wire) wire) time) (whole_wave waves (late_of late wire) wire)) (eq-eqb wire wire refl)))

-- ---- all toggles are put into their waves

-- those of the shares before one
pub record ArePutBefore (late left : List (List LateToggle)) (waves now : List Waveform) (share : ℕ) : Type 0 where
  pub count : length left ≡ length late
  pub rest : (k : ℕ) → share ≤ k → slice_index_or left k [] ≡ slice_index_or late k []
  pub long : length now ≡ length waves
  pub put : (w : ℕ) → w / 16384 < share → wave_at now w ≡ wave_by late waves w
  pub ahead : (w : ℕ) → share ≤ w / 16384 → wave_at now w ≡ wave_at waves w

pub late_at : (late left : List (List LateToggle)) (waves now : List Waveform) (share : ℕ) → AreAllLate waves late → ArePutBefore late left waves now share → AreLate now share (slice_index_or left share [])
late_at late left waves now share are put =
    subst (λ l. AreLate now share l) (sym (put.rest share (omega arith)))
    (late_kept waves now share (slice_index_or late share []) (are share) put.long (λ w same. put.ahead w (omega arith)))

put_wave : (late left : List (List LateToggle)) (waves now new : List Waveform) (share w : ℕ) → AreAllLate waves late → ArePutBefore late left waves now share → share < length late →
    ((v : ℕ) → late_times v (slice_index_or left share []) ≡ [] → wave_at new v ≡ wave_at now v) → ((v : ℕ) → wave_at new v ≡ whole_wave now (slice_index_or left share []) v) →
    w / 16384 < share + 1 → (w / 16384 < share) ⊎ (share ≤ w / 16384) → wave_at new w ≡ wave_by late waves w
put_wave late left waves now new share w are put within others whole low (inl before) =
    others w (strange now share (slice_index_or left share []) (late_at late left waves now share are put) w (omega arith)) ∙ put.put w before
put_wave late left waves now new share w are put within others whole low (inr least) =
    let here : w / 16384 ≡ share = omega arith in
    whole w
    ∙ ap (λ v. toggled_by v (late_times w (slice_index_or left share []))) (put.ahead w least)
    ∙ ap (λ l. whole_wave waves l w) (put.rest share (omega arith) ∙ ap (λ k. slice_index_or late k []) (sym here))

pub share_put : (late left : List (List LateToggle)) (waves now new : List Waveform) (share : ℕ) (list : List LateToggle) → AreAllLate waves late → ArePutBefore late left waves now share → share < length late →
    length new ≡ length now →
    ((v : ℕ) → late_times v (slice_index_or left share []) ≡ [] → wave_at new v ≡ wave_at now v) → ((v : ℕ) → wave_at new v ≡ whole_wave now (slice_index_or left share []) v) →
    ArePutBefore late (slice_set left share list) waves new (share + 1)
share_put late left waves now new share list are put within long others whole = record {
  count = length-set left share list ∙ put.count;
  rest = λ k least. get_or-set_other left share k list [] (λ e. omega arith) ∙ put.rest k (omega arith);
  long = long ∙ put.long;
  put = λ w low. put_wave late left waves now new share w are put within others whole low (cases_lt (w / 16384) share);
  ahead = λ w least. others w (strange now share (slice_index_or left share []) (late_at late left waves now share are put) w (λ e. omega arith)) ∙ put.ahead w (omega arith);
}

all_put_at : (late left : List (List LateToggle)) (waves now : List Waveform) (w : ℕ) → ArePutBefore late left waves now (length late) → (w / 16384 < length late) ⊎ (length late ≤ w / 16384) → wave_at now w ≡ wave_by late waves w
all_put_at late left waves now w put (inl before) = put.put w before
all_put_at late left waves now w put (inr beyond) = put.ahead w beyond ∙ sym (alone late waves w beyond)

pub all_put : (late left : List (List LateToggle)) (waves now : List Waveform) → ArePutBefore late left waves now (length late) → now ≡ waves_by late waves
all_put late left waves now put = same_view late waves now put.long (λ w within. all_put_at late left waves now w put (cases_lt (w / 16384) (length late)))

-- where none wait, a table's waves are those that it has
pub none_wait : (late : List (List LateToggle)) (waves : List Waveform) → ((k : ℕ) → slice_index_or late k [] ≡ []) → waves_by late waves ≡ waves
none_wait late waves gone = sym (same_view late waves waves refl (λ w within. sym (ap (λ l. whole_wave waves l w) (gone (w / 16384)))))
