-- Toggles that wait, and waves into which they are put.
use Rattle.std.proofs.Common.{◌≡◌, ◌≢◌, ℕ, suc, ◌+◌, ◌-◌, ◌/◌, ◌<◌, Bool, true, false, cond, List, [], ◌∷◌, ◌++◌, All, length, take, drop, refl, sym, ap, ◌∙◌, arith, append-nil, eq-eqb, get_or-set_same, get_or-set_other, subst}
use Rattle.std.specs.Prelude.{◌==◌, slice_set, slice_index_or}
use Rattle.std.proofs.lemmas.Bool.{eqb-true, eqb-false}
use Rattle.std.proofs.lemmas.List.{take_more, get_or_default, length-set, take-append-drop, append_assoc, set-get_or}
use Rattle.std.proofs.lemmas.List.Elements.{All-push}
use Rattle.mp_wave.specs.Waveform.{Waveform, last_from, last_time}
use Rattle.mp_wave.specs.ToggleWaves.{AreTimes, toggled_at}
use Rattle.mp_kernel.specs.declared.events.late_toggles.LateToggle.{LateToggle}
use Rattle.mp_kernel.specs.events.Toggling.{wave_at}
use Rattle.mp_kernel.specs.events.WaveTables.{toggled_by, late_times, whole_wave, AreLate, CanWait}

abbrev pub none : Waveform
none = record { initial = 0; changes = [] }

abbrev pub no_toggle : LateToggle
no_toggle = record { wire = 0; time = 0 }

-- ---- the times of a wire
joined : (b : Bool) (t : ℕ) (xs ys zs : List ℕ) → zs ≡ xs ++ ys → cond b (t ∷ zs) zs ≡ cond b (t ∷ xs) xs ++ ys
joined true t xs ys zs is = ap (λ (l : List ℕ). t ∷ l) is
joined false t xs ys zs is = is

pub times_both : (w : ℕ) (xs ys : List LateToggle) → late_times w (xs ++ ys) ≡ late_times w xs ++ late_times w ys
times_both w [] ys = refl
times_both w (x ∷ xs) ys = joined (x.wire == w) x.time (late_times w xs) (late_times w ys) (late_times w (xs ++ ys)) (times_both w xs ys)

chosen : (b : Bool) (t : ℕ) (ts : List ℕ) → b ≢ true → ts ≡ [] → cond b (t ∷ ts) ts ≡ []
chosen true t ts other is = absurd (other refl)
chosen false t ts other is = is

-- a wire of another share has none
pub elsewhere : (w share : ℕ) (late : List LateToggle) → All (λ (toggle : LateToggle). toggle.wire / 16384 ≡ share) late → w / 16384 ≢ share → late_times w late ≡ []
elsewhere w share [] shared other = refl
elsewhere w share (x ∷ late) shared other =
    chosen (x.wire == w) x.time (late_times w late)
    (λ same. other (ap (λ v. v / 16384) (sym (eqb-true x.wire w same)) ∙ shared 0 no_toggle (omega arith)))
    (elsewhere w share late (λ i d within. shared (suc i) d (omega arith)) other)

prefix_none : (xs ys : List ℕ) → xs ++ ys ≡ [] → xs ≡ []
prefix_none [] ys is = refl
prefix_none (x ∷ xs) ys is = absurd (let long : suc (length (xs ++ ys)) ≡ 0 = ap length is in omega arith)

-- ---- waves with late toggles
pub toggled_both : (wave : Waveform) (ts us : List ℕ) → toggled_by wave (ts ++ us) ≡ toggled_by (toggled_by wave ts) us
toggled_both wave [] us = refl
toggled_both wave (t ∷ ts) us = toggled_both (toggled_at wave t) ts us

last_more : (before : ℕ) (changes : List (ℕ × ℕ)) (change : ℕ × ℕ) → last_time before (changes ++ change ∷ []) ≡ change.0
last_more before [] change = refl
last_more before (c ∷ changes) change = last_more c.0 changes change

last_toggled : (wave : Waveform) (t : ℕ) → last_time 0 (toggled_at wave t).changes ≡ t
last_toggled wave t = last_more 0 wave.changes (t, 1 - last_from wave.initial wave.changes)

-- each time is later than the wave with those before
later : (wave : Waveform) (before t : ℕ) (ts us : List ℕ) → last_time 0 wave.changes ≡ before → AreTimes before (ts ++ t ∷ us) → last_time 0 (toggled_by wave ts).changes < t
later wave before t [] us is are = subst (λ (b : ℕ). b < t) (sym is) are.0
later wave before t (s ∷ ts) us is are = later (toggled_at wave s) s t ts us (last_toggled wave s) are.1

-- one more that is later than the wave with them
one_later : (wave : Waveform) (before t : ℕ) (ts : List ℕ) → last_time 0 wave.changes ≡ before → AreTimes before ts → last_time 0 (toggled_by wave ts).changes < t → AreTimes before (ts ++ t ∷ [])
one_later wave before t [] is are over = (subst (λ (b : ℕ). b < t) is over, tt)
one_later wave before t (s ∷ ts) is are over = (are.0, one_later (toggled_at wave s) s t ts (last_toggled wave s) are.1 over)

-- ---- toggles are put into their waves, one after the other

-- the waves with the toggles before a place
abbrev pub ArePut : List Waveform → List Waveform → List LateToggle → Type 0
ArePut waves now late = (length now ≡ length waves) × ((w : ℕ) → wave_at now w ≡ whole_wave waves late w)

times_next : (w i : ℕ) (late : List LateToggle) → i < length late → late_times w (take (i + 1) late) ≡ late_times w (take i late) ++ late_times w (slice_index_or late i no_toggle ∷ [])
times_next w i late within = ap (λ l. late_times w l) (take_more late i no_toggle within) ∙ times_both w (take i late) (slice_index_or late i no_toggle ∷ [])

times_rest : (w i : ℕ) (late : List LateToggle) → i < length late → late_times w late ≡ late_times w (take (i + 1) late) ++ late_times w (drop (i + 1) late)
times_rest w i late within = ap (λ l. late_times w l) (sym (take-append-drop (i + 1) late)) ∙ times_both w (take (i + 1) late) (drop (i + 1) late)

own_time : (w t : ℕ) → cond (w == w) (t ∷ []) [] ≡ t ∷ []
own_time w t = ap (λ (b : Bool). cond b (t ∷ []) []) (eq-eqb w w refl)

pub put_later : (waves now : List Waveform) (share i : ℕ) (late : List LateToggle) → AreLate waves share late → i < length late → ArePut waves now (take i late) →
    last_time 0 (wave_at now (slice_index_or late i no_toggle).wire).changes < (slice_index_or late i no_toggle).time
put_later waves now share i late are within put =
    let x = slice_index_or late i no_toggle in
    let w = x.wire in
    let own : late_times w (x ∷ []) ≡ x.time ∷ [] = own_time w x.time in
    let all : late_times w late ≡ (late_times w (take i late) ++ x.time ∷ []) ++ late_times w (drop (i + 1) late) =
    times_rest w i late within ∙ ap (λ l. l ++ late_times w (drop (i + 1) late)) (times_next w i late within ∙ ap (λ l. late_times w (take i late) ++ l) own) in
    let rise = are.rise w in
    subst (λ (v : Waveform). last_time 0 v.changes < x.time) (sym (put.1 w))
    (later (wave_at waves w) (last_time 0 (wave_at waves w).changes) x.time (late_times w (take i late)) (late_times w (drop (i + 1) late)) refl
    (subst (λ (l : List ℕ). AreTimes (last_time 0 (wave_at waves w).changes) l) (all ∙ append_assoc (late_times w (take i late)) (x.time ∷ []) (late_times w (drop (i + 1) late))) rise))

put_one : (waves now : List Waveform) (i w : ℕ) (late : List LateToggle) (b : Bool) → i < length late → ArePut waves now (take i late) →
    (slice_index_or late i no_toggle).wire < length now → ((slice_index_or late i no_toggle).wire == w) ≡ b →
    wave_at (slice_set now (slice_index_or late i no_toggle).wire (toggled_at (wave_at now (slice_index_or late i no_toggle).wire) (slice_index_or late i no_toggle).time)) w ≡
    toggled_by (wave_at waves w) (late_times w (take i late) ++ cond b ((slice_index_or late i no_toggle).time ∷ []) [])
put_one waves now i w late true within put placed is =
    let x = slice_index_or late i no_toggle in
    subst (λ k. wave_at (slice_set now x.wire (toggled_at (wave_at now x.wire) x.time)) k ≡ toggled_by (wave_at waves k) (late_times k (take i late) ++ x.time ∷ [])) (eqb-true x.wire w is)
    (get_or-set_same now x.wire (toggled_at (wave_at now x.wire) x.time) none placed
    ∙ ap (λ v. toggled_at v x.time) (put.1 x.wire)
    ∙ sym (toggled_both (wave_at waves x.wire) (late_times x.wire (take i late)) (x.time ∷ [])))
put_one waves now i w late false within put placed is =
    let x = slice_index_or late i no_toggle in
    let other : w ≢ x.wire = λ e. eqb-false x.wire w is (sym e) in
    get_or-set_other now x.wire w (toggled_at (wave_at now x.wire) x.time) none other
    ∙ put.1 w
    ∙ ap (λ l. toggled_by (wave_at waves w) l) (sym (append-nil (late_times w (take i late))))

pub put_next : (waves now new : List Waveform) (i : ℕ) (late : List LateToggle) → i < length late → ArePut waves now (take i late) →
    (slice_index_or late i no_toggle).wire < length now →
    new ≡ slice_set now (slice_index_or late i no_toggle).wire (toggled_at (wave_at now (slice_index_or late i no_toggle).wire) (slice_index_or late i no_toggle).time) →
    ArePut waves new (take (i + 1) late)
put_next waves now new i late within put placed is = (
  ap length is ∙ length-set now _ _ ∙ put.0,
  λ w. ap (λ l. wave_at l w) is
      ∙ put_one waves now i w late ((slice_index_or late i no_toggle).wire == w) within put placed refl
      ∙ ap (λ l. toggled_by (wave_at waves w) l) (sym (times_next w i late within)),
)

-- other waves stay
pub put_others : (waves now : List Waveform) (i : ℕ) (late : List LateToggle) → ArePut waves now (take i late) → (w : ℕ) → late_times w late ≡ [] → wave_at now w ≡ wave_at waves w
put_others waves now i late put w gone =
    let first : late_times w (take i late) ≡ [] =
    prefix_none (late_times w (take i late)) (late_times w (drop i late)) (sym (times_both w (take i late) (drop i late)) ∙ ap (λ l. late_times w l) (take-append-drop i late) ∙ gone) in
    put.1 w ∙ ap (λ l. toggled_by (wave_at waves w) l) first

-- a toggle's wire has a wave
pub waved_at : (waves now : List Waveform) (share i : ℕ) (late : List LateToggle) → AreLate waves share late → i < length late → length now ≡ length waves → (slice_index_or late i no_toggle).wire < length now
waved_at waves now share i late are within long = let low = are.waved i no_toggle within in omega arith

pub found : (now : List Waveform) (w : ℕ) (own : Waveform) → own ≡ slice_index_or now w own → w < length now → own ≡ wave_at now w
found now w own is within = is ∙ get_or_default now w own none within

pub put_back : (now : List Waveform) (i : ℕ) (own : Waveform) → own ≡ wave_at now i → (w : ℕ) → wave_at (slice_set now i own) w ≡ wave_at now w
put_back now i own is w = ap (λ l. wave_at l w) (ap (λ v. slice_set now i v) is ∙ set-get_or now i none)

-- ---- what waits when waves change
-- a list has no toggles of a wire that isn't of its share
pub strange : (waves : List Waveform) (share : ℕ) (late : List LateToggle) → AreLate waves share late → (w : ℕ) → w / 16384 ≢ share → late_times w late ≡ []
strange waves share late are w other = elsewhere w share late are.shared other

-- waves of a share stay as they were, and so does what waits for it
kept_rise : (waves new : List Waveform) (share : ℕ) (late : List LateToggle) → AreLate waves share late → ((w : ℕ) → w / 16384 ≡ share → wave_at new w ≡ wave_at waves w) →
    (w : ℕ) (b : Bool) → (w / 16384 == share) ≡ b → AreTimes (last_time 0 (wave_at new w).changes) (late_times w late)
kept_rise waves new share late are same w true is = subst (λ (v : Waveform). AreTimes (last_time 0 v.changes) (late_times w late)) (sym (same w (eqb-true (w / 16384) share is))) (are.rise w)
kept_rise waves new share late are same w false is =
    subst (λ (l : List ℕ). AreTimes (last_time 0 (wave_at new w).changes) l) (sym (strange waves share late are w (eqb-false (w / 16384) share is))) tt

pub late_kept : (waves new : List Waveform) (share : ℕ) (late : List LateToggle) → AreLate waves share late → length new ≡ length waves → ((w : ℕ) → w / 16384 ≡ share → wave_at new w ≡ wave_at waves w) → AreLate new share late
late_kept waves new share late are long same = record {
  shared = are.shared;
  waved = λ i d within. let low = are.waved i d within in omega arith;
  rise = λ w. kept_rise waves new share late are same w (w / 16384 == share) refl;
}

pub none_late : (waves : List Waveform) (share : ℕ) → AreLate waves share []
none_late waves share = record {
  shared = λ i d within. absurd (omega arith);
  waved = λ i d within. absurd (omega arith);
  rise = λ w. tt;
}

-- ---- a toggle waits
rise_more : (waves : List Waveform) (late : List LateToggle) (x : LateToggle) → CanWait waves late x → (w : ℕ) (b : Bool) → (x.wire == w) ≡ b →
    AreTimes (last_time 0 (wave_at waves w).changes) (late_times w late ++ cond b (x.time ∷ []) [])
rise_more waves late x can w true is =
    subst (λ k. AreTimes (last_time 0 (wave_at waves k).changes) (late_times k late ++ x.time ∷ [])) (eqb-true x.wire w is)
    (one_later (wave_at waves x.wire) (last_time 0 (wave_at waves x.wire).changes) x.time (late_times x.wire late) refl (can.before.rise x.wire) can.over)
rise_more waves late x can w false is =
    subst (λ (l : List ℕ). AreTimes (last_time 0 (wave_at waves w).changes) l) (sym (append-nil (late_times w late))) (can.before.rise w)

pub wait_more : (waves : List Waveform) (late new : List LateToggle) (x : LateToggle) → CanWait waves late x → new ≡ late ++ x ∷ [] → AreLate waves (x.wire / 16384) new
wait_more waves late new x can is = subst (λ l. AreLate waves (x.wire / 16384) l) (sym is) (record {
  shared = All-push (λ (toggle : LateToggle). toggle.wire / 16384 ≡ x.wire / 16384) late x can.before.shared refl;
  waved = All-push (λ (toggle : LateToggle). toggle.wire < length waves) late x can.before.waved can.waved;
  rise = λ w. subst (λ (l : List ℕ). AreTimes (last_time 0 (wave_at waves w).changes) l) (sym (times_both w late (x ∷ []))) (rise_more waves late x can w (x.wire == w) refl);
})

whole_more : (waves : List Waveform) (late : List LateToggle) (x : LateToggle) (w : ℕ) (b : Bool) →
    toggled_by (wave_at waves w) (late_times w late ++ cond b (x.time ∷ []) []) ≡ cond b (toggled_at (whole_wave waves late w) x.time) (whole_wave waves late w)
whole_more waves late x w true = toggled_both (wave_at waves w) (late_times w late) (x.time ∷ [])
whole_more waves late x w false = ap (λ l. toggled_by (wave_at waves w) l) (append-nil (late_times w late))

pub waits : (waves : List Waveform) (late new : List LateToggle) (x : LateToggle) (w : ℕ) → new ≡ late ++ x ∷ [] →
    whole_wave waves new w ≡ cond (x.wire == w) (toggled_at (whole_wave waves late w) x.time) (whole_wave waves late w)
waits waves late new x w is =
    ap (λ l. whole_wave waves l w) is
    ∙ ap (λ l. toggled_by (wave_at waves w) l) (times_both w late (x ∷ []))
    ∙ whole_more waves late x w (x.wire == w)

-- where those before may have been put into their waves first
pub can_after : (waves now : List Waveform) (late left : List LateToggle) (x : LateToggle) → CanWait waves late x → AreLate now (x.wire / 16384) left → length now ≡ length waves →
    whole_wave now left x.wire ≡ whole_wave waves late x.wire → CanWait now left x
can_after waves now late left x can before long same = record {
  before = before;
  waved = let low = can.waved in omega arith;
  over = subst (λ (v : Waveform). last_time 0 v.changes < x.time) (sym same) can.over;
}
