-- What one unit of time, and one delivery, does to the track of a wire.
use Rattle.std.proofs.Common.{◌≡◌, ℕ, ◌+◌, ◌-◌, ◌<◌, ◌≤◌, Bool, false, cond, List, ◌==◌, nat_lt, Option, Some, None, is_some, unwrap_or, refl, ap, sym, subst, ◌∙◌, arith, inl, inr, ◌⊎◌}
use Rattle.std.proofs.lemmas.Bool.{cases_Bool, cases_lt, le-ltb, cases_eq, cases_order}
use Rattle.std.proofs.lemmas.Bool.Decides.{nat_tests}
use Rattle.mp_wave.specs.Waveform.{Waveform, IsWaveform, level_from, level_of, last_from, last_time, held_from}
use Rattle.mp_wave.proofs.WaveformLemmas.{level_of-held_before, level_of-held_after}
use Rattle.mp_wave.proofs.BuildingLemmas.{last_time-held, form-held}
use Rattle.mp_modules.specs.Memories.{output_of}
use Rattle.mp_records.specs.declared.ids.ModuleId.{ModuleId}
use Rattle.mp_records.specs.declared.module_record.ModuleRecord.{ModuleRecord}
use Rattle.mp_records.specs.Outputs.{delay_of}
use Rattle.mp_netlist.specs.declared.driver.Driver.{Driver}
use Rattle.mp_netlist.specs.declared.driver.Driver.TheVariants.{Nothing, Stimulus, Port}
use Rattle.mp_netlist.specs.Circuit.{Circuit, IsCircuit, wire_at, module_at}
use Rattle.mp_netlist.specs.Drivers.{driver}
use Rattle.mp_model.specs.Levels.{port_level, initial_of, driven_level}
use Rattle.mp_model.specs.Tracks.{Progress, advanced, expecting, due_level, rest_after, one_more}
use Rattle.mp_model.specs.Evaluations.{AreRising, IsReached, IsOpen, IsOnTrack, delay_in, delivered}
use Rattle.mp_model.specs.Waves.{level, state}
use Rattle.mp_model.specs.Laws.{FollowsPorts}
use Rattle.mp_model.proofs.HistoryLemmas.{late}
use Rattle.mp_model.proofs.BehaviourLemmas.{satisfies}
use Rattle.mp_model.proofs.TrackLemmas as tracks

-- who has delivered
pub delivered_done : (t done p m q : ℕ) → m < done → delivered t done p m q ≡ t + 1
delivered_done t done p m q less = grind (arith, nat_tests)

pub delivered_port : (t done p m q : ℕ) → m ≡ done → q < p → delivered t done p m q ≡ t + 1
delivered_port t done p m q same less = grind (arith, nat_tests)

pub delivered_not_yet : (t done p m q : ℕ) → m ≡ done → p ≤ q → delivered t done p m q ≡ t
delivered_not_yet t done p m q same le = grind (arith, nat_tests)

pub delivered_later : (t done p m q : ℕ) → done < m → delivered t done p m q ≡ t
delivered_later t done p m q less = grind (arith, nat_tests)

pub delivered_none : (t m q : ℕ) → delivered t 0 0 m q ≡ t
delivered_none t m q = grind (arith, nat_tests)

pub delivered_least : (t done p m q : ℕ) → t ≤ delivered t done p m q
delivered_least t done p m q = grind (arith, nat_tests)

-- one port more changes nothing for the others
pub delivered_step : (t done p m q : ℕ) → (m ≡ done → q ≡ p → ⊥) → delivered t done p m q ≡ delivered t done (p + 1) m q
delivered_step t done p m q other = by (cases_order m done) (cases_lt q p)
  where
    by : (m ≡ done) ⊎ ((m < done) ⊎ (done < m)) → (q < p) ⊎ (p ≤ q) → delivered t done p m q ≡ delivered t done (p + 1) m q
    by (inl same) (inl less) = delivered_port t done p m q same less ∙ sym (delivered_port t done (p + 1) m q same (omega arith))
    by (inl same) (inr more) = let no = other same in delivered_not_yet t done p m q same more ∙ sym (delivered_not_yet t done (p + 1) m q same (omega (arith, no)))
    by (inr (inl before)) lies = delivered_done t done p m q before ∙ sym (delivered_done t done (p + 1) m q before)
    by (inr (inr after)) lies = delivered_later t done p m q after ∙ sym (delivered_later t done (p + 1) m q after)

pub delivered_more : (t done p m q : ℕ) → delivered t done p m q ≤ delivered t done (p + 1) m q
delivered_more t done p m q = grind (arith, nat_tests)

-- when all its ports have delivered a module is done
pub delivered_next : (t done p m q : ℕ) → (m ≡ done → q < p) → delivered t done p m q ≡ delivered t (done + 1) 0 m q
delivered_next t done p m q all = by (cases_order m done)
  where
    by : (m ≡ done) ⊎ ((m < done) ⊎ (done < m)) → delivered t done p m q ≡ delivered t (done + 1) 0 m q
    by (inl same) = delivered_port t done p m q same (all same) ∙ sym (delivered_done t (done + 1) 0 m q (omega arith))
    by (inr (inl before)) = delivered_done t done p m q before ∙ sym (delivered_done t (done + 1) 0 m q (omega arith))
    by (inr (inr after)) = delivered_later t done p m q after ∙ sym (by_next (cases_eq m (done + 1)))
      where
        by_next : (m ≡ done + 1) ⊎ (m ≡ done + 1 → ⊥) → delivered t (done + 1) 0 m q ≡ t
        by_next (inl same) = delivered_not_yet t (done + 1) 0 m q same (omega arith)
        by_next (inr other) = delivered_later t (done + 1) 0 m q (omega (arith, other))

-- what is reached when as much has been delivered by the driver
reached_same : (n : Circuit) (known new : ℕ → ℕ → ℕ) (d : Driver) (u : ℕ) → ((m : ModuleId) (p : ℕ) → d ≡ Port m p → known m.0 p ≡ new m.0 p) → IsReached n new d u → IsReached n known d u
reached_same n known new Nothing u same reached = tt
reached_same n known new Stimulus u same reached = tt
reached_same n known new (Port m p) u same reached = let e = same m p refl in omega (arith, e, reached)

free_same : (n : Circuit) (known new : ℕ → ℕ → ℕ) (d : Driver) (t : ℕ) (track : Progress) → ((m : ModuleId) (p : ℕ) → d ≡ Port m p → known m.0 p ≤ new m.0 p) → IsOpen n known d t track → IsOpen n new d t track
free_same n known new Nothing t track more free = tt
free_same n known new Stimulus t track more free = tt
free_same n known new (Port m p) t track more free = let le = more m p refl in (omega (arith, le, free.0), omega (arith, le, free.1))

-- a track stands as it did where its driver has delivered more, but nothing below the horizon
pub known_more : (n : Circuit) (known new : ℕ → ℕ → ℕ) (t w : ℕ) (track : Progress) → ((m : ModuleId) (p : ℕ) → driver n w ≡ Port m p → known m.0 p ≤ new m.0 p)
    → ((u : ℕ) → u < n.horizon → IsReached n new (driver n w) u → IsReached n known (driver n w) u) → IsOnTrack n known t w track → IsOnTrack n new t w track
known_more n known new t w track more below on = record {
  form = on.form;
  over = on.over;
  within = on.within;
  levels = λ u low reached. on.levels u low (below u low reached);
  present = on.present;
  quiet = on.quiet;
  rising = on.rising;
  ahead = on.ahead;
  free = free_same n known new (driver n w) t track more on.free;
}

-- a track stands as it did where its driver has delivered no more
pub known_same : (n : Circuit) (known new : ℕ → ℕ → ℕ) (t w : ℕ) (track : Progress) → ((m : ModuleId) (p : ℕ) → driver n w ≡ Port m p → known m.0 p ≡ new m.0 p) → IsOnTrack n known t w track → IsOnTrack n new t w track
known_same n known new t w track same on =
    known_more n known new t w track (λ m p e. let is = same m p e in omega (arith, is)) (λ u low reached. reached_same n known new (driver n w) u same reached) on

-- each delay is at least 1
pub delay_positive : (n : Circuit) → IsCircuit n → (m p : ℕ) → 0 < delay_in (module_at n m) p
delay_positive n ok m p = by (module_at n m) (λ r at. late n r p (ok.modules_ok m r at))
  where
    by : (slot : Option ModuleRecord) → ((r : ModuleRecord) → slot ≡ Some r → 0 < delay_of r p) → 0 < delay_in slot p
    by None positive = omega arith
    by (Some r) positive = positive r refl

-- where all have delivered the states up to a time, the next level is reached
pub next_reached : (n : Circuit) → IsCircuit n → (t u : ℕ) (d : Driver) → u ≤ t + 1 → IsReached n (λ m p. t + 1) d u
next_reached n ok t u Nothing le = tt
next_reached n ok t u Stimulus le = tt
next_reached n ok t u (Port m p) le = omega (arith, le, delay_positive n ok m.0 p)

next_open : (n : Circuit) → IsCircuit n → (t : ℕ) (d : Driver) (track : Progress) → IsOpen n (λ m p. t + 1) d t track → IsOpen n (λ m p. t + 1) d (t + 1) (advanced (t + 1) track)
next_open n ok t Nothing track free = tt
next_open n ok t Stimulus track free = tt
next_open n ok t (Port m p) track free = (
  free.0,
  tracks.last_time-rest t (t + 1) (t + 1 + delay_in (module_at n m.0) p) track.ahead free.1 (omega (arith, delay_positive n ok m.0 p)),
)

undue : (due : Option ℕ) (present : ℕ) → is_some due ≡ false → unwrap_or due present ≡ present
undue None present none = refl
undue (Some level) present none = let no : ⊥ = cc in absurd no

-- a unit later the track has gone on to the next time
pub on_track_advanced : (n : Circuit) → IsCircuit n → (t w : ℕ) (track : Progress) → t + 1 < n.horizon → IsOnTrack n (λ m p. t + 1) t w track → IsOnTrack n (λ m p. t + 1) (t + 1) w (advanced (t + 1) track)
on_track_advanced n ok t w track low on =
    let next = unwrap_or (due_level track.ahead (t + 1)) track.present in
    let due : (u : ℕ) → t + 1 ≤ u → level_from next (rest_after track.ahead (t + 1)) u ≡ level_from track.present track.ahead u
    = λ u le. tracks.level_from-due track.present (t + 1) u track.ahead le in
    let rising : AreRising (t + 1) (rest_after track.ahead (t + 1)) = tracks.AreRising-rest t track.ahead on.rising in
    let present : next ≡ level n w (t + 1)
    = sym (tracks.level_from-now next (t + 1) (t + 1) (rest_after track.ahead (t + 1)) rising (omega arith))
    ∙ due (t + 1) (omega arith) ∙ on.ahead (t + 1) (omega arith) ∙ on.levels (t + 1) low (next_reached n ok t (t + 1) (driver n w) (omega arith)) in
    record {
      form = on.form;
      over = on.over;
      within = on.within;
      levels = on.levels;
      present = present;
      quiet = λ none u e. let same : t ≡ u = omega (arith, e) in sym present ∙ undue (due_level track.ahead (t + 1)) track.present none ∙ on.present ∙ ap (level n w) same;
      rising = rising;
      ahead = λ u le. due u le ∙ on.ahead u (omega arith);
      free = next_open n ok t (driver n w) track on.free;
    }

pub port_level_is : FollowsPorts
port_level_is n ok m p w t r at drives =
    let back : t + delay_of r p - delay_of r p ≡ t = omega arith in
    let over : nat_lt (t + delay_of r p) (delay_of r p) ≡ false = le-ltb (t + delay_of r p) (delay_of r p) (omega arith) in
    (satisfies n ok).levels w (t + delay_of r p)
    ∙ ap (λ d. driven_level d n (state n) w (t + delay_of r p)) drives
    ∙ ap (λ slot. port_level (state n) slot m p (initial_of (wire_at n w)) (t + delay_of r p)) at
    ∙ ap (λ (b : Bool). cond b (initial_of (wire_at n w)) (output_of (state n m (t + delay_of r p - delay_of r p)) p)) over
    ∙ ap (λ u. output_of (state n m u) p) back

-- the changes ahead after one more
rising_more : (wave : Waveform) (t time v : ℕ) (ahead : List (ℕ × ℕ)) → AreRising t ahead → last_time t ahead < time → AreRising t (one_more wave time v ahead)
rising_more wave t time v ahead rising last =
    elim (cases_Bool (last_from wave.initial wave.changes == v)) as (λ _. AreRising t (one_more wave time v ahead)) [
      | inl same ↦ rw same rising
      | inr other ↦ rw other (tracks.AreRising-push t time v ahead rising last)
    ]

last_more : (wave : Waveform) (t time v most : ℕ) (ahead : List (ℕ × ℕ)) → last_time t ahead < most → time < most → last_time t (one_more wave time v ahead) < most
last_more wave t time v most ahead last less =
    elim (cases_Bool (last_from wave.initial wave.changes == v)) as (λ _. last_time t (one_more wave time v ahead) < most) [
      | inl same ↦ rw same last
      | inr other ↦ let is = tracks.last_time-push t time v ahead in rw other (omega (arith, is, less))
    ]

-- they give the levels of the wave with one more change
levels_more : (wave : Waveform) (present t time v u : ℕ) (ahead : List (ℕ × ℕ)) → IsWaveform wave → last_time 0 wave.changes < time → AreRising t ahead → last_time t ahead < time
    → level_from present ahead u ≡ level_of wave u → level_from present (one_more wave time v ahead) u ≡ level_of (held_from wave time v) u
levels_more wave present t time v u ahead form over rising last is =
    elim (cases_Bool (last_from wave.initial wave.changes == v)) as (λ _. level_from present (one_more wave time v ahead) u ≡ level_of (held_from wave time v) u) [
      | inl same ↦ rw same is
      | inr other ↦ elim (cases_lt u time) as (λ _. level_from present (one_more wave time v ahead) u ≡ level_of (held_from wave time v) u) [
        | inl less ↦ let before = level_of-held_before wave time v u less in rw other (tracks.level_from-before_push present u time v ahead less ∙ is) ∙ sym before
        | inr more ↦ let after = level_of-held_after wave time v u form over more in rw other (tracks.level_from-push present t u time v ahead rising last more) ∙ sym after
      ]
    ]

-- from its delay after a time that its driver hasn't delivered on, all levels of a wire may still be given
pub open_at : (n : Circuit) (known : ℕ → ℕ → ℕ) (m p t w : ℕ) (r : ModuleRecord) (track : Progress) → module_at n m ≡ Some r → driver n w ≡ Port (record { 0 = m }) p → known m p ≡ t → IsOnTrack n known t w track
    → (track.next ≤ t + delay_of r p) × (last_time t track.ahead < t + delay_of r p)
open_at n known m p t w r track at drives was on =
    let here : IsOpen n known (Port (record { 0 = m }) p) t track = subst (λ k. IsOpen n known k t track) drives on.free in
    let next : track.next ≤ known m p + delay_of r p = subst (λ slot. track.next ≤ known m p + delay_in slot p) at here.0 in
    let last : last_time t track.ahead < known m p + delay_of r p = subst (λ slot. last_time t track.ahead < known m p + delay_in slot p) at here.1 in
    (omega (arith, next, was), omega (arith, last, was))

-- what is expected at a later time
abbrev pub delivering : Circuit → ℕ → ℕ → ℕ → ModuleRecord → Progress → Progress
delivering n m p t r track = expecting (t + delay_of r p) (output_of (state n m t) p) track

-- a port of a module that has answered gives its wire one more level
pub on_track_delivered : (n : Circuit) → IsCircuit n → (known new : ℕ → ℕ → ℕ) (t m p w : ℕ) (r : ModuleRecord) (track : Progress) → module_at n m ≡ Some r → driver n w ≡ Port (record { 0 = m }) p
    → known m p ≡ t → new m p ≡ t + 1 → t + delay_of r p < n.horizon → IsOnTrack n known t w track → IsOnTrack n new t w (delivering n m p t r track)
on_track_delivered n ok known new t m p w r track at drives was is low on =
    let d = delay_of r p in
    let v = output_of (state n m t) p in
    let positive : 0 < d = late n r p (ok.modules_ok m r at) in
    let opened : (track.next ≤ t + d) × (last_time t track.ahead < t + d) = open_at n known m p t w r track at drives was on in
    let over : last_time 0 track.wave.changes < t + d = omega (arith, on.over, opened.0) in
    let value : level n w (t + d) ≡ v = port_level_is n ok m p w t r at drives in
    let reach : (u : ℕ) → u < t + d → IsReached n known (driver n w) u
    = λ u less. subst (λ k. IsReached n known k u) (sym drives) (subst (λ slot. u < known m p + delay_in slot p) (sym at) (omega (arith, less, was))) in
    let reached : (u : ℕ) → IsReached n new (driver n w) u → u < t + 1 + d
    = λ u h. let port : IsReached n new (Port (record { 0 = m }) p) u = subst (λ k. IsReached n new k u) drives h in
    let in_slot : u < new m p + d = subst (λ slot. u < new m p + delay_in slot p) at port in omega (arith, in_slot, is) in
    record {
      form = form-held track.wave (t + d) v on.form over;
      over = last_time-held track.wave (t + d) v (t + d + 1) (omega (arith, over)) (omega arith);
      within = last_time-held track.wave (t + d) v n.horizon on.within low;
      levels = λ u below h. elim (cases_lt u (t + d)) as (λ _. level_of (held_from track.wave (t + d) v) u ≡ level n w u) [
        | inl less ↦ level_of-held_before track.wave (t + d) v u less ∙ on.levels u below (reach u less)
        | inr more ↦
            let e : t + d ≡ u = omega (arith, reached u h, more) in
            level_of-held_after track.wave (t + d) v u on.form over more ∙ sym value ∙ ap (level n w) e
      ];
      present = on.present;
      quiet = on.quiet;
      rising = rising_more track.wave t (t + d) v track.ahead on.rising opened.1;
      ahead = λ u le. levels_more track.wave track.present t (t + d) v u track.ahead on.form over on.rising opened.1 (on.ahead u le);
      free = subst (λ k. IsOpen n new k t (delivering n m p t r track)) (sym drives) (
        subst (λ slot. t + d + 1 ≤ new m p + delay_in slot p) (sym at) (omega (arith, is)),
        subst (λ slot. last_time t (one_more track.wave (t + d) v track.ahead) < new m p + delay_in slot p) (sym at)
            (last_more track.wave t (t + d) v (new m p + d) track.ahead (omega (arith, opened.1, is)) (omega (arith, is))),
      );
    }
