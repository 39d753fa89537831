-- Two numberings of one simulation are the same.
use Rattle.std.proofs.Common.{◌≡◌, ℕ, zero, suc, ◌+◌, ◌*◌, ◌<◌, ◌≤◌, Bool, true, false, cond, nat_lt, List, [], ◌∷◌, Option, Some, None, is_some, All, length, map, slice_index_or, refl, ap, sym, subst, ◌∙◌, arith, inl, inr}
use Rattle.std.specs.Prelude.{◌&&◌, ◌||◌, ◌==◌}
use Rattle.std.proofs.lemmas.Bool.{cases_Bool, cases_lt, eqb-true, eq-eqb, le-ltb, and_right}
use Rattle.std.proofs.lemmas.Option.{none-some}
use Rattle.mp_netlist.specs.Circuit.{Circuit, module_at}
use Rattle.mp_records.specs.declared.module_record.ModuleRecord.{ModuleRecord}
use Rattle.mp_modules.specs.automata.Codes.{bit}
use Rattle.mp_kernel.specs.declared.events.output_port.OutputPort.{OutputPort}
use Rattle.mp_kernel.specs.declared.events.fanout_entry.FanoutEntry.{FanoutEntry}
use Rattle.mp_kernel.specs.events.Ports.{weight, HasPorts}
use Rattle.mp_kernel.specs.events.Firing.{copy_at}
use Rattle.mp_simulation.specs.bits.Copies.{AreChained, later_by}
use Rattle.mp_kernel.specs.declared.datapath.level_change.LevelChange.{LevelChange}
use Rattle.mp_kernel.specs.datapath.DataFiring.{place_at}
use Rattle.mp_simulation.specs.declared.units.netlist_simulation.NetlistSimulation.{NetlistSimulation}
use Rattle.mp_simulation.specs.units.DataLevels.{is_data, is_bit_wire, late_level, IsLevelAt}
use Rattle.mp_simulation.specs.units.DataWheels.{data_slot}
use Rattle.mp_simulation.specs.units.DataSeats.{number_at}
use Rattle.mp_active.specs.excerpt.Numberings.{Numbering, HasNumbers, ReadsNumbers, is_bit_number, place_of}
use Rattle.mp_active.specs.excerpt.Levels.{shown_late, shown_change, shown_ahead, IsCopyShown, IsChangeShown}
use Rattle.mp_active.specs.excerpt.Showing.{IsSeatShown, IsDataSeatShown, Shows}
use Rattle.mp_active.specs.excerpt.Renumbering.{NumbersStay, UnitsShow}
use Rattle.mp_active.proofs.lemmas.excerpt.KeptLemmas.{numbers_kept, bit_wire_below}
use Rattle.mp_active.proofs.lemmas.excerpt.CopyLemmas.{next_inside, next_below, none_before}
use Rattle.mp_active.proofs.lemmas.excerpt.ShownLemmas.{simulations_show}

-- ---- inputs are told by the bits of events

doubled_if : (b : Bool) (u : ℕ) → cond b (u * 2) 0 ≡ 2 * cond b u 0
doubled_if true u = omega arith
doubled_if false u = refl

doubled : (u : ℕ) (zs : List ℕ) (w : ℕ) → weight (u * 2) zs w ≡ 2 * weight u zs w
doubled u [] w = refl
doubled u (z ∷ zs) w = let here = doubled_if (z == w) u in let rest = doubled (u * 2) zs w in omega (arith, here, rest)

first_bit : (b : Bool) (more other : ℕ) → 1 + 2 * more ≡ cond b 1 0 + 2 * other → b ≡ true
first_bit true more other e = refl
first_bit false more other e = let no : ⊥ = omega (arith, e) in absurd no

own_bit : (x : ℕ) → ◌≡◌ {A = ℕ} (cond (x == x) 1 0) 1
own_bit x = ap (λ b. cond b 1 0) (eq-eqb x x refl)

weights_tell : (xs ys : List ℕ) → ((w : ℕ) → weight 1 xs w ≡ weight 1 ys w) → xs ≡ ys
weights_tell [] [] same = refl
weights_tell [] (y ∷ ys) same = let at = same y in let own = own_bit y in let no : ⊥ = omega (arith, at, own) in absurd no
weights_tell (x ∷ xs) [] same = let at = same x in let own = own_bit x in let no : ⊥ = omega (arith, at, own) in absurd no
weights_tell (x ∷ xs) (y ∷ ys) same = ap (λ k. k ∷ xs) first ∙ ap (λ (zs : List ℕ). y ∷ zs) (weights_tell xs ys rest)
  where
    one : (w : ℕ) → cond (x == w) 1 0 + 2 * weight 1 xs w ≡ cond (y == w) 1 0 + 2 * weight 1 ys w
    one w = let at = same w in let a = doubled 1 xs w in let b = doubled 1 ys w in omega (arith, at, a, b)

    first : x ≡ y
    first =
        let at = one x in
        let own = own_bit x in
        sym (eqb-true y x (first_bit (y == x) (weight 1 xs x) (weight 1 ys x) (omega (arith, at, own))))

    rest : (w : ℕ) → weight 1 xs w ≡ weight 1 ys w
    rest w = let at = one w in let here = ap {B = ℕ} (λ k. cond (k == w) 1 0) first in omega (arith, at, here)

ports_tell : (rows : List (List FanoutEntry)) (q : ℕ) (xs ys : List ℕ) → HasPorts rows q xs → HasPorts rows q ys → xs ≡ ys
ports_tell rows q xs ys one other = weights_tell xs ys (λ w. sym (one.each w) ∙ other.each w)

-- ---- what a number stands after

before_by : (a b : ℕ → Option ℕ) (sa sb : ℕ → ℕ × ℕ) (next : List OutputPort) → AreChained sa a next → AreChained sb b next → (x : ℕ) (o p : Option ℕ) → a x ≡ o → b x ≡ p → a x ≡ b x
before_by a b sa sb next one other x None None is too = is ∙ sym too
before_by a b sa sb next one other x None (Some y) is too = absurd (none-some y (sym is ∙ one.last y x (other.first x y too)))
before_by a b sa sb next one other x (Some y) p is too = is ∙ sym (other.last y x (one.first x y is))

before_same : (a b : ℕ → Option ℕ) (sa sb : ℕ → ℕ × ℕ) (next : List OutputPort) → AreChained sa a next → AreChained sb b next → (x : ℕ) → a x ≡ b x
before_same a b sa sb next one other x = before_by a b sa sb next one other x (a x) (b x) refl refl

pair_same : (p q : ℕ × ℕ) → p.0 ≡ q.0 → p.1 ≡ q.1 → p ≡ q
pair_same p q first second = ap (λ k. let v : ℕ × ℕ = (k, p.1) in v) first ∙ ap (λ k. let v : ℕ × ℕ = (q.0, k) in v) second

chain_same : (sa sb : ℕ → ℕ × ℕ) (before : ℕ → Option ℕ) (other : ℕ → Option ℕ) (next : List OutputPort) → AreChained sa before next → AreChained sb other next → (x y : ℕ) → before x ≡ Some y → sa y ≡ sb y → sa x ≡ sb x
chain_same sa sb before other next one two x y after same =
    let too : other x ≡ Some y = two.last y x (one.first x y after) in
    pair_same (sa x) (sb x)
    (one.wire x y after ∙ ap (λ (v : ℕ × ℕ). v.0) same ∙ sym (two.wire x y too))
    (one.delay x y after ∙ ap (λ (v : ℕ × ℕ). v.1 + (copy_at next y).delay) same ∙ sym (two.delay x y too))

or_none : (b : Bool) → (b || false) ≡ true → b ≡ true
or_none true is = refl
or_none false is = is

map_same : (f g : ℕ → ℕ × ℕ) (xs : List ℕ) → ((k d : ℕ) → k < length xs → f (slice_index_or xs k d) ≡ g (slice_index_or xs k d)) → map f xs ≡ map g xs
map_same f g [] same = refl
map_same f g (x ∷ xs) same =
    ap (λ (v : ℕ × ℕ). v ∷ map f xs) (same 0 0 (omega arith)) ∙ ap (λ (vs : List (ℕ × ℕ)). g x ∷ vs) (map_same f g xs (λ k d within. same (suc k) d (omega (arith, within))))

-- ---- two numberings of one simulation
module _ (n : Circuit) (a b : Numbering) (s : NetlistSimulation) (one : HasNumbers n a s) (other : HasNumbers n b s) (long : length s.bits.copies.next.items ≡ length s.bits.simulator.fanout)
    (data_long : length s.wires.next.items ≡ length s.bits.simulator.fanout) (data_one : AreChained a.source a.data_before s.wires.next.items) (data_other : AreChained b.source b.data_before s.wires.next.items) where
  abbrev numbers : ℕ
  numbers = length s.bits.simulator.fanout

  inputs_same : (q : ℕ) → a.inputs q ≡ b.inputs q
  inputs_same q = ports_tell s.bits.simulator.fanout q (a.inputs q) (b.inputs q) (one.ports q) (other.ports q)

  bit_before : (x : ℕ) → a.before x ≡ b.before x
  bit_before = before_same a.before b.before a.source b.source s.bits.copies.next.items one.chained other.chained

  data_before : (x : ℕ) → a.data_before x ≡ b.data_before x
  data_before = before_same a.data_before b.data_before a.source b.source s.wires.next.items data_one data_other

  -- the numbers that a copy comes from have less delay
  abbrev AreSameBelow : ℕ → Type 0
  AreSameBelow fuel = (y : ℕ) → (a.source y).1 < fuel → y < numbers → a.source y ≡ b.source y

  copy_of : (fuel x y : ℕ) → (a.source x).1 < suc fuel → AreSameBelow fuel → (before : ℕ → Option ℕ) (after : ℕ → Option ℕ) (next : List OutputPort) → AreChained a.source before next → AreChained b.source after next →
      length next ≡ numbers → before x ≡ Some y → a.source x ≡ b.source x
  copy_of fuel x y few same before after next chain too size stands =
      let delay = chain.delay x y stands in
      let some = chain.some x y stands in
      let within = next_inside next y x (chain.first x y stands) in
      chain_same a.source b.source before after next chain too x y stands (same y (omega (arith, few, delay, some)) (omega (arith, within, size)))

  with_data : (fuel x : ℕ) → (a.source x).1 < suc fuel → AreSameBelow fuel → x < numbers → is_data n (a.source x).0 ≡ true → (o : Option ℕ) → a.data_before x ≡ o → a.source x ≡ b.source x
  with_data fuel x few same low wide (Some y) stands = copy_of fuel x y few same a.data_before b.data_before s.wires.next.items data_one data_other data_long stands
  with_data fuel x few same low wide None none =
      let own = one.with_data x low wide none in
      own ∙ sym (other.data_wires x (subst (λ (v : ℕ × ℕ). is_data n v.0 ≡ true) own wide)).0

  of_bits : (fuel x : ℕ) → (a.source x).1 < suc fuel → AreSameBelow fuel → x < numbers → (o : Option ℕ) → a.before x ≡ o → a.source x ≡ b.source x
  of_bits fuel x few same low (Some y) stands = copy_of fuel x y few same a.before b.before s.bits.copies.next.items one.chained other.chained long stands
  of_bits fuel x few same low None none = elim (cases_Bool (is_data n (a.source x).0)) as (λ _. a.source x ≡ b.source x) [
    | inl wide ↦ with_data fuel x few same low wide (a.data_before x) refl
    | inr narrow ↦
        let is : is_bit_wire n x ≡ true = or_none (is_bit_wire n x) (sym (ap (λ (o : Option ℕ). is_bit_wire n x || is_some o) none) ∙ one.bits x low narrow) in
        one.wires x is ∙ sym (other.wires x is)
  ]

  source_by : (fuel : ℕ) → AreSameBelow fuel
  source_by zero x few low = let never : ⊥ = omega (arith, few) in absurd never
  source_by (suc fuel) x few low = of_bits fuel x few (source_by fuel) low (a.before x) refl

  source_same : (x : ℕ) → x < numbers → a.source x ≡ b.source x
  source_same x low = source_by (suc (a.source x).1) x (omega arith) low

  reads_same : (m : ℕ) (r : ModuleRecord) → ((k d : ℕ) → k < length (a.inputs m) → slice_index_or (a.inputs m) k d < numbers) → ReadsNumbers b m r → ReadsNumbers a m r
  reads_same m r low reads =
      map_same a.source b.source (a.inputs m) (λ k d within. source_same (slice_index_or (a.inputs m) k d) (low k d within)) ∙ ap (map b.source) (inputs_same m) ∙ reads

  bit_number_same : (x : ℕ) → is_bit_number n b x ≡ is_bit_number n a x
  bit_number_same x = ap (λ (o : Option ℕ). is_bit_wire n x || is_some o) (sym (bit_before x))

  module _ (active on : ℕ → Bool) (t : ℕ) (shown : Shows n active on b t s) where
    -- a number of width 1 is one of those that there are
    bit_low : (x : ℕ) → is_bit_number n a x ≡ true → x < numbers
    bit_low x is = elim (cases_lt x numbers) as (λ _. x < numbers) [
      | inl low ↦ low
      | inr past ↦ by (a.before x) refl past
    ]
      where
        by : (o : Option ℕ) → a.before x ≡ o → numbers ≤ x → x < numbers
        by (Some y) after past = next_below s.bits.copies.next.items numbers y x shown.bits.sound.copies.below (one.chained.first x y after)
        by None none past =
            let wire : is_bit_wire n x ≡ true = or_none (is_bit_wire n x) (sym (ap (λ (o : Option ℕ). is_bit_wire n x || is_some o) none) ∙ is) in
            let below = bit_wire_below n x wire in
            let few = shown.bits.sound.simulator.rows in
            let same = shown.bits.wires in
            omega (arith, below, few, same)

    seat_same : (m : ℕ) (r : ModuleRecord) → module_at n m ≡ Some r → place_of n active m ≡ Some m → IsSeatShown n a t m r s.bits.simulator
    seat_same m r at place =
        let seat = shown.bits.seats m r at place in
        let all : All (λ x. is_bit_number n a x ≡ true) (a.inputs m) =
        subst (λ (xs : List ℕ). All (λ x. is_bit_number n a x ≡ true) xs) (sym (inputs_same m))
        (λ k d within. sym (bit_number_same (slice_index_or (b.inputs m) k d)) ∙ seat.numbers k d within) in
        record {
          reads = reads_same m r (λ k d within. bit_low (slice_index_or (a.inputs m) k d) (all k d within)) seat.reads;
          numbers = all;
          drives = seat.drives;
          word = seat.word;
          levels = seat.levels;
        }

    copy_same : (x k : ℕ) → k < length s.bits.copies.wheel → IsCopyShown n on a t s.bits.copies x k
    copy_same x k within = elim (cases_lt x numbers) as (λ _. IsCopyShown n on a t s.bits.copies x k) [
      | inl low ↦
          shown.bits.copies x k within
          ∙ ap (λ (v : ℕ × ℕ). bit (shown_change n on v (t + 1 + k) && nat_lt k (later_by s.bits.copies.next.items (b.before x)))) (sym (source_same x low))
          ∙ ap (λ (o : Option ℕ). bit (shown_change n on (a.source x) (t + 1 + k) && nat_lt k (later_by s.bits.copies.next.items o))) (sym (bit_before x))
      | inr past ↦
          let none : later_by s.bits.copies.next.items (a.before x) ≡ 0 =
          none_before a.source a.before s.bits.copies.next.items numbers x (a.before x) one.chained shown.bits.sound.copies.below past refl in
          let never : nat_lt k (later_by s.bits.copies.next.items (a.before x)) ≡ false = ap (nat_lt k) none ∙ le-ltb k 0 (omega arith) in
          let nor : nat_lt k (later_by s.bits.copies.next.items (b.before x)) ≡ false = ap (λ (o : Option ℕ). nat_lt k (later_by s.bits.copies.next.items o)) (sym (bit_before x)) ∙ never in
          shown.bits.copies x k within
          ∙ ap (λ c. bit (shown_change n on (b.source x) (t + 1 + k) && c)) nor
          ∙ ap bit (and_right (shown_change n on (b.source x) (t + 1 + k)) false refl ∙ sym (and_right (shown_change n on (a.source x) (t + 1 + k)) false refl))
          ∙ ap (λ c. bit (shown_change n on (a.source x) (t + 1 + k) && c)) (sym never)
    ]

    change_same : (x k : ℕ) → x < numbers → k < length s.wires.wheel → IsChangeShown n active on a s.wires.next.items t s.wires.wheel x k
    change_same x k low within =
        shown.wires.changes x k low within
        ∙ ap (λ (v : ℕ × ℕ). bit ((shown_change n on v (t + 1 + k) && is_data n v.0) && nat_lt k (shown_ahead n active s.wires.next.items x (b.data_before x)))) (sym (source_same x low))
        ∙ ap (λ (o : Option ℕ). bit ((shown_change n on (a.source x) (t + 1 + k) && is_data n (a.source x).0) && nat_lt k (shown_ahead n active s.wires.next.items x o))) (sym (data_before x))

    change_level_same : (k : ℕ) → All (IsLevelAt n a.source (t + 1 + k)) (data_slot s.wires.wheel k)
    change_level_same k j e inside =
        let c : LevelChange = slice_index_or (data_slot s.wires.wheel k) j e in
        shown.wires.change_levels k j e inside ∙ ap (λ (v : ℕ × ℕ). late_level n v (t + 1 + k)) (sym (source_same c.number (shown.wires.numbered k j e inside)))

    data_seat_same : (q k : ℕ) → place_at s.modules.places.items q ≡ Some k → IsDataSeatShown n active a numbers (length s.bits.simulator.wheel) (length s.wires.wheel) t q k s.modules
    data_seat_same q k at =
        let is = shown.modules.seats q k at in
        let seat = is.seat in
        let low : All (λ x. x < numbers) (a.inputs q) = subst (λ (xs : List ℕ). All (λ x. x < numbers) xs) (sym (inputs_same q)) seat.low in
        record {
          awake = is.awake;
          seat = record {
            record_of = seat.record_of;
            stands = seat.stands;
            inactive = seat.inactive;
            does = seat.does;
            outputs = seat.outputs;
            sources = reads_same q seat.record_of low seat.sources;
            reads = λ p. seat.reads p ∙ ap (λ (xs : List ℕ). number_at xs p) (sym (inputs_same q));
            low = low;
            bits = seat.bits;
            level = seat.level;
            first = seat.first;
            fit = seat.fit;
          };
        }

    renumbered : Shows n active on a t s
    renumbered = record {
      numbers = one;
      bits = record {
        sound = shown.bits.sound;
        places = shown.bits.places;
        wires = shown.bits.wires;
        idle = shown.bits.idle;
        seats = seat_same;
        asleep = shown.bits.asleep;
        traces = shown.bits.traces;
        room = shown.bits.room;
        events = shown.bits.events;
        copies = copy_same;
      };
      wires = record {
        places = shown.wires.places;
        next = shown.wires.next;
        chained = data_one;
        below = shown.wires.below;
        within = shown.wires.within;
        some = shown.wires.some;
        numbered = shown.wires.numbered;
        changes = change_same;
        change_levels = change_level_same;
        levels = λ x low. shown.wires.levels x low ∙ ap (λ (v : ℕ × ℕ). shown_late n on v t) (sym (source_same x low));
        wires = shown.wires.wires;
        waves = shown.wires.waves;
        over = shown.wires.over;
      };
      modules = record {
        long = shown.modules.long;
        placed = shown.modules.placed;
        fit = shown.modules.fit;
        seats = data_seat_same;
        whole = shown.modules.whole;
      };
    }

pub numbers_stay : NumbersStay
numbers_stay n ok active on numbering other t u s new before shown kept =
    renumbered n numbering other new (numbers_kept n numbering s new kept.rows kept.next before.numbers) shown.numbers shown.bits.sound.copies.next shown.wires.next
    (subst (λ (xs : List OutputPort). AreChained numbering.source numbering.data_before xs) (sym kept.data_next) before.wires.chained) shown.wires.chained active on u shown

pub units_show : UnitsShow
units_show n ok active on ports numbering t u s new low before is kept =
    let found = simulations_show n ok active on ports u new low is in
    numbers_stay n ok active on numbering found.0 t u s new before found.1 kept
