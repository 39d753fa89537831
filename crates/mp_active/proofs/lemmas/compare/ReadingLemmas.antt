-- Inputs of modules are noted one by one.
use Rattle.std.proofs.Common.{◌≡◌, ℕ, ◌+◌, ◌^◌, ◌<◌, ◌≤◌, Bool, true, false, not, cond, ◌&&◌, ◌||◌, List, [], ◌∷◌, ◌++◌, length, get_or, take, refl, sym, ap, ◌∙◌, arith, add-one, subst}
use Rattle.std.specs.Prelude.{Option, Some, None, is_some}
use Rattle.std.proofs.Math.Seq.{take-suc}
use Rattle.std.proofs.lemmas.List.{length-take-le}
use Rattle.std.proofs.lemmas.List.Sums.{sum_by-append, sum_by-cons, count_by-le-length}
use Rattle.std.proofs.lemmas.List.Folds.{list_any-append}
use Rattle.mp_modules.specs.automata.Codes.{bit}
use Rattle.mp_records.specs.declared.module_record.ModuleRecord.{ModuleRecord}
use Rattle.mp_netlist.specs.Circuit.{Circuit, module_at}
use Rattle.mp_active.specs.declared.compare.numbers.Numbers.{Numbers}
use Rattle.mp_active.specs.declared.compare.wire_source.WireSource.{WireSource}
use Rattle.mp_active.specs.declared.compare.comparison.Comparison.{Comparison}
use Rattle.mp_active.specs.compare.Comparing.{wire_of, source_at, asleep_at}
use Rattle.mp_active.specs.compare.Reading.{ports_of, is_at, is_on_wire, reads, reads_wire, asleep_below, active_below, turned_on_if, HasRead}

pub read_none : (c : Comparison) → HasRead (λ x. 0) (λ w. false) c c
read_none c = record { kept = refl; long = refl; places = refl; sources = λ w low. refl; asleep = λ x. omega arith }

-- the same in other words
pub read_as : (f g : ℕ → ℕ) (p q : ℕ → Bool) (was is : Comparison) → ((x : ℕ) → f x ≡ g x) → ((w : ℕ) → p w ≡ q w) → HasRead f p was is → HasRead g q was is
read_as f g p q was is same alike read = record {
  kept = read.kept;
  long = read.long;
  places = read.places;
  sources = λ w low. read.sources w low ∙ ap (λ b. turned_on_if b (source_at was w)) (alike w);
  asleep = λ x. read.asleep x ∙ ap (λ k. k + asleep_at was x) (same x);
}

twice : (p q : Bool) (source : WireSource) → turned_on_if q (turned_on_if p source) ≡ turned_on_if (q || p) source
twice p true source = refl
twice p false source = refl

-- some are noted, and then more
pub read_join : (f g : ℕ → ℕ) (p q : ℕ → Bool) (was mid is : Comparison) → HasRead f p was mid → HasRead g q mid is → HasRead (λ x. g x + f x) (λ w. q w || p w) was is
read_join f g p q was mid is first second = record {
  kept = second.kept ∙ ap (λ (c : Comparison). record c { sources = is.sources; asleep = is.asleep }) first.kept;
  long = second.long ∙ first.long;
  places = second.places ∙ first.places;
  sources = λ w low. second.sources w (let l = first.long in omega arith) ∙ ap (turned_on_if (q w)) (first.sources w low) ∙ twice (p w) (q w) (source_at was w);
  asleep = λ x. let a = first.asleep x in let b = second.asleep x in omega arith;
}

pub same_numbers : (f : ℕ → ℕ) (p : ℕ → Bool) (was is : Comparison) → HasRead f p was is → is.numbers ≡ was.numbers
same_numbers f p was is read = ap (λ (c : Comparison). c.numbers) read.kept

-- one input more of a module
pub input_more : (active : Bool) (inputs : List (Option ℕ)) (i : ℕ) (d : Option ℕ) (was mid is : Comparison) → i < length inputs →
    HasRead (λ x. cond active 0 (reads (take i inputs) x)) (λ w. active && reads_wire was.numbers (take i inputs) w) was mid →
    HasRead (λ x. cond active 0 (bit (is_at x (get_or inputs i d)))) (λ w. active && is_on_wire mid.numbers w (get_or inputs i d)) mid is →
    HasRead (λ x. cond active 0 (reads (take (i + 1) inputs) x)) (λ w. active && reads_wire was.numbers (take (i + 1) inputs) w) was is
input_more active inputs i d was mid is low first second =
    subst (λ (xs : List (Option ℕ)). HasRead (λ x. cond active 0 (reads xs x)) (λ w. active && reads_wire was.numbers xs w) was is) (sym (take-suc inputs i d low) ∙ ap (λ j. take j inputs) (sym (add-one i)))
    (read_as (λ x. cond active 0 (bit (is_at x y)) + cond active 0 (reads xs x)) (λ x. cond active 0 (reads (xs ++ y ∷ []) x))
    (λ w. (active && is_on_wire mid.numbers w y) || (active && reads_wire was.numbers xs w)) (λ w. active && reads_wire was.numbers (xs ++ y ∷ []) w) was is
    (λ x. counts active (bit (is_at x y)) (reads xs x) (reads (xs ++ y ∷ []) x) (let a = sum_by-append (λ port. bit (is_at x port)) xs (y ∷ []) in let b = sum_by-cons (λ port. bit (is_at x port)) y [] in omega arith))
    (λ w. ap (λ (numbers : Numbers). (active && is_on_wire numbers w y) || (active && reads_wire was.numbers xs w)) (same_numbers _ _ was mid first)
    ∙ tells active (is_on_wire was.numbers w y) (reads_wire was.numbers xs w) ∙ ap (λ b. active && b) (sym (list_any-append (is_on_wire was.numbers w) xs (y ∷ []))))
    (read_join _ _ _ _ was mid is first second))
  where
    y : Option ℕ
    y = get_or inputs i d

    xs : List (Option ℕ)
    xs = take i inputs

    counts : (active : Bool) (one some all : ℕ) → all ≡ some + one → cond active 0 one + cond active 0 some ≡ cond active 0 all
    counts true one some all e = omega arith
    counts false one some all e = omega arith

    tells : (active one some : Bool) → ((active && one) || (active && some)) ≡ (active && (some || (one || false)))
    tells false one some = refl
    tells true true true = refl
    tells true true false = refl
    tells true false true = refl
    tells true false false = refl

-- no more inputs read a number than there are
pub reads_few : (active : Bool) (ports : List (Option ℕ)) (x : ℕ) → cond active 0 (reads ports x) ≤ length ports
reads_few true ports x = omega arith
reads_few false ports x = count_by-le-length (is_at x) ports

-- a module that doesn't stand reads nothing
pub module_absent : (n : Circuit) (active : Bool) (m : ℕ) (inputs : List (List (Option ℕ))) (c : Comparison) → module_at n m ≡ None →
    HasRead (λ x. cond (is_some (module_at n m) && not active) (reads (ports_of inputs m) x) 0) (λ w. (is_some (module_at n m) && active) && reads_wire c.numbers (ports_of inputs m) w) c c
module_absent n active m inputs c none =
    subst (λ (slot : Option ModuleRecord). HasRead (λ x. cond (is_some slot && not active) (reads (ports_of inputs m) x) 0) (λ w. (is_some slot && active) && reads_wire c.numbers (ports_of inputs m) w) c c) (sym none)
    (read_none c)

-- all inputs of one that stands
pub module_noted : (n : Circuit) (active : Bool) (m : ℕ) (inputs : List (List (Option ℕ))) (r : ModuleRecord) (ports : List (Option ℕ)) (was is : Comparison) → module_at n m ≡ Some r → ports ≡ ports_of inputs m →
    HasRead (λ x. cond active 0 (reads ports x)) (λ w. active && reads_wire was.numbers ports w) was is →
    HasRead (λ x. cond (is_some (module_at n m) && not active) (reads (ports_of inputs m) x) 0) (λ w. (is_some (module_at n m) && active) && reads_wire was.numbers (ports_of inputs m) w) was is
module_noted n active m inputs r ports was is stands at read =
    subst (λ (slot : Option ModuleRecord). HasRead (λ x. cond (is_some slot && not active) (reads (ports_of inputs m) x) 0) (λ w. (is_some slot && active) && reads_wire was.numbers (ports_of inputs m) w) was is) (sym stands)
    (by active (subst (λ (ps : List (Option ℕ)). HasRead (λ x. cond active 0 (reads ps x)) (λ w. active && reads_wire was.numbers ps w) was is) at read))
  where
    by : (b : Bool) → HasRead (λ x. cond b 0 (reads (ports_of inputs m) x)) (λ w. b && reads_wire was.numbers (ports_of inputs m) w) was is →
        HasRead (λ x. cond (true && not b) (reads (ports_of inputs m) x) 0) (λ w. (true && b) && reads_wire was.numbers (ports_of inputs m) w) was is
    by true all = all
    by false all = all

-- one module more
pub module_more : (n : Circuit) (active : ℕ → Bool) (m : ℕ) (inputs : List (List (Option ℕ))) (is_active : Bool) (was mid is : Comparison) → is_active ≡ active m →
    HasRead (asleep_below n active inputs m) (active_below n active inputs was.numbers m) was mid →
    HasRead (λ x. cond (is_some (module_at n m) && not is_active) (reads (ports_of inputs m) x) 0) (λ w. (is_some (module_at n m) && is_active) && reads_wire mid.numbers (ports_of inputs m) w) mid is →
    HasRead (asleep_below n active inputs (m + 1)) (active_below n active inputs was.numbers (m + 1)) was is
module_more n active m inputs is_active was mid is same first second =
    subst (λ k. HasRead (asleep_below n active inputs k) (active_below n active inputs was.numbers k) was is) (sym (add-one m))
    (read_join (asleep_below n active inputs m) (λ x. cond (is_some (module_at n m) && not (active m)) (reads (ports_of inputs m) x) 0)
    (active_below n active inputs was.numbers m) (λ w. (is_some (module_at n m) && active m) && reads_wire was.numbers (ports_of inputs m) w) was mid is first
    (subst (λ (numbers : Numbers). HasRead (λ x. cond (is_some (module_at n m) && not (active m)) (reads (ports_of inputs m) x) 0) (λ w. (is_some (module_at n m) && active m) && reads_wire numbers (ports_of inputs m) w) mid is)
    (same_numbers _ _ was mid first)
    (subst (λ b. HasRead (λ x. cond (is_some (module_at n m) && not b) (reads (ports_of inputs m) x) 0) (λ w. (is_some (module_at n m) && b) && reads_wire mid.numbers (ports_of inputs m) w) mid is) same second)))

-- no module has more than four inputs
pub few_more : (active : Bool) (ports : List (Option ℕ)) (p : ℕ → Bool) (was is : Comparison) (x : ℕ) → length ports ≤ 4 → HasRead (λ y. cond active 0 (reads ports y)) p was is → asleep_at is x ≤ asleep_at was x + 4
few_more active ports p was is x most read =
    let now = read.asleep x in
    let few = reads_few active ports x in
    omega arith

-- there are few enough readers to count one more
pub input_room : (active : Bool) (inputs : List (Option ℕ)) (i : ℕ) (p : ℕ → Bool) (was mid : Comparison) (x : ℕ) → i < length inputs →
    HasRead (λ y. cond active 0 (reads (take i inputs) y)) p was mid → asleep_at was x + length inputs < 2 ^ 32 → asleep_at mid x + 1 < 2 ^ 32
input_room active inputs i p was mid x low read room =
    let now = read.asleep x in
    let few = reads_few active (take i inputs) x in
    let long = length-take-le i inputs (omega arith) in
    omega arith

pub read_places : (f : ℕ → ℕ) (p : ℕ → Bool) (was is : Comparison) → HasRead f p was is → length was.asleep.items ≡ length was.numbers.wires.items → length is.asleep.items ≡ length is.numbers.wires.items
read_places f p was is read places = read.places ∙ places ∙ sym (ap (λ (numbers : Numbers). length numbers.wires.items) (same_numbers f p was is read))

pub read_wires : (f : ℕ → ℕ) (p : ℕ → Bool) (was is : Comparison) → HasRead f p was is → ((x : ℕ) → x < length was.numbers.wires.items → wire_of was.numbers x < length was.sources.items) →
    (x : ℕ) → x < length is.numbers.wires.items → wire_of is.numbers x < length is.sources.items
read_wires f p was is read within =
    subst (λ (numbers : Numbers). (x : ℕ) → x < length numbers.wires.items → wire_of numbers x < length is.sources.items) (sym (same_numbers f p was is read))
    (λ x low. let before = within x low in let long = read.long in omega arith)

-- no input is noted yet
pub no_inputs : (active : Bool) (c : Comparison) → HasRead (λ x. cond active 0 (reads [] x)) (λ w. active && reads_wire c.numbers [] w) c c
no_inputs true c = read_none c
no_inputs false c = read_none c
