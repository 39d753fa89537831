-- Which modules hear of numbers.
use Rattle.std.proofs.Common.{◌≡◌, ◌≢◌, ℕ, zero, suc, ◌+◌, ◌*◌, ◌<◌, Bool, false, cond, List, [], ◌∷◌, ◌++◌, All, Option, Some, None, length, map, take, refl, sym, ap, subst, ◌∙◌, arith, inl, inr, slice_index_or}
use Rattle.std.specs.Prelude.{◌==◌, ◌↔◌}
use Rattle.std.specs.List.{Contains}
use Rattle.std.proofs.lemmas.Bool.{cases_lt, cases_Bool, cases_eq, eq-eqb, eqb-true}
use Rattle.std.proofs.lemmas.Grind.{flat_map-append}
use Rattle.std.proofs.lemmas.List.{take_more}
use Rattle.std.proofs.lemmas.List.Concat.{flat_map-cons}
use Rattle.std.proofs.lemmas.List.Elements.{All-head, All-tail}
use Rattle.std.proofs.lemmas.List.Sums.{sum_by-cons}
use Rattle.mp_records.specs.declared.ids.ModuleId.{ModuleId}
use Rattle.mp_records.specs.declared.module_record.ModuleRecord.{ModuleRecord}
use Rattle.mp_modules.specs.automata.Codes.{bit}
use Rattle.mp_kernel.specs.declared.events.fanout_entry.FanoutEntry.{FanoutEntry}
use Rattle.mp_kernel.specs.events.Adding.{listed, events_for}
use Rattle.mp_kernel.specs.events.Ports.{weight}
use Rattle.mp_kernel.specs.events.Toggling.{row_at, entries_from}
use Rattle.mp_active.specs.excerpt.Numberings.{Numbering}
use Rattle.mp_depend.specs.Hearing.{AreHearing}
use Rattle.mp_depend.proofs.HearingLemmas.{events_append}
use Rattle.mp_redo.specs.rerun.Numbered.{reads_asleep, readers_asleep}

-- ---- what is listed

listed_cons : (x y : ℕ) (ys : List ℕ) → listed x (y ∷ ys) ≡ bit (y == x) + listed x ys
listed_cons x y ys = sum_by-cons (λ d. cond (d == x) 1 0) y ys

own_bit : (x : ℕ) → bit (x == x) ≡ 1
own_bit x = ap bit (eq-eqb x x refl)

-- what holds of each of some numbers holds of one that is listed
pub at_listed : (P : ℕ × ℕ → Type 0) (f : ℕ → ℕ × ℕ) (xs : List ℕ) (x : ℕ) → All P (map f xs) → 0 < listed x xs → P (f x)
at_listed P f [] x all some = let no : ⊥ = omega (arith, some) in absurd no
at_listed P f (y ∷ ys) x all some = elim (cases_eq y x) as (λ _. P (f x)) [
  | inl same ↦ subst (λ z. P (f z)) same (All-head P (f y) (map f ys) all)
  | inr other ↦ at_listed P f ys x (All-tail P (f y) (map f ys) all) (rest other)
]
  where
    rest : y ≢ x → 0 < listed x ys
    rest other = elim (cases_Bool (y == x)) as (λ _. 0 < listed x ys) [
      | inl is ↦ absurd (other (eqb-true y x is))
      | inr not_is ↦ let sum = listed_cons x y ys in let none = ap bit not_is in omega arith
    ]

-- where not all are the same, one that is listed isn't
pub differs_at : (f g : ℕ → ℕ) (xs : List ℕ) → (All (λ x. f x ≡ g x) xs → ⊥) → (x : ℕ) × (0 < listed x xs) × (f x ≢ g x)
differs_at f g [] not_all = absurd (not_all (λ k d low. let no : ⊥ = omega (arith, low) in absurd no))
differs_at f g (y ∷ ys) not_all = elim (cases_eq (f y) (g y)) as (λ _. (x : ℕ) × (0 < listed x (y ∷ ys)) × (f x ≢ g x)) [
  | inl same ↦
      let found = differs_at f g ys (λ all. not_all (both same all)) in
      let sum = listed_cons found.0 y ys in
      (found.0, omega (arith, sum, found.1), found.2)
  | inr other ↦ let sum = listed_cons y y ys in let one = own_bit y in (y, omega (arith, sum, one), other)
]
  where
    both : f y ≡ g y → All (λ x. f x ≡ g x) ys → All (λ x. f x ≡ g x) (y ∷ ys)
    both same all zero d low = same
    both same all (suc k) d low = all k d (omega (arith, low))

-- ---- ports

-- the ports that read a number have bits just where it is one of theirs
pub weight_listed : (unit : ℕ) (ports : List ℕ) (x : ℕ) → 0 < weight unit ports x → 0 < listed x ports
weight_listed unit [] x some = let no : ⊥ = omega (arith, some) in absurd no
weight_listed unit (y ∷ ys) x some = elim (cases_Bool (y == x)) as (λ _. 0 < listed x (y ∷ ys)) [
  | inl is ↦ let sum = listed_cons x y ys in let one = ap bit is in omega arith
  | inr other ↦
      let sum = listed_cons x y ys in
      let none = ap (λ b. cond b unit 0 + weight (unit * 2) ys x) other in
      let rest = weight_listed (unit * 2) ys x (omega (arith, some, none)) in
      omega arith
]

pub listed_weight : (unit : ℕ) (ports : List ℕ) (x : ℕ) → 0 < unit → 0 < listed x ports → 0 < weight unit ports x
listed_weight unit [] x positive some = let no : ⊥ = omega (arith, some) in absurd no
listed_weight unit (y ∷ ys) x positive some = elim (cases_Bool (y == x)) as (λ _. 0 < cond (y == x) unit 0 + weight (unit * 2) ys x) [
  | inl is ↦ let one = ap (λ b. cond b unit 0) is in omega arith
  | inr other ↦
      let sum = listed_cons x y ys in
      let none = ap bit other in
      let rest = listed_weight (unit * 2) ys x (omega arith) (omega arith) in
      omega arith
]

-- ---- entries

-- the entries of one number more
pub entries_more : (rows : List (List FanoutEntry)) (numbers : List ℕ) (i d : ℕ) → i < length numbers →
    entries_from rows (take (i + 1) numbers) ≡ entries_from rows (take i numbers) ++ row_at rows (slice_index_or numbers i d)
entries_more rows numbers i d within =
    ap (λ xs. entries_from rows xs) (take_more numbers i d within)
    ∙ flat_map-append (row_at rows) (take i numbers) (slice_index_or numbers i d ∷ [])
    ∙ ap (λ es. entries_from rows (take i numbers) ++ es) (one (slice_index_or numbers i d))
  where
    nothing : (es : List FanoutEntry) → es ++ [] ≡ es
    nothing [] = refl
    nothing (e ∷ es) = ap (λ fs. e ∷ fs) (nothing es)

    one : (x : ℕ) → entries_from rows (x ∷ []) ≡ row_at rows x
    one x = flat_map-cons (row_at rows) x [] ∙ nothing (row_at rows x)

-- what hears of numbers has an entry at one of them
pub entry_found : (rows : List (List FanoutEntry)) (m : ℕ) (xs : List ℕ) → 0 < events_for m (entries_from rows xs) → (x : ℕ) × (0 < listed x xs) × (0 < events_for m (row_at rows x))
entry_found rows m [] some = let no : ⊥ = omega (arith, some) in absurd no
entry_found rows m (y ∷ ys) some = elim (cases_lt 0 (events_for m (row_at rows y))) as (λ _. (x : ℕ) × (0 < listed x (y ∷ ys)) × (0 < events_for m (row_at rows x))) [
  | inl here ↦ let sum = listed_cons y y ys in let one = own_bit y in (y, omega (arith, sum, one), here)
  | inr none ↦
      let split = ap (events_for m) (flat_map-cons (row_at rows) y ys) ∙ events_append m (row_at rows y) (entries_from rows ys) in
      let found = entry_found rows m ys (omega (arith, some, split, none)) in
      let sum = listed_cons found.0 y ys in
      (found.0, omega (arith, sum, found.1), found.2)
]

pub entry_there : (rows : List (List FanoutEntry)) (m x : ℕ) (xs : List ℕ) → 0 < listed x xs → 0 < events_for m (row_at rows x) → 0 < events_for m (entries_from rows xs)
entry_there rows m x [] some here = let no : ⊥ = omega (arith, some) in absurd no
entry_there rows m x (y ∷ ys) some here =
    let split = ap (events_for m) (flat_map-cons (row_at rows) y ys) ∙ events_append m (row_at rows y) (entries_from rows ys) in
    elim (cases_eq y x) as (λ _. 0 < events_for m (entries_from rows (y ∷ ys))) [
      | inl same ↦ let own = ap (λ z. events_for m (row_at rows z)) same in omega (arith, split, own, here)
      | inr other ↦ let rest = entry_there rows m x ys (later other) here in omega (arith, split, rest)
    ]
  where
    later : y ≢ x → 0 < listed x ys
    later other = elim (cases_Bool (y == x)) as (λ _. 0 < listed x ys) [
      | inl is ↦ absurd (other (eqb-true y x is))
      | inr not_is ↦ let sum = listed_cons x y ys in let none = ap bit not_is in omega arith
    ]

-- ---- counts of readers

-- a module that sleeps and reads a number is counted
pub reader_counted : (active : ℕ → Bool) (numbering : Numbering) (x k i q : ℕ) (r : ModuleRecord) (slots : List (Option ModuleRecord)) → q ≡ k + i → slice_index_or slots i None ≡ Some r → active q ≡ false →
    0 < listed x (numbering.inputs q) → 0 < readers_asleep active numbering x k slots
reader_counted active numbering x k i q r [] number at asleep reads = let no : ⊥ = cc in absurd no
reader_counted active numbering x k zero q r (slot ∷ slots) number at asleep reads =
    let here : q ≡ k = omega (arith, number) in
    let one = ap (reads_asleep active numbering x k) at in
    let sleeps = ap (λ b. cond b 0 (listed x (numbering.inputs k))) (subst (λ m. active m ≡ false) here asleep) in
    let same = ap (λ m. listed x (numbering.inputs m)) here in
    omega (arith, one, sleeps, same, reads)
reader_counted active numbering x k (suc i) q r (slot ∷ slots) number at asleep reads =
    let rest = reader_counted active numbering x (k + 1) i q r slots (omega (arith, number)) at asleep reads in
    omega (arith, rest)

-- and only such
pub record IsReader (active : ℕ → Bool) (numbering : Numbering) (x k : ℕ) (slots : List (Option ModuleRecord)) : Type 0 where
  pub place : ℕ
  pub number : ℕ
  pub part : ModuleRecord
  pub is : number ≡ k + place
  pub at : slice_index_or slots place None ≡ Some part
  pub asleep : active number ≡ false
  pub reads : 0 < listed x (numbering.inputs number)

pub reader_found : (active : ℕ → Bool) (numbering : Numbering) (x k : ℕ) (slots : List (Option ModuleRecord)) → 0 < readers_asleep active numbering x k slots → IsReader active numbering x k slots
reader_found active numbering x k [] some = let no : ⊥ = omega (arith, some) in absurd no
reader_found active numbering x k (None ∷ slots) some = later (reader_found active numbering x (k + 1) slots (omega (arith, some)))
  where
    later : IsReader active numbering x (k + 1) slots → IsReader active numbering x k (None ∷ slots)
    later found = record { place = suc found.place; number = found.number; part = found.part; is = omega (arith, found.is); at = found.at; asleep = found.asleep; reads = found.reads }
reader_found active numbering x k (Some r ∷ slots) some = elim (cases_lt 0 (reads_asleep active numbering x k (Some r))) as (λ _. IsReader active numbering x k (Some r ∷ slots)) [
  | inl here ↦ now here
  | inr none ↦ later (reader_found active numbering x (k + 1) slots (omega (arith, some, none)))
]
  where
    later : IsReader active numbering x (k + 1) slots → IsReader active numbering x k (Some r ∷ slots)
    later found = record { place = suc found.place; number = found.number; part = found.part; is = omega (arith, found.is); at = found.at; asleep = found.asleep; reads = found.reads }

    now : 0 < reads_asleep active numbering x k (Some r) → IsReader active numbering x k (Some r ∷ slots)
    now here = elim (cases_Bool (active k)) as (λ _. IsReader active numbering x k (Some r ∷ slots)) [
      | inl awake ↦ let none = ap (λ b. cond b 0 (listed x (numbering.inputs k))) awake in let no : ⊥ = omega (arith, here, none) in absurd no
      | inr asleep ↦
          let same = ap (λ b. cond b 0 (listed x (numbering.inputs k))) asleep in
          record { place = 0; number = k; part = r; is = omega arith; at = refl; asleep = asleep; reads = omega (arith, here, same) }
    ]

-- lists with the same modules
pub same_hearing : (active : ℕ → Bool) (entries : List FanoutEntry) (ids new : List ModuleId) → ((id : ModuleId) → Contains new id ↔ Contains ids id) → AreHearing active entries ids → AreHearing active entries new
same_hearing active entries ids new same are m =
    let id : ModuleId = record { 0 = m } in
    (λ there. (are m).0 ((same id).0 there), λ both. (same id).1 ((are m).1 both))
