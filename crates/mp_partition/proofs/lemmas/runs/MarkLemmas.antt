-- Marks of modules.
use Rattle.std.proofs.Common.{◌≡◌, ℕ, ◌<◌, ◌⊎◌, Bool, true, false, List, [], ◌∷◌, ◌++◌, length, zero, suc, refl, ◌∙◌, arith, inl, inr}
use Rattle.std.specs.List.{Contains}
use Rattle.std.proofs.lemmas.Bool.{cases_lt, false_from_ne_true}
use Rattle.std.proofs.lemmas.List.{get_or_past}
use Rattle.std.proofs.lemmas.List.Elements.{Contains-append_cases}
use Rattle.mp_records.specs.declared.ids.ModuleId.{ModuleId}
use Rattle.mp_partition.specs.runs.Marks.{is_marked, AreListed, AreAdded}

pub none_in : {A : Type 0} (x : A) → Contains [] x → ⊥
none_in x has = omega (arith, has.1)

pub contains_cons : {A : Type 0} (x y : A) (xs : List A) → Contains (x ∷ xs) y → (x ≡ y) ⊎ Contains xs y
contains_cons x y xs (zero, within, at) = inl at
contains_cons x y xs (suc k, within, at) = inr (k, omega (arith, within), at)

pub contains_one : {A : Type 0} (x : A) → Contains (x ∷ []) x
contains_one x = (0, omega arith, refl)

pub added_more : (ids more : List ModuleId) (a b c : List Bool) (x y z : List ModuleId) → AreAdded ids a b x y → AreAdded more b c y z → AreAdded (ids ++ more) a c x z
added_more ids more a b c x y z first second = record {
  places = second.places ∙ first.places;
  kept = λ m is. second.kept m (first.kept m is);
  told = λ m within has. elim (Contains-append_cases ids more (record { 0 = m }) has) as (λ _. is_marked c m ≡ true) [
    | inl here ↦ second.kept m (first.told m within here)
    | inr there ↦ second.told m (let same = first.places in omega (arith, within, same)) there
  ];
  listed = λ are. second.listed (first.listed are);
}

-- a marked module is one of those that have a mark
pub marked_within : (marks : List Bool) (m : ℕ) → is_marked marks m ≡ true → m < length marks
marked_within marks m is = elim (cases_lt m (length marks)) as (λ _. m < length marks) [
  | inl within ↦ within
  | inr past ↦ let none = get_or_past marks m false past in cc
]

pub none_marked : (marks : List Bool) → AreListed marks [] → (m : ℕ) → is_marked marks m ≡ false
none_marked marks are m = false_from_ne_true (is_marked marks m) (λ is. none_in (let id : ModuleId = record { 0 = m } in id) (are m is))
