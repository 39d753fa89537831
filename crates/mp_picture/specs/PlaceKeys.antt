-- Places as they are looked up.
use Rattle.std.specs.Prelude.{◌≡◌, ℕ, Bool, true, false, List}
use Rattle.std.specs.List.{list_any}
use Rattle.std.specs.BTreeSet.{BTreeSet, contains}
use Rattle.std.specs.Ordering.{bool_cmp, nat_cmp, ordering_then}
use Rattle.std.specs.declared.cmp.Ordering.{Ordering}
use Rattle.mp_model.specs.declared.finding.Place.{Place}
use Rattle.mp_model.specs.declared.finding.Place.TheVariants.{Module, Bundle}
use Rattle.mp_picture.specs.Found.{is_place}

-- whether it is a bundle, and its number
abbrev pub place_key : Place → Bool × ℕ
place_key (Module m) = (false, m.0)
place_key (Bundle b) = (true, b.0)

-- the modules by number, and then the bundles
abbrev pub place_order : Bool × ℕ → Bool × ℕ → Ordering
place_order a b = ordering_then (bool_cmp a.0 b.0) (nat_cmp a.1 b.1)

-- by place, and then by a number
abbrev pub numbered_order : (Bool × ℕ) × ℕ → (Bool × ℕ) × ℕ → Ordering
numbered_order a b = ordering_then (place_order a.0 b.0) (nat_cmp a.1 b.1)

-- a set has these places and no others
abbrev pub HasPlaces : BTreeSet (Bool × ℕ) → List Place → Type 0
HasPlaces seen places = (place : Place) → contains place_order seen (place_key place) ≡ list_any (is_place place) places
