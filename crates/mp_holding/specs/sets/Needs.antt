-- What numbers need to be kept in a set.
use Rattle.std.specs.Prelude.{ℕ, ◌/◌, ◌%◌, Bool, true, false, ◌&&◌, ◌||◌, List, Option, Some, None, slice_get, suc, zero}
use Rattle.mp_holding.specs.declared.sets.needs.Need.{Need}
use Rattle.mp_holding.specs.declared.sets.needs.Need.TheVariants.{Always, Never, Member}
use Rattle.mp_holding.specs.declared.sets.needs.Needs.{Needs}
use Rattle.mp_holding.specs.declared.sets.needs.Shape.{Shape}
use Rattle.mp_holding.specs.declared.sets.needs.Shape.TheVariants.{Pairs, Any}

abbrev pub is_met : (ℕ → Bool) → Need → Bool
is_met set Always = true
is_met set Never = false
is_met set (Member k) = set k

abbrev pub are_met : Shape → (ℕ → Bool) → Needs → Bool
are_met Pairs set needs = (is_met set needs.first && is_met set needs.second) || (is_met set needs.third && is_met set needs.fourth)
are_met Any set needs = is_met set needs.first || (is_met set needs.second || (is_met set needs.third || is_met set needs.fourth))

abbrev pub are_met_in : Shape → (ℕ → Bool) → Option Needs → Bool
are_met_in shape set None = false
are_met_in shape set (Some needs) = are_met shape set needs

-- a set keeps a number: it meets its needs
abbrev pub are_met_at : Shape → List Needs → (ℕ → Bool) → ℕ → Bool
are_met_at shape needs set k = are_met_in shape set (slice_get needs k)

-- the need at a place of four
abbrev pub need_in : ℕ → Needs → Need
need_in zero needs = needs.first
need_in (suc zero) needs = needs.second
need_in (suc (suc zero)) needs = needs.third
need_in (suc (suc (suc p))) needs = needs.fourth

abbrev pub need_of : ℕ → Option Needs → Need
need_of p None = Never
need_of p (Some needs) = need_in p needs

-- four places for each number
abbrev pub need_at : List Needs → ℕ → Need
need_at needs place = need_of (place % 4) (slice_get needs (place / 4))
