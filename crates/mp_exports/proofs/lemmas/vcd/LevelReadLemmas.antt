-- The levels that a reader of a dump knows, unit by unit.
use Rattle.mp_exports.proofs.lemmas.vcd.Names.{◌≡◌, ◌+◌, ◌^◌, ◌<◌, ◌≤◌, ◌∷◌, ℕ, inl, inr, false, List, [], Option, None, Some, zero, suc, refl, sym, ap, subst, ◌∙◌, add-zero, zero-add, arith, flat_map, range_with_len, cases_lt, eqb-true, le-leb, lt-leb, not-false, bytes_eq-Decides, WireRecord, Circuit, wire_at, width_of, slot_at, level, code, standing, standing_from, value_at, is_changed, changed, marked, unit_text, time_mark, Variable, Given, Side, Outside, Reading, value_of, All, Contains, All-head, All-tail, All-filter, contains_here, contains_there, contains_cases, contains_filter, nat_tests}
use Rattle.mp_exports.proofs.lemmas.vcd.CodeReadLemmas.{own_codes}
use Rattle.mp_exports.proofs.lemmas.vcd.ReadingLemmas.{Leads, leads_none, leads_both, leads_time, leads_value, valued, giving, HasVariable}

-- the values given, after those of some wires at a time
abbrev pub given_at : Circuit → ℕ → List ℕ → List Given → List Given
given_at n t [] given = given
given_at n t (w ∷ ws) given = given_at n t ws (giving t w (level n w t) ∷ given)

in_standing : (k i : ℕ) (slots : List (Option WireRecord)) (r : WireRecord) → slot_at slots i ≡ Some r → Contains (standing_from k slots) (k + i)
in_standing k i [] r stands = grind arith
in_standing k zero (slot ∷ slots) r stands = grind (arith, add-zero, contains_here)
in_standing k (suc i) (None ∷ slots) r stands = subst (Contains (standing_from (k + 1) slots)) (omega arith) (in_standing (k + 1) i slots r stands)
in_standing k (suc i) (Some other ∷ slots) r stands = contains_there (k + suc i) k (standing_from (k + 1) slots) (subst (Contains (standing_from (k + 1) slots)) (omega arith) (in_standing (k + 1) i slots r stands))

pub stands_in : (n : Circuit) (w : ℕ) (r : WireRecord) → wire_at n w ≡ Some r → Contains (standing n) w
stands_in n w r stands = subst (Contains (standing n)) (zero-add w) (in_standing 0 w n.wires r stands)

-- a wire that is among those that stand does stand
standing_in : (k w : ℕ) (slots : List (Option WireRecord)) → Contains (standing_from k slots) w → (i : ℕ) × (r : WireRecord) × (k + i ≡ w) × (slot_at slots i ≡ Some r)
standing_in k w [] within = absurd (omega (arith, within.1))
standing_in k w (None ∷ slots) within = let found = standing_in (k + 1) w slots within in (suc found.0, found.1, omega (arith, found.2), found.3)
standing_in k w (Some r ∷ slots) within = elim (contains_cases w k (standing_from (k + 1) slots) within) [
  | inl same ↦ (0, r, omega (arith, same), refl)
  | inr there ↦ let found = standing_in (k + 1) w slots there in (suc found.0, found.1, omega (arith, found.2), found.3)
]

pub stands_of : (n : Circuit) (w : ℕ) → Contains (standing n) w → (r : WireRecord) × (wire_at n w ≡ Some r)
stands_of n w within = let found = standing_in 0 w n.wires within in (found.1, ap (wire_at n) (sym (sym (zero-add found.0) ∙ found.2)) ∙ found.3)

-- a variable is declared for the wire, which has one bit or more
pub record IsReadable (n : Circuit) (vs : List Variable) (w : ℕ) : Type 0 where
  pub wide : 1 ≤ width_of (wire_at n w)
  pub declared : HasVariable vs w (width_of (wire_at n w))
  pub fits : (t : ℕ) → level n w t < 2 ^ width_of (wire_at n w)

pub leads_values : (u : ℕ × List ℕ) (side : Side) (n : Circuit) (vs : List Variable) (t : ℕ) (ws : List ℕ) (given : List Given) → All (IsReadable n vs) ws
    → Leads (valued u side vs t given) (flat_map (value_at n t) ws) (valued u side vs t (given_at n t ws given))
leads_values u side n vs t [] given each = leads_none (valued u side vs t given)
leads_values u side n vs t (w ∷ ws) given each =
    let here = All-head (IsReadable n vs) w ws each in
    leads_both (valued u side vs t given) (valued u side vs t (giving t w (level n w t) ∷ given)) _ (value_at n t w) (flat_map (value_at n t) ws)
    (leads_value u side vs t w (level n w t) given (width_of (wire_at n w)) here.wide here.declared (here.fits t))
    (leads_values u side n vs t ws (giving t w (level n w t) ∷ given) (All-tail (IsReadable n vs) w ws each))

-- a unit leads to a time that is no later
leads_marked : (u : ℕ × List ℕ) (n : Circuit) (vs : List Variable) (before t : ℕ) (ws : List ℕ) (given : List Given) → before < t → t < 2 ^ 64 → All (IsReadable n vs) ws
    → (time : ℕ) × (time ≤ t) × Leads (valued u Outside vs before given) (marked n t ws) (valued u Outside vs time (given_at n t ws given))
leads_marked u n vs before t [] given later fits each = (before, omega (arith, later), leads_none (valued u Outside vs before given))
leads_marked u n vs before t (w ∷ ws) given later fits each =
    (t, omega arith, leads_both _ _ _ (time_mark t) (flat_map (value_at n t) (w ∷ ws)) (leads_time u vs before t given later fits) (leads_values u Outside n vs t (w ∷ ws) given each))

-- earlier values stay
value_before : (n : Circuit) (t s : ℕ) (c : List ℕ) (ws : List ℕ) (given : List Given) → s < t → value_of c s (given_at n t ws given) ≡ value_of c s given
value_before n t s c [] given sooner = refl
value_before n t s c (w ∷ ws) given sooner = grind (arith, lt-leb, (value_before n t s c ws))

-- a value that a code has already is not changed by that of its wire, nor by those of others
value_kept : (n : Circuit) (t s w : ℕ) (ws : List ℕ) (given : List Given) → t ≤ s → value_of (code w) s given ≡ Some (level n w t)
    → value_of (code w) s (given_at n t ws given) ≡ Some (level n w t)
value_kept n t s w [] given not_later known = grind arith
value_kept n t s w (v ∷ ws) given not_later known = grind (arith, le-leb, own_codes, bytes_eq-Decides, (value_kept n t s w ws))

-- a wire that is among them has its value
value_given : (n : Circuit) (t s w : ℕ) (ws : List ℕ) (given : List Given) → t ≤ s → Contains ws w → value_of (code w) s (given_at n t ws given) ≡ Some (level n w t)
value_given n t s w [] given not_later within = grind arith
value_given n t s w (v ∷ ws) given not_later within = grind (arith, contains_cases, le-leb, bytes_eq-Decides, value_kept, (value_given n t s w ws))

-- the values of the wires that stand are their levels up to a time, and from then on the last of them
pub record Knows (n : Circuit) (t : ℕ) (given : List Given) : Type 0 where
  pub before : (w s : ℕ) → Contains (standing n) w → s ≤ t → value_of (code w) s given ≡ Some (level n w s)
  pub after : (w s : ℕ) → Contains (standing n) w → t ≤ s → value_of (code w) s given ≡ Some (level n w t)

pub knows_first : (n : Circuit) → Knows n 0 (given_at n 0 (standing n) [])
knows_first n = grind (arith, nat_tests, value_given)

module _ (n : Circuit) (t : ℕ) (given : List Given) (known : Knows n t given) where
  -- the level of a wire that does not change stays
  stays : (w : ℕ) → is_changed n (t + 1) w ≡ false → level n w t ≡ level n w (t + 1)
  stays w test = grind (arith, not-false, eqb-true)

  pub knows_next : Knows n (t + 1) (given_at n (t + 1) (changed n (t + 1)) given)
  knows_next = grind (arith, nat_tests, cases_lt, value_given, contains_filter, value_kept, stays, value_before)

-- the units lead to a reading that knows the levels up to the last of them
pub record Units (u : ℕ × List ℕ) (n : Circuit) (vs : List Variable) (from : Reading) (text : List ℕ) (last : ℕ) : Type 0 where
  pub time : ℕ
  pub upto : time ≤ last
  pub given : List Given
  pub leads : Leads from text (valued u Outside vs time given)
  pub knows : Knows n last given

pub leads_units : (u : ℕ × List ℕ) (n : Circuit) (vs : List Variable) (k t before : ℕ) (given : List Given) → All (IsReadable n vs) (standing n) → before ≤ t → t + k < 2 ^ 64 → Knows n t given
    → Units u n vs (valued u Outside vs before given) (flat_map (unit_text n) (range_with_len (t + 1) k)) (t + k)
leads_units u n vs zero t before given each early fits known = record {
  time = before;
  upto = omega (arith, early);
  given = given;
  leads = leads_none (valued u Outside vs before given);
  knows = rw add-zero known;
}
leads_units u n vs (suc k) t before given each early fits known =
    let next = given_at n (t + 1) (changed n (t + 1)) given in
    let first = leads_marked u n vs before (t + 1) (changed n (t + 1)) given (omega (arith, early)) (omega (arith, fits)) (All-filter (is_changed n (t + 1)) (IsReadable n vs) (standing n) each) in
    let rest = leads_units u n vs k (t + 1) first.0 next each first.1 (omega (arith, fits)) (knows_next n t given known) in
    let same : t + 1 + k ≡ t + suc k = omega arith in
    record {
      time = rest.time;
      upto = omega (arith, rest.upto);
      given = rest.given;
      leads = leads_both (valued u Outside vs before given) (valued u Outside vs first.0 next) (valued u Outside vs rest.time rest.given) (unit_text n (t + 1)) (flat_map (unit_text n) (range_with_len (t + 1 + 1) k)) first.2 rest.leads;
      knows = subst (λ s. Knows n s rest.given) same rest.knows;
    }
