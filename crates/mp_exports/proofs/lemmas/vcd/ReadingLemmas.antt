-- What the parts of a dump say to a reader.
use Rattle.mp_exports.proofs.lemmas.vcd.Names.{◌≤◌, ◌≡◌, ◌+◌, ◌%◌, ◌^◌, ◌<◌, ◌∷◌, ◌++◌, ℕ, true, false, nat_lt, List, [], append_assoc, append-nil, length, Some, None, decimal, refl, sym, ap, ◌∙◌, arith, codes, is_ascii_digit, is_ascii_whitespace, list_all, list_any, bytes_eq, digits_value, eqb-true, lt-ltb, nat_tests, WireRecord, Circuit, IsCircuit, wire_at, declaration, and_parts, code, bit, bits, value_line, time_mark, word_first, words_from, words, is_made_of, is_printed, Variable, Given, Side, Outside, Reading, BetweenDeclarations, InDeclaration, AmongValues, BehindDigits, at_place, with_time, takes, with_value, word_in, read_words, is_name, max_wires, IsPlain-name}
use Rattle.std.proofs.Math.Nat.{mod-eq_of_lt}
use Rattle.std.proofs.lemmas.Fmt.{decimal_is_IsNumeral}
use Rattle.mp_netlist.proofs.LimitLemmas.{wires_within}
use Rattle.mp_model.proofs.SlotLemmas.{slot_within}
use Rattle.mp_exports.specs.vcd.Laws.{variable}
use Rattle.mp_exports.proofs.lemmas.vcd.CodeLemmas.{bits_long}
use Rattle.mp_exports.proofs.lemmas.vcd.CodeReadLemmas.{IsSolid, IsSolid-plain, IsSolid-decimal, IsSolid-code, solid_behind, worth, code_worth, not_end, bits_read, bits_all, decimal_made, code_made, bits_made}

words_solid : (begun word rest : List ℕ) → list_all (nat_lt 32) word ≡ true → words_from begun (word ++ rest) ≡ words_from (begun ++ word) rest
words_solid begun [] rest solid = grind (arith, nat_tests, append-nil)
words_solid begun (b ∷ bs) rest solid = grind (arith, nat_tests, and_parts, append_assoc, (words_solid (begun ++ b ∷ []) bs rest))

first_word : (word : List ℕ) (others : List (List ℕ)) → 0 < length word → word_first word others ≡ word ∷ others
first_word word others some = grind (arith, nat_tests)

-- the text leads from one reading to another, whatever comes behind it
pub record Leads (from : Reading) (text : List ℕ) (to : Reading) : Type 0 where
  pub each : (rest : List ℕ) → read_words (words (text ++ rest)) from ≡ read_words (words rest) to

pub leads_none : (r : Reading) → Leads r [] r
leads_none r = record { each = λ rest. refl }

pub leads_both : (r s t : Reading) (xs ys : List ℕ) → Leads r xs s → Leads s ys t → Leads r (xs ++ ys) t
leads_both r s t xs ys first second = record { each = λ rest. ap (λ l. read_words (words l) r) (append_assoc xs ys rest) ∙ first.each (ys ++ rest) ∙ second.each rest }

pub leads_word : (r s t : Reading) (word : List ℕ) (space : ℕ) (more : List ℕ) → IsSolid word → is_ascii_whitespace space ≡ true → word_in r.place word r ≡ s → Leads s more t
    → Leads r (word ++ space ∷ more) t
leads_word r s t word space more solid white next later = grind (arith, nat_tests, append_assoc, words_solid, first_word, next)

abbrev pub giving : ℕ → ℕ → ℕ → Given
giving t w value = record { time = t; code = code w; value = value }

-- the variables have one of this code, with so many bits
abbrev pub HasVariable : List Variable → ℕ → ℕ → Type 0
HasVariable vs w width = (digits : List ℕ) → length digits ≤ width → list_any (takes (code w) digits) vs ≡ true

-- where a unit of time is so many of what
module _ (unit : ℕ × List ℕ) where
  abbrev pub declaring : List Variable → Reading
  declaring vs = record { place = BetweenDeclarations; unit = Some unit; scopes = codes "top" ∷ []; variables = vs; time = None; given = [] }

  abbrev in_var : List Variable → List (List ℕ) → Reading
  in_var vs ws = at_place (InDeclaration (codes "$var") (codes "wire" ∷ ws)) (declaring vs)

  var_end : (vs : List Variable) (width code name : List ℕ) (bits : ℕ) → is_made_of is_ascii_digit width ≡ true → is_made_of is_printed code ≡ true → digits_value 10 width ≡ bits
      → Leads (in_var vs (width ∷ code ∷ name ∷ [])) (codes "$end" ++ 10 ∷ []) (declaring (vs ++ record { scopes = codes "top" ∷ []; width = bits; code = code; name = name } ∷ []))
  var_end vs width code name bits number printed same = record { each = λ rest. rw (number, printed, same) refl }

  var_word : (vs : List Variable) (ws : List (List ℕ)) (t : Reading) (word more : List ℕ) → IsSolid word → bytes_eq word (codes "$end") ≡ false → Leads (in_var vs (ws ++ word ∷ [])) more t → Leads (in_var vs ws) (word ++ 32 ∷ more) t
  var_word vs ws t word more solid other later = leads_word (in_var vs ws) (in_var vs (ws ++ word ∷ [])) t word 32 more solid refl (rw other refl) later

  pub leads_declaration : (n : Circuit) → IsCircuit n → (vs : List Variable) (w : ℕ) (r : WireRecord) → wire_at n w ≡ Some r → Leads (declaring vs) (declaration n w) (declaring (vs ++ variable n w ∷ []))
  unfolding is_name
  leads_declaration n circuit vs w r stands =
      let fits : r.width < 2 ^ 64 = omega (arith, (circuit.wires_ok w r stands).narrow) in
      let valid = circuit.names.wires w r stands in
      let few : nat_lt (worth (code w)) max_wires ≡ true = grind (arith, nat_tests, code_worth, (slot_within n.wires w r stands), (wires_within n circuit)) in
      let over = var_end vs (decimal r.width) (code w) r.name r.width (decimal_made r.width fits) (code_made w) (decimal_is_IsNumeral r.width fits).1 in
      let name = var_word vs (decimal r.width ∷ code w ∷ []) _ r.name (codes "$end" ++ 10 ∷ []) (IsSolid-plain r.name (IsPlain-name r.name valid)) (not_end is_name r.name valid refl) over in
      let own = var_word vs (decimal r.width ∷ []) _ (code w) _ (IsSolid-code w) (not_end (λ word. nat_lt (worth word) max_wires) (code w) few refl) name in
      let width = var_word vs [] _ (decimal r.width) _ (IsSolid-decimal r.width fits) (not_end (is_made_of is_ascii_digit) (decimal r.width) (decimal_made r.width fits) refl) own in
      let start : Leads (declaring vs) (codes "$var wire ") (in_var vs []) = record { each = λ rest. refl } in
      rw stands (leads_both (declaring vs) (in_var vs []) _ (codes "$var wire ") _ start width)

  abbrev pub valued : Side → List Variable → ℕ → List Given → Reading
  valued side vs t given = record { place = AmongValues side; unit = Some unit; scopes = []; variables = vs; time = Some t; given = given }

  pub leads_time : (vs : List Variable) (t new : ℕ) (given : List Given) → t < new → new < 2 ^ 64 → Leads (valued Outside vs t given) (time_mark new) (valued Outside vs new given)
  leads_time vs t new given later fits =
      let read : with_time (decimal new) (valued Outside vs t given) ≡ valued Outside vs new given = grind (arith, nat_tests, decimal_made, (decimal_is_IsNumeral new fits), lt-ltb) in
      let word = solid_behind 35 (decimal new) (omega arith) (IsSolid-decimal new fits).solid in
      leads_word _ _ (valued Outside vs new given) (35 ∷ decimal new) 10 [] word refl read (leads_none (valued Outside vs new given))

  module _ (side : Side) (vs : List Variable) (t w level : ℕ) (given : List Given) (width : ℕ) (wide : 1 ≤ width) (declared : HasVariable vs w width) (fits : level < 2 ^ width) where
    abbrev with_level : Reading
    with_level = valued side vs t (giving t w level ∷ given)

    -- a code behind the bits of a level
    code_read : (digits : List ℕ) → digits ≡ bits width level → with_value (Some t) (code w) digits (valued side vs t given) ≡ with_level
    code_read digits same = grind (arith, nat_tests, bits_long, bits_read, mod-eq_of_lt)

    scalar_word : (d : ℕ) → d < 2 → word_in (AmongValues side) ((48 + d) ∷ code w) (valued side vs t given) ≡ with_value (Some t) (code w) ((48 + d) ∷ []) (valued side vs t given)
    scalar_word = grind (arith, nat_tests)

    leads_scalar : width ≡ 1 → Leads (valued side vs t given) (bit level ∷ [] ++ (code w ++ 10 ∷ [])) with_level
    unfolding bits
    leads_scalar one =
        let there = scalar_word (level % 2) (omega arith) ∙ code_read (bit level ∷ []) (sym (ap (λ k. bits k level) one)) in
        leads_word (valued side vs t given) _ _ (bit level ∷ code w) 10 [] (solid_behind (bit level) (code w) (omega arith) (IsSolid-code w).solid) refl there (leads_none _)

    leads_vector : Leads (valued side vs t given) ((98 ∷ (bits width level ++ 32 ∷ [])) ++ (code w ++ 10 ∷ [])) with_level
    leads_vector =
        let behind = at_place (BehindDigits side (bits width level)) (valued side vs t given) in
        let own = leads_word behind with_level with_level (code w) 10 [] (IsSolid-code w) refl (code_read (bits width level) refl) (leads_none with_level) in
        let there : word_in (AmongValues side) (98 ∷ bits width level) (valued side vs t given) ≡ behind = grind (arith, nat_tests, bits_made) in
        let solid = solid_behind 98 (bits width level) (omega arith) (bits_all (nat_lt 32) (λ l. grind (arith, nat_tests)) width level) in
        rw (append_assoc (bits width level) (32 ∷ []) (code w ++ 10 ∷ [])) (leads_word (valued side vs t given) behind with_level (98 ∷ bits width level) 32 (code w ++ 10 ∷ []) solid refl there own)

    pub leads_value : Leads (valued side vs t given) (value_line width w level) with_level
    leads_value = grind (arith, nat_tests, leads_scalar, eqb-true, leads_vector)
