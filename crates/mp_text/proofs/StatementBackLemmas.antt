-- Statements that are written are read again.
use Rattle.mp_text.proofs.Names.{length-map, ◌≡◌, ◌^◌, ◌<◌, ◌==◌, ◌∷◌, ◌++◌, ℕ, true, false, List, [], length, map, All, Ok, decimal, refl, ap, ◌∙◌, arith, codes, list_all, nat_tests, map-id, All-map, All-weaker, Kind, word_of, InputName, OutputName, AddWire, AddModule, AddBundle, SetStimulus, number_word, change_word, input_word, output_word, pair_text, and_parts, number_back, each_back, is_name, is_mark, has_kind, Start, Wire, Module, Stimulus, Bundle, stated_edit, statement_of, before_first-append, after_first-append, NewModule, NewBundle}
use Rattle.std.specs.Char.{is_ascii_digit}
use Rattle.mp_netlist.specs.declared.format.Format.{Format as NetlistFormat}
use Rattle.mp_modules.proofs.WordLemmas.{by_word}
use Rattle.mp_text.proofs.lemmas.lexing.DecimalLemmas.{decimal_digits}

pub horizon_stated : (h : ℕ) → h < 2 ^ 64 → statement_of (codes "horizon" ∷ decimal h ∷ []) ≡ Start (Ok h)
unfolding statement_of
horizon_stated h low = rw (number_back h low) refl

pub wire_read : (f : NetlistFormat) (name : List ℕ) (width level : ℕ) → width < 2 ^ 64 → level < 2 ^ 64
    → stated_edit f Wire (name ∷ decimal width ∷ decimal level ∷ []) ≡ Ok (AddWire name width level)
wire_read f name width level narrow low = grind (arith, nat_tests, number_back)

pub bundle_read : (f : NetlistFormat) (new : NewBundle) → new.setup < 2 ^ 64
    → stated_edit f Bundle (new.name ∷ new.request ∷ new.acknowledge ∷ new.payload ∷ decimal new.setup ∷ []) ≡ Ok (AddBundle new)
bundle_read f new low = rw (number_back new.setup low) refl

pub stimulus_read : (f : NetlistFormat) (name : List ℕ) (changes : List (ℕ × ℕ)) → All (λ change. change_word (pair_text change) ≡ Ok change) changes
    → stated_edit f Stimulus (name ∷ map pair_text changes) ≡ Ok (SetStimulus name changes)
stimulus_read f name changes all = rw (each_back change_word pair_text (λ change. change) changes all) (rw (map-id changes) refl)

-- a word that begins with a byte other than the mark
other_byte : (mark b : ℕ) (bs : List ℕ) → (b == mark) ≡ false → is_mark mark (b ∷ bs) ≡ false
other_byte mark b bs other = rw other refl

digits_no_colon : (ds : List ℕ) → list_all is_ascii_digit ds ≡ true → is_mark 58 ds ≡ false
digits_no_colon [] all = refl
digits_no_colon (b ∷ bs) all = grind (arith, nat_tests, other_byte, and_parts)

-- a word that begins with a name is not `>`
pub name_no_greater : (name rest : List ℕ) → is_name name ≡ true → is_mark 62 (name ++ rest) ≡ false
unfolding is_name
name_no_greater name rest valid = grind (arith, nat_tests, and_parts, other_byte)

some_words : {A : Type 0} (write : A → List ℕ) (xs : List A) → 0 < length xs → (length (map write xs) == 0) ≡ false
some_words write xs some = grind (arith, nat_tests, length-map)

module _ {I O : Type 0} (f : NetlistFormat) (name : List ℕ) (kind : Kind) (has : has_kind f kind ≡ true) (params : List ℕ) (inputs : List I) (outputs : List O)
    (input : I → List ℕ) (hear : I → InputName) (output : O → List ℕ) (see : O → OutputName)
    (low : All (λ p. p < 2 ^ 64) params) (unmarked : All (λ i. is_mark 62 (input i) ≡ false) inputs) (heard : All (λ i. input_word (input i) ≡ Ok (hear i)) inputs) (reads : All (λ o. output_word (output o) ≡ Ok (see o)) outputs)
    (some_inputs : 0 < length inputs) (some_outputs : 0 < length outputs) where
  abbrev new : NewModule
  new = record { name = name; kind = kind; params = params; inputs = map hear inputs; outputs = map see outputs }

  abbrev back : List (List ℕ)
  back = map input inputs ++ (codes ">" ∷ map output outputs)

  pub module_read : stated_edit f Module (name ∷ word_of kind ∷ (map decimal params ++ (codes ":" ∷ back))) ≡ Ok (AddModule new)
  module_read =
      let no_colon = All-map (λ w. is_mark 58 w ≡ false) decimal params (All-weaker (λ p. p < 2 ^ 64) (λ p. is_mark 58 (decimal p) ≡ false) (λ p fits. digits_no_colon (decimal p) (decimal_digits p fits)) params low) in
      let no_greater = All-map (λ w. is_mark 62 w ≡ false) input inputs unmarked in
      let front = before_first-append (is_mark 58) (codes ":") back refl (map decimal params) no_colon in
      let ports = after_first-append (is_mark 58) (codes ":") back refl (map decimal params) no_colon in
      let ins = before_first-append (is_mark 62) (codes ">") (map output outputs) refl (map input inputs) no_greater in
      let outs = after_first-append (is_mark 62) (codes ">") (map output outputs) refl (map input inputs) no_greater in
      let numbers = each_back number_word decimal (λ p. p) params (All-weaker (λ p. p < 2 ^ 64) (λ p. number_word (decimal p) ≡ Ok p) number_back params low) ∙ ap Ok (map-id params) in
      let hears = each_back input_word input hear inputs heard in
      let read = each_back output_word output see outputs reads in
      rw (front, ports) (rw (ins, outs) (rw (some_words input inputs some_inputs, some_words output outputs some_outputs) (rw (by_word kind) (rw has (rw numbers (rw (hears, read) refl))))))
