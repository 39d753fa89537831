-- Kinds and their words.
use Rattle.std.proofs.Common.{◌≡◌, ℕ, Bool, true, false, cond, List, refl, ap, ◌∙◌}
use Rattle.std.specs.Prelude.{Option, Some, None, option_map}
use Rattle.std.specs.Str.{bytes_eq}
use Rattle.std.proofs.lemmas.Slice.Eq.{bytes_eq-Decides}
use Rattle.mp_modules.specs.declared.kind.Kind.{Kind}
use Rattle.mp_modules.specs.declared.kind.Kind.TheVariants as kinds
use Rattle.mp_modules.specs.declared.function.Function.{Function}
use Rattle.mp_modules.specs.declared.function.Function.TheVariants as functions
use Rattle.mp_modules.specs.Laws.{IsNamedByWord, IsNamedByNoOther}
use Rattle.mp_modules.specs.Kinds.{kind_named, word_of, function_named, function_word}

pub by_word : IsNamedByWord
unfolding kind_named
by_word (kinds.Function functions.Buf) = refl
by_word _ = refl

-- where the first word of a list of cases is tried: it is the kind's, or a later one is
first_named : {K : Type 0} (word_of_kind : K → List ℕ) (first : K) (word : List ℕ) (kind : K) {rest : Option K} → (rest ≡ Some kind → word ≡ word_of_kind kind) →
    cond (bytes_eq word (word_of_kind first)) (Some first) rest ≡ Some kind → word ≡ word_of_kind kind
first_named word_of_kind first word kind {rest = rest} later named = at (bytes_eq word (word_of_kind first)) refl named
  where
    at : (test : Bool) → bytes_eq word (word_of_kind first) ≡ test → cond test (Some first) rest ≡ Some kind → word ≡ word_of_kind kind
    at true same is = (bytes_eq-Decides word (word_of_kind first)).0 same ∙ ap word_of_kind (cc)
    at false same is = later is

named_function : (f : Function) (word : List ℕ) → function_named word ≡ Some f → word ≡ function_word f
named_function f word =
    first_named function_word functions.Buf word f
    (first_named function_word functions.Not word f
    (first_named function_word functions.Xor word f
    (first_named function_word functions.AddC word f
    (first_named function_word functions.XorC word f
    (first_named function_word functions.Sum word f
    (first_named function_word functions.Bit word f
    (first_named function_word functions.And word f
    (first_named function_word functions.Or word f
    (first_named function_word functions.Sub word f
    (first_named function_word functions.Less word f
    (first_named function_word functions.Mux word f
    (first_named function_word functions.Join word f (λ none. cc)))))))))))))

by_function : (kind : Kind) (word : List ℕ) → option_map kinds.Function (function_named word) ≡ Some kind → word ≡ word_of kind
by_function kind word named = at (function_named word) refl named
  where
    at : (found : Option Function) → function_named word ≡ found → option_map kinds.Function found ≡ Some kind → word ≡ word_of kind
    at (Some f) is same = let whole : kinds.Function f ≡ kind = cc in named_function f word is ∙ ap word_of whole
    at None is same = cc

pub by_no_other : IsNamedByNoOther
unfolding kind_named
by_no_other kind word =
    first_named word_of kinds.C word kind
    (first_named word_of kinds.Toggle word kind
    (first_named word_of kinds.Select word kind
    (first_named word_of kinds.Call word kind
    (first_named word_of kinds.Arbiter word kind
    (first_named word_of kinds.Reg word kind (by_function kind word))))))
