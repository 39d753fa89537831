-- What holds of every kind.
use Rattle.std.specs.Prelude.{◌≡◌, ℕ, List, Some}
use Rattle.mp_modules.specs.declared.kind.Kind.{Kind}
use Rattle.mp_modules.specs.Kinds.{kind_named, word_of}

-- a kind is named by its word
abbrev pub IsNamedByWord : Type 0
IsNamedByWord = (kind : Kind) → kind_named (word_of kind) ≡ Some kind

-- and by no other word
abbrev pub IsNamedByNoOther : Type 0
IsNamedByNoOther = (kind : Kind) (word : List ℕ) → kind_named word ≡ Some kind → word ≡ word_of kind
