-- What an index looks up.
use Rattle.std.specs.Prelude.{ℕ, List, Option, None, Some}
use Rattle.std.specs.Option.{option_and_then}
use Rattle.std.specs.Arc.{arc_value}
use Rattle.std.specs.Str.{bytes_eq}
use Rattle.indexmap.specs.IndexMap.{get}
use Rattle.mp_netlist.specs.declared.index.Index.{Index}

-- the first of two numbers, if there is one
abbrev pub or_number : Option ℕ → Option ℕ → Option ℕ
or_number None other = other
or_number (Some number) other = Some number

-- the number of a name: the later one counts
abbrev pub number_in : Index → List ℕ → Option ℕ
number_in index name =
    or_number (option_and_then (λ shared. get bytes_eq (arc_value shared) name) index.numbers) (option_and_then (λ shared. get bytes_eq (arc_value shared) name) index.first)
