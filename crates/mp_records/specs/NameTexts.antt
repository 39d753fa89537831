-- The bytes of a name's text.
use Rattle.std.specs.Prelude.{ℕ, List, string_bytes}
use Rattle.std.specs.Arc.{arc_value}
use Rattle.mp_records.specs.declared.name.Text.{Text}
use Rattle.mp_records.specs.declared.name.Text.TheVariants.{Short, Long}

abbrev pub text_bytes : Text → List ℕ
text_bytes (Short text) = text.bytes
text_bytes (Long text) = string_bytes (arc_value text)
