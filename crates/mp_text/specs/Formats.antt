-- The forms of a text.
use Rattle.std.specs.Prelude.{◌==◌, Bool, true, false, not, if◌then◌else◌}
use Rattle.mp_modules.specs.declared.kind.Kind.{Kind}
use Rattle.mp_modules.specs.declared.kind.Kind.TheVariants as kinds
use Rattle.mp_modules.specs.declared.function.Function.TheVariants as functions
use Rattle.mp_netlist.specs.declared.format.Format.{Format as NetlistFormat}
use Rattle.mp_text.specs.Names.{Standard, Large, horizon_limit, ℕ, Result, Ok, Err, TextCode, BadFormat, TextFormat, First, Second, Fourth}
use Rattle.mp_text.specs.Limits.{max_first_horizon}

-- the form of that number
abbrev pub format_of : ℕ → Result TextFormat TextCode
format_of number =
    if number == 1 then Ok First
    else (if number == 2 then Ok Second
    else (if number == 4 then Ok Fourth
    else Err BadFormat))

-- the format of the netlist of a text of that form
abbrev pub netlist_format : TextFormat → NetlistFormat
netlist_format First = Standard
netlist_format Second = Standard
netlist_format Fourth = Large

-- the longest horizon that a text of that form may state
abbrev pub max_horizon_of : TextFormat → ℕ
max_horizon_of First = max_first_horizon
max_horizon_of Second = horizon_limit Standard
max_horizon_of Fourth = horizon_limit Large

-- the kinds that a text has only in the form 4
abbrev pub needs_fourth : Kind → Bool
needs_fourth (kinds.Function functions.And) = true
needs_fourth (kinds.Function functions.Or) = true
needs_fourth (kinds.Function functions.Sub) = true
needs_fourth (kinds.Function functions.Less) = true
needs_fourth (kinds.Function functions.Mux) = true
needs_fourth (kinds.Function functions.Join) = true
needs_fourth _ = false

-- whether the text of a netlist of that format may have the kind
abbrev pub has_kind : NetlistFormat → Kind → Bool
has_kind Standard kind = not (needs_fourth kind)
has_kind Large kind = true
