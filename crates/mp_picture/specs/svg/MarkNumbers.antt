-- Numbers of codes at places.
use Rattle.std.specs.Prelude.{ℕ, ◌==◌, ◌&&◌, Bool, Option}
use Rattle.std.specs.BTreeMap.{get}
use Rattle.mp_modules.specs.Findings.{code_number}
use Rattle.mp_modules.specs.declared.finding_code.FindingCode.{FindingCode}
use Rattle.mp_model.specs.declared.finding.Place.{Place}
use Rattle.mp_picture.specs.Found.{is_place}
use Rattle.mp_picture.specs.PlaceKeys.{numbered_order, place_key}
use Rattle.mp_picture.specs.declared.svg.mark_numbers.MarkNumbers.{MarkNumbers}

-- a place and the number of a code
abbrev pub mark_key : Place → FindingCode → (Bool × ℕ) × ℕ
mark_key place code = (place_key place, code_number code)

-- the number of a code at a place, if it was given one
abbrev pub number_of : MarkNumbers → Place → FindingCode → Option ℕ
number_of all place code = get numbered_order all.numbers (mark_key place code)

-- one code at one place is another code at another place
abbrev pub is_mark : Place → FindingCode → Place → FindingCode → Bool
is_mark place code other found = is_place place other && code_number code == code_number found
