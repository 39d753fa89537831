-- The codes of what is refused at a seat alone.
use Rattle.std.specs.Prelude.{ℕ, List, codes}
use Rattle.mp_request.specs.declared.explain.seat_code.SeatCode.{SeatCode}
use Rattle.mp_request.specs.declared.explain.seat_code.SeatCode.TheVariants.{NotADesigner, NoWork, NotKept}

abbrev pub number_of : SeatCode → ℕ
number_of NotADesigner = 22
number_of NoWork = 23
number_of NotKept = 24

abbrev pub name_of : SeatCode → List ℕ
name_of NotADesigner = codes "NotADesigner"
name_of NoWork = codes "NoWork"
name_of NotKept = codes "NotKept"
