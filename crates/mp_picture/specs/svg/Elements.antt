-- Elements of an SVG and their attributes.
use Rattle.std.specs.Prelude.{ℕ, ◌==◌, nat_lt, List, [], ◌∷◌, ◌++◌, codes, if◌then◌else◌}
use Rattle.std.specs.List.{flat_map}
use Rattle.std.specs.Fmt.{decimal}

-- an attribute, behind a space
abbrev pub attribute : List ℕ → List ℕ → List ℕ
attribute name value = 32 ∷ (name ++ (61 ∷ 34 ∷ (value ++ (34 ∷ []))))

abbrev pub number : List ℕ → ℕ → List ℕ
number name value = attribute name (decimal value)

abbrev pub title : List ℕ → List ℕ
title text = codes "<title>" ++ (text ++ codes "</title>")

-- a byte of any text, as it stands in an element: what begins a tag or a reference is named, and what is below 32 is a blank
abbrev pub escaped_byte : ℕ → List ℕ
escaped_byte b =
    if b == 38 then codes "&amp;" else if b == 60 then codes "&lt;" else if b == 62 then codes "&gt;" else if nat_lt b 32 then codes " " else b ∷ []

abbrev pub escaped : List ℕ → List ℕ
escaped text = flat_map escaped_byte text

-- a text from a point on
abbrev pub text_from : ℕ → ℕ → List ℕ → List ℕ
text_from x y text = codes "<text" ++ (number (codes "x") x ++ (number (codes "y") y ++ (codes ">" ++ (text ++ codes "</text>"))))

-- a rectangle, behind what its element begins with
abbrev pub rectangle : List ℕ → ℕ → ℕ → ℕ → List ℕ
rectangle start x y width =
    start ++ (number (codes "x") x ++ (number (codes "y") y ++ (number (codes "width") width ++ (attribute (codes "height") (codes "16") ++ codes "/>"))))
