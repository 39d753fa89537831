-- What a call that reads gives.
use Rattle.std.specs.Prelude.{◌≡◌, ◌⊎◌, ◌++◌}
use Rattle.mp_text.specs.lexing.Names.{List, Result, Ok, Err}

infixl 10 ◌>>=◌
abbrev pub ◌>>=◌ : {A B E : Type 0} → Result A E → (A → Result B E) → Result B E
(Ok x) >>= f = f x
(Err e) >>= f = Err e

-- the call gave what reading gives, or memory ran out
abbrev pub Gives : {X Y E : Type 0} → E → (X → Y) → Result X E → Result Y E → Type 0
Gives memory view (Ok x) read = read ≡ Ok (view x)
Gives memory view (Err e) read = (e ≡ memory) ⊎ (read ≡ Err e)

-- what was read goes behind the front
abbrev pub with_front : {A E : Type 0} → List A → Result (List A) E → Result (List A) E
with_front front (Ok items) = Ok (front ++ items)
with_front front (Err e) = Err e
