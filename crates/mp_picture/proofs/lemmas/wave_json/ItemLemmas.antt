-- Items that are written with commas between them.
use Rattle.std.proofs.Common.{◌≡◌, ℕ, ◌+◌, ◌<◌, Bool, true, false, ◌&&◌, not, List, [], ◌∷◌, ◌++◌, length, get_or, take, drop, Result, Ok, Err, refl, sym, ap, subst, ◌∙◌}
use Rattle.std.specs.List.{flat_map}
use Rattle.mp_streams.specs.Outgoing.{Outgoing, Puts}
use Rattle.mp_streams.proofs.OutLemmas.{puts_then, puts_sooner, next_text, text_with}
use Rattle.mp_picture.specs.wave_json.WaveJson.{has_some, item_at, without_first}

-- an item behind others loses its comma where there is none before it
joined : (xs ys : List ℕ) → without_first (xs ++ ys) ≡ without_first xs ++ item_at (not (has_some xs)) ys
joined [] ys = refl
joined (x ∷ xs) ys = refl

has_some-append : (xs ys : List ℕ) → not (has_some (xs ++ ys)) ≡ (not (has_some xs) && not (has_some ys))
has_some-append [] ys = refl
has_some-append (x ∷ xs) ys = refl

-- what stands behind an item that may lose its comma
later : (begun : Bool) (ys rest : List ℕ) → (more : List ℕ) × (item_at begun (ys ++ rest) ≡ item_at begun ys ++ more)
later true [] rest = (without_first rest, refl)
later true (y ∷ ys) rest = (rest, refl)
later false ys rest = (rest, refl)

-- what is returned of a success is no matter
-- (of any answer)
pub puts_done : {S T U E F : Type 0} {f : F → Bool} {g : E → Bool} {done : T} {other : U} {a b : Outgoing S} {xs : List ℕ} → Puts f (Ok done) a b xs → Puts {T = U} g (Ok other) a b xs
puts_done puts = record { front = puts.front; lost = puts.lost; taken = puts.taken; held = puts.held; ends = puts.ends }

-- another text of an item
pub item_as : {S T E : Type 0} {f : E → Bool} {r : Result T E} {a b : Outgoing S} {xs ys : List ℕ} (is_first : Bool) → xs ≡ ys → Puts f r a b (item_at is_first xs) → Puts f r a b (item_at is_first ys)
item_as {f = f} {r = r} {a = a} {b = b} is_first is puts = subst (λ text. Puts f r a b (item_at is_first text)) is puts

module _ {X : Type 0} (t : X → List ℕ) (xs : List X) (i : ℕ) (d : X) (within : i < length xs) where
  abbrev before : List ℕ
  before = flat_map t (take i xs)

  abbrev here : List ℕ
  here = t (get_or xs i d)

  abbrev behind : List ℕ
  behind = flat_map t (drop (i + 1) xs)

  module _ {S E : Type 0} {f : E → Bool} {is_first : Bool} {a b c : Outgoing S} (is : is_first ≡ not (has_some before)) (first : Puts {T = Unit {0}} f (Ok tt) a b (without_first before)) where
    -- an item more
    pub items_next : {next : Bool} → Puts f (Ok next) b c (item_at is_first here) → Puts {T = Unit {0}} f (Ok tt) a c (without_first (flat_map t (take (i + 1) xs)))
    items_next {next = next} second =
        let whole = ap without_first (next_text t xs i d within) ∙ joined before here in
        subst (Puts {T = Unit {0}} f (Ok tt) a c) (sym whole) (puts_then first (puts_done (subst (λ begun. Puts f (Ok next) b c (item_at begun here)) is second)))

    -- an item failed
    pub items_stopped : {T : Type 0} {error : E} → Puts {T = T} f (Err error) b c (item_at is_first here) → Puts {T = T} f (Err error) a c (without_first (flat_map t xs))
    items_stopped {T = T} {error = error} second =
        let begun = not (has_some before) in
        let more = later begun here behind in
        let whole = ap without_first (text_with t xs i d within) ∙ joined before (here ++ behind) ∙ ap (λ l. without_first before ++ l) more.1 in
        let failed = subst (λ begun. Puts {T = T} f (Err error) b c (item_at begun here)) is second in
        subst (Puts {T = T} f (Err error) a c) (sym whole) (puts_then first (puts_sooner more.0 failed))

  -- whether there is no item yet behind that
  pub items_still : (is_first next : Bool) → is_first ≡ not (has_some before) → next ≡ (is_first && not (has_some here)) → next ≡ not (has_some (flat_map t (take (i + 1) xs)))
  items_still is_first next is found =
      found ∙ ap (λ b. b && not (has_some here)) is ∙ sym (ap (λ l. not (has_some l)) (next_text t xs i d within) ∙ has_some-append before here)
