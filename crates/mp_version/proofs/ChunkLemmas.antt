-- Lists in chunks of 64.
use Rattle.std.proofs.Common.{◌≡◌, ℕ, ◌+◌, ◌-◌, ◌*◌, ◌/◌, ◌%◌, ◌<◌, ◌≤◌, List, [], ◌∷◌, ◌++◌, Some, All, length, get_or, zero, suc, map, refl, sym, ap, ◌∙◌, arith, length-append, append_assoc, lit<}
use Rattle.std.proofs.lemmas.List.{append-nil, length_push}
use Rattle.std.proofs.lemmas.List.Concat.{flat_map-append}
use Rattle.std.proofs.lemmas.List.Elements.{All-cons, All-push}
use Rattle.std.proofs.lemmas.Option.{slice_get_read}
use Rattle.std.specs.List.{slice_get, flat_map}
use Rattle.mp_version.specs.Chunks.{AreChunks}
use Rattle.mp_version.specs.Limits.{max_edits}

later_full : {X A : Type 0} (f : X → List A) (x : X) (xs : List X) → All (λ y. length (f y) ≡ 64) (x ∷ xs) → All (λ y. length (f y) ≡ 64) xs
later_full f x xs full = λ k d within. full (suc k) d (omega arith)

first_full : {X A : Type 0} (f : X → List A) (x : X) (xs : List X) → All (λ y. length (f y) ≡ 64) (x ∷ xs) → length (f x) ≡ 64
first_full f x xs full = full 0 x (omega arith)

length_full : {X A : Type 0} (f : X → List A) (xs : List X) → All (λ y. length (f y) ≡ 64) xs → length (flat_map f xs) ≡ 64 * length xs
length_full f [] full = refl
length_full f (x ∷ xs) full =
    let first : length (f x) ≡ 64 = first_full f x xs full in
    let others : length (flat_map f xs) ≡ 64 * length xs = length_full f xs (later_full f x xs full) in
    omega (arith, first, others, length-append (f x) (flat_map f xs))

-- how many elements there are
pub length_chunks : {X A : Type 0} (f : X → List A) (xs : List X) (last : List A) → AreChunks f xs last
    → length (flat_map f xs ++ last) ≡ 64 * length xs + length last
length_chunks f xs last chunks = omega (arith, length_full f xs chunks.full, length-append (flat_map f xs) last)

slice_get-front : {A : Type 0} (xs ys : List A) (i : ℕ) → i < length xs → slice_get (xs ++ ys) i ≡ slice_get xs i
slice_get-front [] ys i within = absurd (omega arith)
slice_get-front (x ∷ xs) ys zero within = refl
slice_get-front (x ∷ xs) ys (suc i) within = slice_get-front xs ys i (omega arith)

slice_get-behind : {A : Type 0} (xs ys : List A) (i j : ℕ) → j ≡ length xs + i → slice_get (xs ++ ys) j ≡ slice_get ys i
slice_get-behind [] ys i j same = let e : j ≡ i = omega arith in ap (slice_get ys) e
slice_get-behind (x ∷ xs) ys i zero same = absurd (omega arith)
slice_get-behind (x ∷ xs) ys i (suc j) same = slice_get-behind xs ys i j (omega arith)

-- an element in a chunk
get_chunked : {X A : Type 0} (f : X → List A) (xs : List X) (last : List A) (q r i : ℕ) (x : X) → All (λ y. length (f y) ≡ 64) xs → slice_get xs q ≡ Some x → r < 64 → i ≡ 64 * q + r
    → slice_get (flat_map f xs ++ last) i ≡ slice_get (f x) r
get_chunked f [] last q r i x full is low same = cc
get_chunked f (y ∷ ys) last zero r i x full is low same =
    let here : y ≡ x = cc in
    let e : i ≡ r = omega arith in
    let first : length (f y) ≡ 64 = first_full f y ys full in
    let long : i < length (f y) = omega arith in
    ap (λ l. slice_get l i) (append_assoc (f y) (flat_map f ys) last)
    ∙ slice_get-front (f y) (flat_map f ys ++ last) i long
    ∙ ap (slice_get (f y)) e
    ∙ ap (λ z. slice_get (f z) r) here
get_chunked f (y ∷ ys) last (suc q) r i x full is low same =
    let first : length (f y) ≡ 64 = first_full f y ys full in
    ap (λ l. slice_get l i) (append_assoc (f y) (flat_map f ys) last)
    ∙ slice_get-behind (f y) (flat_map f ys ++ last) (64 * q + r) i (omega arith)
    ∙ get_chunked f ys last q r (64 * q + r) x (later_full f y ys full) is low refl

pub get_in_chunk : {X A : Type 0} (f : X → List A) (xs : List X) (last : List A) (i : ℕ) (x : X) → AreChunks f xs last → i / 64 < length xs → x ≡ get_or xs (i / 64) x
    → slice_get (flat_map f xs ++ last) i ≡ slice_get (f x) (i % 64)
get_in_chunk f xs last i x chunks within is =
    get_chunked f xs last (i / 64) (i % 64) i x chunks.full (slice_get_read xs (length xs) (i / 64) x refl within is) (omega arith) (omega arith)

-- an element behind all chunks
pub get_behind_chunks : {X A : Type 0} (f : X → List A) (xs : List X) (last : List A) (i : ℕ) → AreChunks f xs last → length xs ≤ i / 64
    → slice_get (flat_map f xs ++ last) i ≡ slice_get last (i - 64 * length xs)
get_behind_chunks f xs last i chunks past =
    let long : length (flat_map f xs) ≡ 64 * length xs = length_full f xs chunks.full in
    slice_get-behind (flat_map f xs) last (i - 64 * length xs) i (omega arith)

-- ---- one more element

flat_mapped : {X A : Type 0} (f : X → List A) (xs : List X) → flat_map f xs ≡ flat_map (λ (c : List A). c) (map f xs)
flat_mapped f [] = refl
flat_mapped f (x ∷ xs) = ap (λ l. f x ++ l) (flat_mapped f xs)

same_flat : {X A : Type 0} (f : X → List A) (xs ys : List X) → map f xs ≡ map f ys → flat_map f xs ≡ flat_map f ys
same_flat {A = A} f xs ys same = flat_mapped f xs ∙ ap (flat_map (λ (c : List A). c)) same ∙ sym (flat_mapped f ys)

-- handles of the same chunks
same_full : {X A : Type 0} (f : X → List A) (xs ys : List X) → map f xs ≡ map f ys → All (λ y. length (f y) ≡ 64) ys → All (λ y. length (f y) ≡ 64) xs
same_full f [] ys same full = λ k d within. absurd (omega arith)
same_full f (x ∷ xs) [] same full = let none : ⊥ = cc in absurd none
same_full f (x ∷ xs) (y ∷ ys) same full =
    let heads : f x ≡ f y = cc in
    let tails : map f xs ≡ map f ys = cc in
    All-cons (λ z. length (f z) ≡ 64) x xs (ap length heads ∙ first_full f y ys full) (same_full f xs ys tails (later_full f y ys full))

-- one more stands behind the chunks
pub same_grown : {X A : Type 0} (f : X → List A) (old new : List X) (last longer : List A) (e : A) → map f new ≡ map f old → longer ≡ last ++ e ∷ []
    → flat_map f new ++ longer ≡ (flat_map f old ++ last) ++ e ∷ []
same_grown f old new last longer e same one =
    ap (λ l. l ++ longer) (same_flat f new old same) ∙ ap (λ l. flat_map f old ++ l) one ∙ sym (append_assoc (flat_map f old) last (e ∷ []))

pub grown : {X A : Type 0} (f : X → List A) (old new : List X) (last longer : List A) (e : A) → AreChunks f old last → map f new ≡ map f old → longer ≡ last ++ e ∷ []
    → length longer < 64 → length (flat_map f old ++ last) < max_edits → AreChunks f new longer
grown f old new last longer e chunks same one short room = record {
  full = same_full f new old same chunks.full;
  short = short;
  few = omega (arith, ap length (same_grown f old new last longer e same one), length_push (flat_map f old ++ last) e, room);
}

-- with one more they are a chunk
pub same_chunked : {X A : Type 0} (f : X → List A) (old new : List X) (last longer : List A) (e : A) (x : X) → map f new ≡ map f old → longer ≡ last ++ e ∷ [] → f x ≡ longer
    → flat_map f (new ++ x ∷ []) ++ [] ≡ (flat_map f old ++ last) ++ e ∷ []
same_chunked f old new last longer e x same one is =
    append-nil (flat_map f (new ++ x ∷ []))
    ∙ flat_map-append f new (x ∷ [])
    ∙ ap (λ l. flat_map f new ++ l) (append-nil (f x) ∙ is)
    ∙ same_grown f old new last longer e same one

pub chunked : {X A : Type 0} (f : X → List A) (old new : List X) (last longer : List A) (e : A) (x : X) → AreChunks f old last → map f new ≡ map f old → longer ≡ last ++ e ∷ []
    → f x ≡ longer → 64 ≤ length longer → length (flat_map f old ++ last) < max_edits → AreChunks f (new ++ x ∷ []) []
chunked f old new last longer e x chunks same one is long room =
    let more : length longer ≡ length last + 1 = ap length one ∙ length_push last e in
    let size : length (f x) ≡ 64 = ap length is ∙ omega (arith, more, long, chunks.short) in
    record {
      full = All-push (λ y. length (f y) ≡ 64) new x (same_full f new old same chunks.full) size;
      short = lit< tt;
      few = omega (arith, ap length (same_chunked f old new last longer e x same one is), length_push (flat_map f old ++ last) e, room);
    }
