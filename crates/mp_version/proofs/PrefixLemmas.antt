-- Beginnings of one list, and stories that extend one another.
use Rattle.std.proofs.Common.{◌≡◌, ◌≤◌, List, [], ◌∷◌, ◌++◌, length, take, Some, slice_get, refl, ap, sym, ◌∙◌, arith, append_assoc, length-append}
use mathlib.Core.List.{IsPrefix}
use Rattle.mp_records.specs.declared.edit.Edit.{Edit}
use Rattle.mp_version.specs.Stories.{Story, one_more}
use Rattle.mp_version.specs.Extending.{Extends, Succeeds, up_to}

pub prefix_self : {A : Type 0} (xs : List A) → IsPrefix xs xs
prefix_self [] = ([], refl)
prefix_self (x ∷ xs) = (let r = prefix_self xs in r.0, ap (λ ys. x ∷ ys) (prefix_self xs).1)

pub prefix_trans : {A : Type 0} (xs ys zs : List A) → IsPrefix xs ys → IsPrefix ys zs → IsPrefix xs zs
prefix_trans xs ys zs p q = (p.0 ++ q.0, sym (append_assoc xs p.0 q.0) ∙ (ap (λ w. w ++ q.0) p.1 ∙ q.1))

-- a beginning is what stands first
pub prefix_take : {A : Type 0} (xs ys : List A) → IsPrefix xs ys → take (length xs) ys ≡ xs
prefix_take [] ys p = refl
prefix_take (x ∷ xs) [] p = absurd (cc (p.1))
prefix_take (x ∷ xs) (y ∷ ys) p = let rest = prefix_take xs ys (p.0, cc (p.1)) in cc (p.1, rest)

get_here : {A : Type 0} (xs : List A) (y : A) (zs : List A) → slice_get ((xs ++ y ∷ []) ++ zs) (length xs) ≡ Some y
get_here [] y zs = refl
get_here (x ∷ xs) y zs = get_here xs y zs

-- and its last one stands at its place
pub prefix_last : {A : Type 0} (whole before : List A) (x : A) → IsPrefix (before ++ x ∷ []) whole → slice_get whole (length before) ≡ Some x
prefix_last whole before x p = ap (λ xs. slice_get xs (length before)) (sym p.1) ∙ get_here before x p.0

-- a beginning as long as the whole is the whole
pub prefix_whole : {A : Type 0} (xs ys : List A) → IsPrefix xs ys → length ys ≤ length xs → xs ≡ ys
prefix_whole [] [] p le = refl
prefix_whole [] (y ∷ ys) p le = absurd (omega arith)
prefix_whole (x ∷ xs) [] p le = absurd (cc (p.1))
prefix_whole (x ∷ xs) (y ∷ ys) p le =
    let rest = prefix_whole xs ys (p.0, cc (p.1)) (omega arith) in cc (p.1, rest)

pub prefix_length : {A : Type 0} (xs ys : List A) → IsPrefix xs ys → length xs ≤ length ys
prefix_length xs ys p = omega (arith, sym (ap length p.1) ∙ length-append xs p.0)

pub extends_self : (s : Story) → Extends s s
extends_self s = record { same_base = refl; begins = prefix_self s.edits }

pub extends_trans : (c b a : Story) → Extends c b → Extends b a → Extends c a
extends_trans c b a h k = record { same_base = h.same_base ∙ k.same_base; begins = prefix_trans a.edits b.edits c.edits k.begins h.begins }

-- a story that extends another has no fewer edits
pub extends_length : (later earlier : Story) → Extends later earlier → length earlier.edits ≤ length later.edits
extends_length later earlier h = prefix_length earlier.edits later.edits h.begins

-- a story with one more edit extends it
pub extends_one_more : (s : Story) (edit : Edit) → Extends (one_more s edit) s
extends_one_more s edit = record { same_base = refl; begins = (edit ∷ [], refl) }

pub succeeds_one_more : (s : Story) (edit : Edit) → Succeeds (one_more s edit) s
succeeds_one_more s edit = record { extends = extends_one_more s edit; one_more = length-append s.edits (edit ∷ []) }

-- a story as long as the one that it extends is that one
pub extends_whole : (later earlier : Story) → Extends later earlier → length later.edits ≡ length earlier.edits → later ≡ earlier
extends_whole later earlier h same =
    let e : earlier.edits ≡ later.edits = prefix_whole earlier.edits later.edits h.begins (omega arith) in λ i. record { base = h.same_base i; edits = sym e i }

-- and one that another extends is its beginning
pub up_to-earlier : (now seen : Story) → Extends now seen → up_to now (length seen.edits) ≡ seen
up_to-earlier now seen h = let e = prefix_take seen.edits now.edits h.begins in λ i. record { base = h.same_base i; edits = e i }
