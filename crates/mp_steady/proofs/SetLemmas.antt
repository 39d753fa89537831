-- What whole sets of wires and their periods come to.
use Rattle.std.proofs.Common.{◌≡◌, ℕ, ◌+◌, ◌-◌, ◌<◌, ◌≤◌, ◌==◌, ◌⊎◌, inl, inr, Bool, true, false, cond, List, [], ◌∷◌, map, take, drop, slice_index, zero, suc, refl, ap, sym, subst, ◌∙◌, arith}
use Rattle.std.specs.Prelude.{◌&&◌, ◌||◌, max, nat_le, nat_lt, bytes_eq}
use Rattle.std.specs.Bool.{beq}
use Rattle.std.specs.List.{fold, list_all}
use Rattle.std.proofs.lemmas.Bool.{cases_Bool, cases_lt, eqb-true, le-leb, ltb-true, and_parts}
use Rattle.std.proofs.lemmas.Slice.Eq.{bytes_eq-Decides}
use Rattle.mp_modules.specs.declared.kind.Kind.{Kind}
use Rattle.mp_modules.specs.declared.kind.Kind.TheVariants as kinds
use Rattle.mp_modules.specs.declared.memory.Client.{Client}
use Rattle.mp_modules.specs.declared.memory.Client.TheVariants.{Nobody, First, Second}
use Rattle.mp_modules.specs.declared.memory.Memory.{Memory}
use Rattle.mp_modules.specs.declared.memory.Waiting.{Waiting}
use Rattle.mp_modules.specs.Clients.{is_same}
use Rattle.mp_modules.specs.Memories.{output_of}
use Rattle.mp_modules.specs.storage.AnyModules.{any_part_of, step}
use Rattle.mp_records.specs.declared.ports.Input.{Input}
use Rattle.mp_records.specs.Stimuli.{is_stimulus}
use Rattle.mp_wave.specs.Waveform.{level_from}
use Rattle.mp_modules.specs.Levels.{fits_width}
use Rattle.mp_steady.specs.WireSets.{has_wire, passes_on}
use Rattle.mp_steady.specs.Periods.{greatest, is_same_state, longest_input, repeats_from}

-- ---- lists

-- what holds of all wires holds of one of them
pub of_wire : (p : ℕ → Bool) (wires : List ℕ) (w : ℕ) → list_all p wires ≡ true → has_wire wires w ≡ true → p w ≡ true
of_wire p [] w all has = let no : ⊥ = cc in absurd no
of_wire p (v ∷ vs) w all has = by (cases_Bool (v == w)) (and_parts (p v) (list_all p vs) all).0 (λ here. of_wire p vs w (and_parts (p v) (list_all p vs) all).1 here)
  where
    by : ((v == w) ≡ true) ⊎ ((v == w) ≡ false) → p v ≡ true → (has_wire vs w ≡ true → p w ≡ true) → p w ≡ true
    by (inl same) first rest = subst (λ k. p k ≡ true) (eqb-true v w same) first
    by (inr other) first rest = rest (sym (ap (λ b. b || has_wire vs w) other) ∙ has)

fold_least : (a : ℕ) (xs : List ℕ) → a ≤ fold max a xs
fold_least a [] = omega arith
fold_least a (x ∷ xs) = omega (arith, fold_least (max a x) xs)

fold_more : (f : ℕ → ℕ) (wires : List ℕ) (a w : ℕ) → has_wire wires w ≡ true → f w ≤ fold max a (map f wires)
fold_more f [] a w has = let no : ⊥ = cc in absurd no
fold_more f (v ∷ vs) a w has = by (cases_Bool (v == w)) (λ here. fold_more f vs (max a (f v)) w here)
  where
    by : ((v == w) ≡ true) ⊎ ((v == w) ≡ false) → (has_wire vs w ≡ true → f w ≤ fold max (max a (f v)) (map f vs)) → f w ≤ fold max (max a (f v)) (map f vs)
    by (inl same) rest = let is : f v ≡ f w = ap f (eqb-true v w same) in omega (arith, is, fold_least (max a (f v)) (map f vs))
    by (inr other) rest = rest (sym (ap (λ b. b || has_wire vs w) other) ∙ has)

-- the greatest of all is no less than one of them
pub greatest_bounds : (f : ℕ → ℕ) (wires : List ℕ) (w : ℕ) → has_wire wires w ≡ true → f w ≤ greatest f wires
greatest_bounds f wires w has = fold_more f wires 0 w has

-- the delay of each of some inputs is no longer than the longest
each_short : (inputs : List Input) (a most : ℕ) → fold max a (map (λ (i : Input). i.delay) inputs) ≤ most → list_all (λ (i : Input). nat_le i.delay most) inputs ≡ true
each_short [] a most le = refl
each_short (i ∷ is) a most le =
    let low : i.delay ≤ most = omega (arith, fold_least (max a i.delay) (map (λ (j : Input). j.delay) is), le) in
    rw (le-leb i.delay most low) (each_short is (max a i.delay) most le)

-- ---- what holds of the inputs that an output depends on gives the same levels at them

pub all_same : (f g : Input → ℕ) (q : Input → Bool) (xs : List Input) → list_all q xs ≡ true → ((i : Input) → q i ≡ true → f i ≡ g i) → map f xs ≡ map g xs
all_same f g q [] all same = refl
all_same f g q (i ∷ is) all same =
    let parts = and_parts (q i) (list_all q is) all in
    ap (λ x. x ∷ map f is) (same i parts.0) ∙ ap (λ xs. g i ∷ xs) (all_same f g q is parts.1 same)

pub one_same : (f g : Input → ℕ) (q : Input → Bool) (xs : List Input) (p : ℕ) → list_all q (take 1 (drop p xs)) ≡ true → ((i : Input) → q i ≡ true → f i ≡ g i)
    → slice_index (map f xs) p ≡ slice_index (map g xs) p
one_same f g q [] p all same = refl
one_same f g q (i ∷ is) zero all same = same i (and_parts (q i) true all).0
one_same f g q (i ∷ is) (suc p) all same = one_same f g q is p all same

-- ---- outputs that pass an input on

pub passes_reg : (kind : Kind) (p : ℕ) → passes_on kind p ≡ true → (kind ≡ kinds.Reg) × (0 < p)
passes_reg kinds.Reg p is = (refl, ltb-true 0 p is)
passes_reg kinds.C p is = let no : ⊥ = cc in absurd no
passes_reg kinds.Toggle p is = let no : ⊥ = cc in absurd no
passes_reg kinds.Select p is = let no : ⊥ = cc in absurd no
passes_reg kinds.Call p is = let no : ⊥ = cc in absurd no
passes_reg kinds.Arbiter p is = let no : ⊥ = cc in absurd no
passes_reg (kinds.Function f) p is = let no : ⊥ = cc in absurd no

reg_outputs : (a b : ℕ) (x y : List ℕ) (p : ℕ) → 0 < p → slice_index x p ≡ slice_index y p
    → slice_index (a ∷ slice_index x 1 ∷ slice_index x 2 ∷ []) p ≡ slice_index (b ∷ slice_index y 1 ∷ slice_index y 2 ∷ []) p
reg_outputs a b x y zero some same = absurd (omega (arith, some))
reg_outputs a b x y (suc zero) some same = same
reg_outputs a b x y (suc (suc zero)) some same = same
reg_outputs a b x y (suc (suc (suc p))) some same = refl

-- after a step of a REG its cd and its pd have the levels of c and p
pub reg_passes : (params : List ℕ) (width : ℕ) (s t : Memory) (x y : List ℕ) (p : ℕ) → 0 < p → slice_index x p ≡ slice_index y p
    → output_of (step (any_part_of kinds.Reg params width) s x) p ≡ output_of (step (any_part_of kinds.Reg params width) t y) p
unfolding any_part_of step
reg_passes params width s t x y p some same = reg_outputs _ _ x y p some same

-- ---- states

same_client : (a b : Client) → is_same a b ≡ true → a ≡ b
same_client Nobody Nobody is = refl
same_client First First is = refl
same_client Second Second is = refl
same_client Nobody First is = let no : ⊥ = cc in absurd no
same_client Nobody Second is = let no : ⊥ = cc in absurd no
same_client First Nobody is = let no : ⊥ = cc in absurd no
same_client First Second is = let no : ⊥ = cc in absurd no
same_client Second Nobody is = let no : ⊥ = cc in absurd no
same_client Second First is = let no : ⊥ = cc in absurd no

same_bit : (a b : Bool) → beq a b ≡ true → a ≡ b
same_bit true true is = refl
same_bit false false is = refl
same_bit true false is = let no : ⊥ = cc in absurd no
same_bit false true is = let no : ⊥ = cc in absurd no

-- ---- levels

-- from where a level repeats, up to a time
pub repeats_level : (f : ℕ → ℕ) (units upto t : ℕ) → repeats_from f units upto ≤ t → t ≤ upto → f t ≡ f (t + units)
repeats_level f units zero t from low = by (cases_Bool (f 0 == f (0 + units)))
  where
    here : t ≡ 0
    here = omega (arith, low)

    by : ((f 0 == f (0 + units)) ≡ true) ⊎ ((f 0 == f (0 + units)) ≡ false) → f t ≡ f (t + units)
    by (inl same) = subst (λ k. f k ≡ f (k + units)) (sym here) (eqb-true (f 0) (f (0 + units)) same)
    by (inr other) = let one : repeats_from f units 0 ≡ 1 = ap (λ b. cond b 0 1) other in absurd (omega (arith, one, from, here))
repeats_level f units (suc upto) t from low = by (cases_Bool (f (suc upto) == f (suc upto + units))) (cases_lt t (suc upto)) (λ less sooner. repeats_level f units upto t less sooner)
  where
    by : ((f (suc upto) == f (suc upto + units)) ≡ true) ⊎ ((f (suc upto) == f (suc upto + units)) ≡ false) → (t < suc upto) ⊎ (suc upto ≤ t)
        → (repeats_from f units upto ≤ t → t ≤ upto → f t ≡ f (t + units)) → f t ≡ f (t + units)
    by (inl same) (inl sooner) before =
        let rest : repeats_from f units (suc upto) ≡ repeats_from f units upto = ap (λ b. cond b (repeats_from f units upto) (suc (suc upto))) same in
        before (omega (arith, rest, from)) (omega (arith, sooner))
    by (inl same) (inr last) before =
        let here : suc upto ≡ t = omega (arith, last, low) in
        subst (λ k. f k ≡ f (k + units)) here (eqb-true (f (suc upto)) (f (suc upto + units)) same)
    by (inr other) at before =
        let late : repeats_from f units (suc upto) ≡ suc (suc upto) = ap (λ b. cond b (repeats_from f units upto) (suc (suc upto))) other in
        absurd (omega (arith, late, from, low))

-- after the last unit a stimulus sets nothing
pub stimulus_over : (horizon width before initial : ℕ) (changes : List (ℕ × ℕ)) (t : ℕ) → is_stimulus horizon width before changes ≡ true → horizon - 1 ≤ t
    → level_from initial changes t ≡ level_from initial changes (horizon - 1)
unfolding is_stimulus
stimulus_over horizon width before initial [] t valid past = refl
stimulus_over horizon width before initial (change ∷ changes) t valid past =
    let first = and_parts (nat_lt before change.0 && nat_lt change.0 horizon && fits_width width change.1) (is_stimulus horizon width change.0 changes) valid in
    let second = and_parts (nat_lt before change.0 && nat_lt change.0 horizon) (fits_width width change.1) first.0 in
    let third = and_parts (nat_lt before change.0) (nat_lt change.0 horizon) second.0 in
    let low : change.0 < horizon = ltb-true change.0 horizon third.1 in
    let now : nat_le change.0 t ≡ true = le-leb change.0 t (omega (arith, low, past)) in
    let end : nat_le change.0 (horizon - 1) ≡ true = le-leb change.0 (horizon - 1) (omega (arith, low)) in
    ap (λ b. cond b (level_from change.1 changes t) initial) now ∙ stimulus_over horizon width change.0 change.1 changes t first.1 past
    ∙ sym (ap (λ b. cond b (level_from change.1 changes (horizon - 1)) initial) end)

pub same_state : (s t : Memory) → is_same_state s t ≡ true → s ≡ t
same_state s t is =
    let first = and_parts (bytes_eq s.inputs t.inputs && bytes_eq s.outputs t.outputs && is_same s.served t.served && beq s.waiting.first t.waiting.first) (beq s.waiting.second t.waiting.second) is in
    let second = and_parts (bytes_eq s.inputs t.inputs && bytes_eq s.outputs t.outputs && is_same s.served t.served) (beq s.waiting.first t.waiting.first) first.0 in
    let third = and_parts (bytes_eq s.inputs t.inputs && bytes_eq s.outputs t.outputs) (is_same s.served t.served) second.0 in
    let fourth = and_parts (bytes_eq s.inputs t.inputs) (bytes_eq s.outputs t.outputs) third.0 in
    let inputs : s.inputs ≡ t.inputs = (bytes_eq-Decides s.inputs t.inputs).0 fourth.0 in
    let outputs : s.outputs ≡ t.outputs = (bytes_eq-Decides s.outputs t.outputs).0 fourth.1 in
    let served : s.served ≡ t.served = same_client s.served t.served third.1 in
    let one : s.waiting.first ≡ t.waiting.first = same_bit s.waiting.first t.waiting.first second.1 in
    let other : s.waiting.second ≡ t.waiting.second = same_bit s.waiting.second t.waiting.second first.1 in
    let waiting : s.waiting ≡ t.waiting =
    ap (λ b. let w : Waiting = record { first = b; second = s.waiting.second } in w) one ∙ ap (λ b. let w : Waiting = record { first = t.waiting.first; second = b } in w) other in
    ap (λ x. let m : Memory = record { inputs = x; outputs = s.outputs; served = s.served; waiting = s.waiting } in m) inputs
    ∙ ap (λ x. let m : Memory = record { inputs = t.inputs; outputs = x; served = s.served; waiting = s.waiting } in m) outputs
    ∙ ap (λ x. let m : Memory = record { inputs = t.inputs; outputs = t.outputs; served = x; waiting = s.waiting } in m) served
    ∙ ap (λ x. let m : Memory = record { inputs = t.inputs; outputs = t.outputs; served = t.served; waiting = x } in m) waiting

-- what each of some inputs keeps, both keep
pub both_all : (p q : Input → Bool) (xs : List Input) → list_all p xs ≡ true → list_all q xs ≡ true → list_all (λ i. p i && q i) xs ≡ true
both_all p q [] one other = refl
both_all p q (i ∷ is) one other =
    let first = and_parts (p i) (list_all p is) one in
    let second = and_parts (q i) (list_all q is) other in
    let here : (p i && q i) ≡ true = rw (first.0, second.0) refl in
    rw here (both_all p q is first.1 second.1)

pub short_all : (inputs : List Input) (most : ℕ) → longest_input inputs ≤ most → list_all (λ (i : Input). nat_le i.delay most) inputs ≡ true
short_all inputs most le = each_short inputs 0 most le
