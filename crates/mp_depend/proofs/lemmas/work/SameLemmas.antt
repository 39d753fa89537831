-- What isn't different is the same.
use Rattle.std.proofs.Common.{◌≡◌, ◌≢◌, ◌⊎◌, ℕ, ◌<◌, ◌≤◌, Bool, true, false, List, zero, suc, refl, ap, subst, ◌∙◌, arith, inl, inr}
use Rattle.std.specs.Str.{bytes_eq}
use Rattle.std.proofs.lemmas.Bool.{cases_Bool, cases_lt}
use Rattle.std.proofs.lemmas.Slice.Eq.{bytes_eq-Decides}
use Rattle.mp_modules.specs.declared.memory.Memory.{Memory}
use Rattle.mp_modules.specs.declared.memory.Waiting.{Waiting}
use Rattle.mp_modules.specs.declared.memory.Client.{Client}
use Rattle.mp_modules.specs.declared.memory.Client.TheVariants.{Nobody, First, Second}

-- two things are the same or not
abbrev pub Same : {A : Type 0} → A → A → Type 0
Same x y = (x ≡ y) ⊎ (x ≢ y)

pub same : {A : Type 0} (x y : A) → Same x y → (x ≢ y → ⊥) → x ≡ y
same x y (inl is) not = is
same x y (inr differ) not = absurd (not differ)

pub same_lists : (xs ys : List ℕ) → Same xs ys
same_lists xs ys = elim (cases_Bool (bytes_eq xs ys)) as (λ _. Same xs ys) [
  | inl is ↦ inl ((bytes_eq-Decides xs ys).0 is)
  | inr not ↦ inr (λ e. let is = (bytes_eq-Decides xs ys).1 e in cc)
]

same_bools : (x y : Bool) → Same x y
same_bools true true = inl refl
same_bools true false = inr (λ e. cc)
same_bools false true = inr (λ e. cc)
same_bools false false = inl refl

same_clients : (x y : Client) → Same x y
same_clients Nobody Nobody = inl refl
same_clients Nobody First = inr (λ e. cc)
same_clients Nobody Second = inr (λ e. cc)
same_clients First Nobody = inr (λ e. cc)
same_clients First First = inl refl
same_clients First Second = inr (λ e. cc)
same_clients Second Nobody = inr (λ e. cc)
same_clients Second First = inr (λ e. cc)
same_clients Second Second = inl refl

-- both of two things are the same, or not both
both : {A B : Type 0} (x y : A) (u v : B) → Same x y → Same u v → ((x ≡ y) × (u ≡ v)) ⊎ ((x ≡ y) × (u ≡ v) → ⊥)
both x y u v (inl a) (inl b) = inl (a, b)
both x y u v (inl a) (inr b) = inr (λ e. b e.1)
both x y u v (inr a) b = inr (λ e. a e.0)

same_waiting : (x y : Waiting) → Same x y
same_waiting x y = elim (both x.first y.first x.second y.second (same_bools x.first y.first) (same_bools x.second y.second)) as (λ _. Same x y) [
  | inl e ↦ inl (ap (λ f. let w : Waiting = record { first = f; second = x.second } in w) e.0 ∙ ap (λ s. let w : Waiting = record { first = y.first; second = s } in w) e.1)
  | inr not ↦ inr (λ e. not (ap (λ (w : Waiting). w.first) e, ap (λ (w : Waiting). w.second) e))
]

abbrev memory_of : List ℕ → List ℕ → Client → Waiting → Memory
memory_of i o s w = record { inputs = i; outputs = o; served = s; waiting = w }

pub same_memories : (x y : Memory) → Same x y
same_memories x y =
    elim (both x.inputs y.inputs x.outputs y.outputs (same_lists x.inputs y.inputs) (same_lists x.outputs y.outputs)) as (λ _. Same x y) [
      | inl ports ↦ elim (both x.served y.served x.waiting y.waiting (same_clients x.served y.served) (same_waiting x.waiting y.waiting)) as (λ _. Same x y) [
        | inl clients ↦ inl (
            ap (λ i. memory_of i x.outputs x.served x.waiting) ports.0 ∙ ap (λ o. memory_of y.inputs o x.served x.waiting) ports.1
            ∙ ap (λ s. memory_of y.inputs y.outputs s x.waiting) clients.0 ∙ ap (memory_of y.inputs y.outputs y.served) clients.1)
        | inr not ↦ inr (λ e. not (ap (λ (s : Memory). s.served) e, ap (λ (s : Memory). s.waiting) e))
      ]
      | inr not ↦ inr (λ e. not (ap (λ (s : Memory). s.inputs) e, ap (λ (s : Memory). s.outputs) e))
    ]

-- at each time of a span something holds, or at one its contrary
pub search_span : (P : ℕ → Type 0) → ((t : ℕ) → P t ⊎ (P t → ⊥)) → (a b : ℕ) → ((t : ℕ) × (a ≤ t) × (t < b) × P t) ⊎ ((t : ℕ) → a ≤ t → t < b → P t → ⊥)
search_span P decide a zero = inr (λ t from below holds. let no : ⊥ = omega arith in no)
search_span P decide a (suc b) = elim (search_span P decide a b) as (λ _. ((t : ℕ) × (a ≤ t) × (t < suc b) × P t) ⊎ ((t : ℕ) → a ≤ t → t < suc b → P t → ⊥)) [
  | inl found ↦ inl (found.0, found.1, omega (arith, found.2), found.3)
  | inr none ↦ elim (cases_lt b a) as (λ _. ((t : ℕ) × (a ≤ t) × (t < suc b) × P t) ⊎ ((t : ℕ) → a ≤ t → t < suc b → P t → ⊥)) [
    | inl less ↦ inr (λ t from below holds. let no : ⊥ = omega arith in no)
    | inr more ↦ elim (decide b) as (λ _. ((t : ℕ) × (a ≤ t) × (t < suc b) × P t) ⊎ ((t : ℕ) → a ≤ t → t < suc b → P t → ⊥)) [
      | inl is ↦ inl (b, more, omega arith, is)
      | inr not ↦ inr (not_last P a b none not)
    ]
  ]
]
  where
    not_last : (P : ℕ → Type 0) (a b : ℕ) → ((t : ℕ) → a ≤ t → t < b → P t → ⊥) → (P b → ⊥) → (t : ℕ) → a ≤ t → t < suc b → P t → ⊥
    not_last P a b none not t from below holds = elim (cases_lt t b) as (λ _. ⊥) [
      | inl less ↦ none t from less holds
      | inr last ↦ let e : t ≡ b = omega arith in not (subst P e holds)
    ]
