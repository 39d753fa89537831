-- Each step keeps the rule of an answer channel.
use Rattle.std.proofs.Common.{◌≡◌, ◌≢◌, ◌⊎◌, ℕ, zero, suc, List, [], ◌∷◌, ◌++◌, length, set, refl, sym, ap, ◌∙◌, subst, ⊎_elim, inl, inr}
use mathlib.Core.Option.{some, some-ne-none, some-injective}
use lib.ListN.{get_elem?}
use Rattle.crossbeam_channel.specs.Fifo.{Pushes, Pops, Forks, Merges}
use Rattle.atomic_table.proofs.Lists.{at_set}
use Rattle.mp_phase.specs.declared.side.Side.{Side}
use Rattle.mp_phase.specs.declared.side.Side.TheVariants.{Idle, Asks, Owes, Spent}
use Rattle.mp_phase.specs.AnswerProtocols.{Stage, idle, out, back, held, Answer, IsAnswerTo, IsIdle, IsAsked, IsOut, Fits, Kept, Taken}

module _ {T X : Type 0} where
  idle_items : (s : Stage T X) → IsIdle s → held s ≡ []
  idle_items idle i = refl
  idle_items (out p) i = absurd i
  idle_items (back p y) i = absurd i

  out_items : (o : List T) (s : Stage T X) → IsOut o s → held s ≡ []
  out_items o idle i = absurd i
  out_items o (out p) i = refl
  out_items o (back p y) i = absurd i

  not_both : (o : List T) (s : Stage T X) → IsIdle s → IsOut o s → ⊥
  not_both o idle i t = t
  not_both o (out p) i t = i
  not_both o (back p y) i t = t

module _ {A : Type 0} where
  snoc : (l : List A) (a b : A) (j : ℕ) → get_elem? (l ++ a ∷ []) j ≡ some b → (get_elem? l j ≡ some b) ⊎ ((j ≡ length l) × (a ≡ b))
  snoc [] a b zero e = inr (refl, some-injective a b e)
  snoc [] a b (suc j) e = absurd (some-ne-none b (sym e))
  snoc (x ∷ xs) a b zero e = inl e
  snoc (x ∷ xs) a b (suc j) e = ⊎_elim (λ t. inl t) (λ t. inr (ap suc t.0, t.1)) (snoc xs a b j e)

  abbrev first_of : A → List A → A
  first_of z [] = z
  first_of z (x ∷ xs) = x

  abbrev rest_of : List A → List A
  rest_of [] = []
  rest_of (x ∷ xs) = xs

  abbrev is_some : List A → Type 0
  is_some [] = ⊥
  is_some (x ∷ xs) = Unit {0}

abbrev order_of : {T : Type 0} → List T → Side T → List T
order_of o Idle = o
order_of o (Asks p) = p
order_of o (Owes p) = p
order_of o Spent = o

module _ {T D : Type 0} (gives : T → D → Type 0) where
  fits_set : (asker owner : ℕ) (s : Stage T (Answer D)) (views : List (Side T)) (by : ℕ) (w : Side T) → ((j : ℕ) (u : Side T) → j ≢ by → get_elem? views j ≡ some u → Fits gives asker owner s j u) → Fits gives asker owner s by w →
      (j : ℕ) (u : Side T) → get_elem? (set views by w) j ≡ some u → Fits gives asker owner s j u
  fits_set asker owner s views by w others mine j u e =
      ⊎_elim
      (λ (x : (j ≡ by) × (w ≡ u)). subst (λ (y : ℕ × Side T). Fits gives asker owner s y.0 y.1) (λ i. (sym x.0 i, x.1 i)) mine)
      (λ (x : (j ≢ by) × (get_elem? views j ≡ some u)). others j u x.0 x.1)
      (at_set views by j w u e)

  pub begins : Kept gives [] (Idle ∷ [])
  begins = (0, 0, idle, refl, one)
    where
      one : (j : ℕ) (v : Side T) → get_elem? (Idle ∷ []) j ≡ some v → Fits gives 0 0 idle j v
      one zero v e = subst (Fits gives 0 0 idle 0) (some-injective _ _ e) (refl, tt)
      one (suc j) v e = absurd (some-ne-none v (sym e))

  idle_others : (asker owner : ℕ) (s : Stage T (Answer D)) (j : ℕ) (u : Side T) → IsIdle s → j ≢ asker → Fits gives asker owner s j u → u ≡ Spent
  idle_others asker owner s j Idle i n f = absurd (n f.0)
  idle_others asker owner s j (Asks o) i n f = absurd (n f.0)
  idle_others asker owner s j (Owes o) i n f = absurd (not_both o s i f.1)
  idle_others asker owner s j Spent i n f = refl

  pub forks : (by : ℕ) (v : Side T) (o : List T) → v ≡ Idle → Forks (Kept gives) by v (Asks o) (Owes o)
  forks by v o is items views h at =
      let mine : Fits gives h.0 h.1 h.2 by Idle = subst (Fits gives h.0 h.1 h.2 by) is (h.4 by v at) in
      let vs : List (Side T) = set views by (Asks o) in
      let owner = length vs in
      let old : (j : ℕ) (u : Side T) → get_elem? vs j ≡ some u → Fits gives h.0 owner (out o) j u =
      fits_set h.0 owner (out o) views by (Asks o)
      (λ j u apart e. subst (Fits gives h.0 owner (out o) j) (sym (idle_others h.0 h.1 h.2 j u mine.1 (λ same. apart (same ∙ sym mine.0)) (h.4 j u e))) tt)
      (mine.0, refl) in (
        h.0,
        owner,
        out o,
        h.3 ∙ idle_items h.2 mine.1,
        λ j u e. ⊎_elim (λ x. old j u x) (λ (x : (j ≡ owner) × (Owes o ≡ u)). subst (Fits gives h.0 owner (out o) j) x.1 (x.0, refl)) (snoc vs (Owes o) u j e),
      )

  after_push : (asker owner : ℕ) (s : Stage T (Answer D)) (o : List T) (x : Answer D) (j : ℕ) (u : Side T) → IsOut o s → IsAnswerTo gives o x → j ≢ owner → Fits gives asker owner s j u → Fits gives asker owner (back o x) j u
  after_push asker owner s o x j Idle t is n f = absurd (not_both o s f.1 t)
  after_push asker owner idle o x j (Asks p) t is n f = absurd t
  after_push asker owner (out q) o x j (Asks p) t is n f = (f.0, subst (λ r. IsAnswerTo gives r x) (sym t ∙ f.1) is)
  after_push asker owner (back q y) o x j (Asks p) t is n f = absurd t
  after_push asker owner s o x j (Owes p) t is n f = absurd (n f.0)
  after_push asker owner s o x j Spent t is n f = tt

  pub pushes : (n by : ℕ) (v : Side T) (o : List T) (x : Answer D) → v ≡ Owes o → IsAnswerTo gives o x → Pushes (Kept gives) n by v x (λ w. w ≡ Spent)
  pushes n by v o x same is items views room h at =
      let mine : Fits gives h.0 h.1 h.2 by (Owes o) = subst (Fits gives h.0 h.1 h.2 by) same (h.4 by v at) in (
        Spent,
        (
          h.0,
          h.1,
          back o x,
          ap (λ l. l ++ x ∷ []) (h.3 ∙ out_items o h.2 mine.1),
          fits_set h.0 h.1 (back o x) views by Spent (λ j u apart e. after_push h.0 h.1 h.2 o x j u mine.1 is (λ k. apart (k ∙ sym mine.0)) (h.4 j u e)) tt,
        ),
        refl,
      )

  taken : (s : Stage T (Answer D)) (o : List T) (x : Answer D) (items : List (Answer D)) → x ∷ items ≡ held s → IsAsked gives o s → (items ≡ []) × IsAnswerTo gives o x
  taken idle o x items e a = absurd a
  taken (out p) o x items e a = absurd (subst is_some e tt)
  taken (back p y) o x items e a = (ap rest_of e, subst (IsAnswerTo gives o) (sym (ap (first_of x) e)) a)

  after_pop : (asker owner : ℕ) (s : Stage T (Answer D)) (x : Answer D) (items : List (Answer D)) (j : ℕ) (u : Side T) → x ∷ items ≡ held s → j ≢ asker → Fits gives asker owner s j u → Fits gives asker owner idle j u
  after_pop asker owner s x items j Idle e n f = absurd (n f.0)
  after_pop asker owner s x items j (Asks o) e n f = absurd (n f.0)
  after_pop asker owner idle x items j (Owes o) e n f = absurd f.1
  after_pop asker owner (out p) x items j (Owes o) e n f = absurd (subst is_some e tt)
  after_pop asker owner (back p y) x items j (Owes o) e n f = absurd f.1
  after_pop asker owner s x items j Spent e n f = tt

  pub pops : (by : ℕ) (v : Side T) (o : List T) → v ≡ Asks o → Pops (Kept gives) by v (Taken gives v)
  pops by v o same x items views h at =
      let mine : Fits gives h.0 h.1 h.2 by (Asks o) = subst (Fits gives h.0 h.1 h.2 by) same (h.4 by v at) in
      let got = taken h.2 o x items h.3 mine.1 in (
        Idle,
        (
          h.0,
          h.1,
          idle,
          got.0,
          fits_set h.0 h.1 idle views by Idle (λ j u apart e. after_pop h.0 h.1 h.2 x items j u h.3 (λ k. apart (k ∙ sym mine.0)) (h.4 j u e)) (mine.0, tt),
        ),
        (refl, λ p e. subst (λ r. IsAnswerTo gives r x) (ap (order_of o) (sym same ∙ e)) got.1),
      )

  after_merge : (asker owner by other : ℕ) (s : Stage T (Answer D)) (o : List T) (j : ℕ) (u : Side T) → IsOut o s → by ≡ asker → other ≡ owner → j ≢ by → j ≢ other → Fits gives asker owner s j u → Fits gives asker owner idle j u
  after_merge asker owner by other s o j Idle t a b n m f = absurd (not_both o s f.1 t)
  after_merge asker owner by other s o j (Asks p) t a b n m f = absurd (n (f.0 ∙ sym a))
  after_merge asker owner by other s o j (Owes p) t a b n m f = absurd (m (f.0 ∙ sym b))
  after_merge asker owner by other s o j Spent t a b n m f = tt

  pub merges : (by : ℕ) (v : Side T) (other : ℕ) (w : Side T) (o : List T) → v ≡ Asks o → w ≡ Owes o → Merges (Kept gives) by v other w Idle Spent
  merges by v other w o same owes items views h at apart there =
      let vs : List (Side T) = set views by Idle in
      let mine : Fits gives h.0 h.1 h.2 by (Asks o) = subst (Fits gives h.0 h.1 h.2 by) same (h.4 by v at) in
      let was : get_elem? views other ≡ some w = ⊎_elim (λ (x : (other ≡ by) × (Idle ≡ w)). absurd (apart x.0)) (λ (x : (other ≢ by) × (get_elem? views other ≡ some w)). x.1) (at_set views by other Idle w there) in
      let theirs : Fits gives h.0 h.1 h.2 other (Owes o) = subst (Fits gives h.0 h.1 h.2 other) owes (h.4 other w was) in (
        h.0,
        h.1,
        idle,
        h.3 ∙ out_items o h.2 theirs.1,
        fits_set h.0 h.1 idle vs other Spent
            (λ j u n e. ⊎_elim
            (λ (x : (j ≡ by) × (Idle ≡ u)). subst (Fits gives h.0 h.1 idle j) x.1 (x.0 ∙ mine.0, tt))
            (λ (x : (j ≢ by) × (get_elem? views j ≡ some u)). after_merge h.0 h.1 by other h.2 o j u theirs.1 mine.0 theirs.0 x.0 n (h.4 j u x.1))
            (at_set views by j Idle u e))
            tt,
      )
