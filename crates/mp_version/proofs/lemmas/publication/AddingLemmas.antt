-- The exchange that adds an entry keeps the rule of the history.
use Rattle.std.proofs.Common.{◌≡◌, ℕ, ◌+◌, ◌<◌, ◌==◌, Bool, true, false, List, [], ◌∷◌, ◌++◌, length, refl, ap, sym, ◌∙◌, subst, arith, inl, None}
use Rattle.std.proofs.lemmas.List.{append-nil}
use Rattle.std.proofs.lemmas.Bool.Decides.{nat_tests}
use mathlib.Core.List.{IsPrefix}
use prog.Atomic.{either}
use Rattle.logbook.specs.Pages.{Cell, cell, keeps, no_nib, step, Moves, Goes}
use Rattle.mp_version.specs.declared.publication.chronicle.HistoryEntry.{HistoryEntry}
use Rattle.mp_version.specs.publication.Chronicles.{latest, authors, mark, Chain, MayAdd, IsKept, Adds}
use Rattle.mp_version.proofs.lemmas.publication.ChainLemmas.{same_log, latest_added, mark_added, chain_added, some_added, authors_added}

abbrev pub shown : List HistoryEntry → List HistoryEntry
shown log = []

abbrev pub moved : List HistoryEntry → List HistoryEntry → ℕ → Type 0
moved xs ys n = Unit {0}

pub adds_goes : (log v : List HistoryEntry) (y : HistoryEntry) (old : ℕ) → mark v ≡ old → MayAdd v y.version → Chain log → IsPrefix v log
    → (b : Bool) → (mark log == old) ≡ b
    → Goes IsKept shown moved 0 (v, (no_nib, None)) (λ n. either (n == old) (length y.version.edits + 1) n) (Adds (step 0 old (length y.version.edits + 1) y) (v, (no_nib, None))) ((mark log, true) ∷ (0, true) ∷ []) log
adds_goes log v y old at may chain pre true is =
    let here : mark log ≡ old = grind (arith, nat_tests) in
    let same : v ≡ log = same_log v log chain pre (here ∙ sym at) in
    let may' : MayAdd log y.version = subst (λ (l : List HistoryEntry). MayAdd l y.version) same may in
    let n : either (mark log == old) (length y.version.edits + 1) (mark log) ≡ mark (log ++ y ∷ []) = rw is (sym (mark_added log y)) in (
      keeps,
      y ∷ [],
      None,
      tt,
      record { words = ap (λ (k : ℕ). (k, true) ∷ (0, true) ∷ []) n; chain = chain_added log y chain may' },
      inl (refl, refl),
      rw is (ap (λ (l : List HistoryEntry). l ++ y ∷ []) (sym same)),
    )
adds_goes log v y old at may chain pre false is =
    let all : log ++ [] ≡ log = append-nil log in
    let n : either (mark log == old) (length y.version.edits + 1) (mark log) ≡ mark (log ++ []) = rw is (ap mark (sym all)) in (
      keeps,
      [],
      None,
      tt,
      record { words = ap (λ (k : ℕ). (k, true) ∷ (0, true) ∷ []) n; chain = subst Chain (sym all) chain },
      inl (refl, refl),
      rw is tt,
    )

-- whatever the history is, the exchange adds the entry, or finds that the history is longer
pub adds_moves : (v : List HistoryEntry) (y : HistoryEntry) (old : ℕ) → mark v ≡ old → MayAdd v y.version
    → Moves IsKept shown moved 0 (v, (no_nib, None)) (λ n. either (n == old) (length y.version.edits + 1) n) (Adds (step 0 old (length y.version.edits + 1) y) (v, (no_nib, None)))
adds_moves v y old at may cs log kept pre away =
    let P : List Cell → Type 0 = λ c. (0 < length c) × ((cell c 0).1 ≡ true) × Goes IsKept shown moved 0 (v, (no_nib, None)) (λ n. either (n == old) (length y.version.edits + 1) n) (Adds (step 0 old (length y.version.edits + 1) y) (v, (no_nib, None))) c log in
    subst P (sym kept.words) (omega arith, refl, adds_goes log v y old at may kept.chain pre (mark log == old) refl)

-- what is seen of a history to which an entry was added
module _ (log log' : List HistoryEntry) (y : HistoryEntry) (is : log' ≡ log ++ y ∷ []) where
  pub some_in : 0 < length log'
  some_in = subst (λ (l : List HistoryEntry). 0 < length l) (sym is) (some_added log y)

  pub latest_in : latest log' ≡ y.version
  latest_in = ap latest is ∙ latest_added log y

  pub authors_in : 0 < length log → authors log' ≡ authors log ++ y.author ∷ []
  authors_in some = ap authors is ∙ authors_added log y some
