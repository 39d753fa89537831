-- Logs of entries, each of whose stories has one edit more than the one before.
use Rattle.std.proofs.Common.{◌≡◌, ℕ, ◌+◌, ◌≤◌, ◌<◌, ◌⊎◌, inl, inr, ⊎_elim, List, [], ◌∷◌, ◌++◌, map, length, refl, ap, sym, ◌∙◌, subst, arith, length-append, append_assoc}
use Rattle.std.proofs.lemmas.List.{map-append}
use mathlib.Core.List.{IsPrefix}
use Rattle.mp_version.specs.Stories.{Story}
use Rattle.mp_version.specs.Extending.{Extends, Succeeds}
use Rattle.mp_version.specs.declared.publication.chronicle.HistoryEntry.{HistoryEntry}
use Rattle.mp_version.proofs.PrefixLemmas.{prefix_self, prefix_whole, extends_self, extends_trans, extends_length, extends_whole}
use Rattle.mp_version.specs.publication.Chronicles.{last_of, latest, unsigned, authors, mark, ChainFrom, Chain, MayAdd}

-- of two beginnings of one list, one begins the other
prefix_either : {A : Type 0} (xs ys zs : List A) → IsPrefix xs zs → IsPrefix ys zs → IsPrefix xs ys ⊎ IsPrefix ys xs
prefix_either [] ys zs p q = inl (ys, refl)
prefix_either (x ∷ xs) [] zs p q = inr (x ∷ xs, refl)
prefix_either (x ∷ xs) (y ∷ ys) [] p q = absurd (cc (p.1))
prefix_either {A} (x ∷ xs) (y ∷ ys) (z ∷ zs) p q =
    let heads : x ≡ y = cc (p.1, q.1) in
    ⊎_elim (λ (r : IsPrefix xs ys). inl (r.0, cc (heads, r.1))) (λ (r : IsPrefix ys xs). inr (r.0, cc (heads, r.1)))
    (prefix_either xs ys zs (p.0, cc (p.1)) (q.0, cc (q.1)))

-- a list begins another that has one element more, and is no longer than the other: so it begins the other
pub prefix_before : {A : Type 0} (xs ys : List A) (y : A) → IsPrefix xs (ys ++ y ∷ []) → length xs ≤ length ys → IsPrefix xs ys
prefix_before xs ys y p le =
    ⊎_elim (λ (r : IsPrefix xs ys). r) (λ (r : IsPrefix ys xs). subst (IsPrefix xs) (sym (prefix_whole ys xs r le)) (prefix_self xs)) (prefix_either xs ys (ys ++ y ∷ []) p (y ∷ [], refl))

-- ---- chains

-- the end of a chain extends its start
pub chain_extends : (s : Story) (xs : List HistoryEntry) → ChainFrom s xs → Extends (last_of s xs) s
chain_extends s [] h = extends_self s
chain_extends s (x ∷ xs) h = extends_trans (last_of x.version xs) x.version s (chain_extends x.version xs h.1) h.0.extends

-- the end of a chain has an edit more for each entry
chain_count : (s : Story) (xs : List HistoryEntry) → ChainFrom s xs → length (last_of s xs).edits ≡ length s.edits + length xs
chain_count s [] h = omega arith
chain_count s (x ∷ xs) h = omega (arith, chain_count x.version xs h.1, h.0.one_more)

-- the end of a chain extends the end of each beginning
chain_begins : (s : Story) (xs ys : List HistoryEntry) → ChainFrom s ys → IsPrefix xs ys → Extends (last_of s ys) (last_of s xs)
chain_begins s [] ys h p = chain_extends s ys h
chain_begins s (x ∷ xs) [] h p = absurd (cc (p.1))
chain_begins s (x ∷ xs) (y ∷ ys) h p =
    let heads : x ≡ y = cc (p.1) in
    subst (λ (z : HistoryEntry). Extends (last_of y.version ys) (last_of z.version xs)) (sym heads) (chain_begins y.version xs ys h.1 (p.0, cc (p.1)))

-- a beginning of a chain is one
chain_part : (s : Story) (xs ys : List HistoryEntry) → ChainFrom s ys → IsPrefix xs ys → ChainFrom s xs
chain_part s [] ys h p = tt
chain_part s (x ∷ xs) [] h p = absurd (cc (p.1))
chain_part s (x ∷ xs) (y ∷ ys) h p =
    let heads : x ≡ y = cc (p.1) in
    subst (λ (z : HistoryEntry). Succeeds z.version s × ChainFrom z.version xs) (sym heads) (h.0, chain_part y.version xs ys h.1 (p.0, cc (p.1)))

latest_begins : (xs ys : List HistoryEntry) → Chain ys → 0 < length xs → IsPrefix xs ys → Extends (latest ys) (latest xs)
latest_begins [] ys h some p = absurd (omega arith)
latest_begins (x ∷ xs) [] h some p = absurd (cc (p.1))
latest_begins (x ∷ xs) (y ∷ ys) h some p =
    let heads : x ≡ y = cc (p.1) in
    subst (λ (z : HistoryEntry). Extends (last_of y.version ys) (last_of z.version xs)) (sym heads) (chain_begins y.version xs ys h (p.0, cc (p.1)))

part : (xs ys : List HistoryEntry) → Chain ys → IsPrefix xs ys → Chain xs
part [] ys h p = tt
part (x ∷ xs) [] h p = absurd (cc (p.1))
part (x ∷ xs) (y ∷ ys) h p =
    let heads : x ≡ y = cc (p.1) in
    subst (λ (z : HistoryEntry). ChainFrom z.version xs) (sym heads) (chain_part y.version xs ys h (p.0, cc (p.1)))

-- of two stories of one chain the longer extends the shorter
pub longer_extends : (xs ys zs : List HistoryEntry) → Chain zs → 0 < length xs → 0 < length ys → IsPrefix xs zs → IsPrefix ys zs → length (latest ys).edits ≤ length (latest xs).edits → Extends (latest xs) (latest ys)
longer_extends xs ys zs h some some' p q le =
    ⊎_elim
    (λ (r : IsPrefix xs ys).
    let up : Extends (latest ys) (latest xs) = latest_begins xs ys (part ys zs h q) some r in
    let long : length (latest xs).edits ≤ length (latest ys).edits = extends_length (latest ys) (latest xs) up in
    let same : latest ys ≡ latest xs = extends_whole (latest ys) (latest xs) up (omega (arith, long, le)) in
    subst (λ (z : Story). Extends z (latest ys)) same (extends_self (latest ys)))
    (λ (r : IsPrefix ys xs). latest_begins ys xs (part xs zs h p) some' r)
    (prefix_either xs ys zs p q)

-- a beginning with the same mark is the whole
pub same_log : (v log : List HistoryEntry) → Chain log → IsPrefix v log → mark log ≡ mark v → v ≡ log
same_log [] [] h p same = refl
same_log [] (z ∷ zs) h p same = absurd (omega (arith, same))
same_log (x ∷ xs) [] h p same = absurd (cc (p.1))
same_log (x ∷ xs) (z ∷ zs) h p same =
    let heads : x ≡ z = cc (p.1) in
    let all = chain_count z.version zs h in
    let some = chain_count x.version xs (part (x ∷ xs) (z ∷ zs) h p) in
    let first : length x.version.edits ≡ length z.version.edits = ap (λ (e : HistoryEntry). length e.version.edits) heads in
    prefix_whole (x ∷ xs) (z ∷ zs) p (omega (arith, all, some, first, same))

-- ---- one entry more

last_snoc : (s : Story) (y : HistoryEntry) (xs : List HistoryEntry) → last_of s (xs ++ y ∷ []) ≡ y.version
last_snoc s y [] = refl
last_snoc s y (x ∷ xs) = last_snoc x.version y xs

chain_snoc : (s : Story) (y : HistoryEntry) (xs : List HistoryEntry) → ChainFrom s xs → Succeeds y.version (last_of s xs) → ChainFrom s (xs ++ y ∷ [])
chain_snoc s y [] h up = (up, tt)
chain_snoc s y (x ∷ xs) h up = (h.0, chain_snoc x.version y xs h.1 up)

pub latest_added : (log : List HistoryEntry) (y : HistoryEntry) → latest (log ++ y ∷ []) ≡ y.version
latest_added [] y = refl
latest_added (x ∷ xs) y = last_snoc x.version y xs

pub mark_added : (log : List HistoryEntry) (y : HistoryEntry) → mark (log ++ y ∷ []) ≡ length y.version.edits + 1
mark_added [] y = refl
mark_added (x ∷ xs) y = ap (λ (s : Story). length s.edits + 1) (last_snoc x.version y xs)

pub chain_added : (log : List HistoryEntry) (y : HistoryEntry) → Chain log → MayAdd log y.version → Chain (log ++ y ∷ [])
chain_added [] y h may = tt
chain_added (x ∷ xs) y h may = chain_snoc x.version y xs h may

pub some_added : (log : List HistoryEntry) (y : HistoryEntry) → 0 < length (log ++ y ∷ [])
some_added log y = omega (arith, length-append log (y ∷ []))

-- ---- authors

pub authors_added : (log : List HistoryEntry) (y : HistoryEntry) → 0 < length log → authors (log ++ y ∷ []) ≡ authors log ++ y.author ∷ []
authors_added [] y some = absurd (omega (arith, some))
authors_added (x ∷ xs) y some =
    ap (λ l. unsigned x.version ++ l) (map-append (λ (e : HistoryEntry). e.author) xs (y ∷ [])) ∙ sym (append_assoc (unsigned x.version) (map (λ (e : HistoryEntry). e.author) xs) (y.author ∷ []))

authors_begin : (xs ys : List HistoryEntry) → 0 < length xs → IsPrefix xs ys → IsPrefix (authors xs) (authors ys)
authors_begin [] ys some p = absurd (omega (arith, some))
authors_begin (x ∷ xs) ys some p =
    let of : List HistoryEntry → List ℕ = map (λ (e : HistoryEntry). e.author) in
    subst (λ (l : List HistoryEntry). IsPrefix (authors (x ∷ xs)) (authors l)) p.1
    (of p.0, append_assoc (unsigned x.version) (of xs) (of p.0) ∙ ap (λ l. unsigned x.version ++ l) (sym (map-append (λ (e : HistoryEntry). e.author) xs p.0)))

-- of the authors of two beginnings of one log the longer ones begin with the shorter
pub authors_agree : (xs ys zs : List HistoryEntry) → 0 < length xs → 0 < length ys → IsPrefix xs zs → IsPrefix ys zs → length (authors ys) ≤ length (authors xs) → IsPrefix (authors ys) (authors xs)
authors_agree xs ys zs some some' p q le =
    ⊎_elim
    (λ (r : IsPrefix (authors xs) (authors ys)). subst (IsPrefix (authors ys)) (sym (prefix_whole (authors xs) (authors ys) r le)) (prefix_self (authors ys)))
    (λ (r : IsPrefix (authors ys) (authors xs)). r)
    (prefix_either (authors xs) (authors ys) (authors zs) (authors_begin xs zs some p) (authors_begin ys zs some' q))
