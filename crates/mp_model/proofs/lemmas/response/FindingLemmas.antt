-- Lemmas on the findings of a unit.
use Rattle.std.proofs.Common.{◌≡◌, ℕ, ◌+◌, ◌<◌, Bool, true, false, cond, List, [], ◌∷◌, ◌++◌, map, take, length, get_or, refl, ap, sym, ◌∙◌, append_assoc, append-nil}
use Rattle.std.specs.List.{filter}
use Rattle.std.proofs.lemmas.List.{map-append}
use Rattle.std.proofs.lemmas.List.Elements.{filter_more}
use lib.Pointwise.{pointwise}
use mathlib.Core.Bool.{beq}
use Rattle.std.proofs.Common.{true≢false}
use Rattle.mp_modules.specs.Findings.{no_findings, has_code, by_number}
use Rattle.mp_modules.specs.declared.finding_code.FindingCode.{FindingCode}
use Rattle.mp_modules.specs.declared.finding_set.FindingSet.{FindingSet}
use Rattle.mp_model.specs.response.Span.{findings_of}

-- those codes of a list that are in a set, each with a time
unfoldable pub findings_among : ℕ → FindingSet → List FindingCode → List (ℕ × FindingCode)
findings_among t set codes = map (λ code. (t, code)) (filter (has_code set) codes)

pub findings_among-none : (t : ℕ) (set : FindingSet) → findings_among t set [] ≡ []
unfolding findings_among
findings_among-none t set = refl

pub findings_among-all : (t : ℕ) (set : FindingSet) → findings_among t set by_number ≡ findings_of t set
unfolding findings_among findings_of
findings_among-all t set = refl

one_more : (found : Bool) (t : ℕ) (code : FindingCode) → map (λ (c : FindingCode). let pair : ℕ × FindingCode = (t, c) in pair) (cond found (code ∷ []) []) ≡ cond found ((t, code) ∷ []) []
one_more true t code = refl
one_more false t code = refl

-- one code more
pub findings_among-more : (t : ℕ) (set : FindingSet) (codes : List FindingCode) (place : ℕ) (code d : FindingCode) → place < length codes → code ≡ get_or codes place d → findings_among t set (take (place + 1) codes) ≡ findings_among t set (take place codes) ++ cond (has_code set code) ((t, code) ∷ []) []
unfolding findings_among
findings_among-more t set codes place code d lt is =
    ap (map (λ c. (t, c))) (filter_more (has_code set) codes place d lt)
    ∙ map-append (λ c. (t, c)) (filter (has_code set) (take place codes)) (cond (has_code set (get_or codes place d)) (get_or codes place d ∷ []) [])
    ∙ ap (λ (c : FindingCode). map (λ (e : FindingCode). let pair : ℕ × FindingCode = (t, e) in pair) (filter (has_code set) (take place codes)) ++ map (λ (e : FindingCode). let pair : ℕ × FindingCode = (t, e) in pair) (cond (has_code set c) (c ∷ []) [])) (sym is)
    ∙ ap (λ (fs : List (ℕ × FindingCode)). map (λ (e : FindingCode). let pair : ℕ × FindingCode = (t, e) in pair) (filter (has_code set) (take place codes)) ++ fs) (one_more (has_code set code) t code)

-- a list of findings that grows by the codes of a set in turn
pub extend_none : (t : ℕ) (set : FindingSet) (start : List (ℕ × FindingCode)) → start ≡ start ++ findings_among t set (take 0 by_number)
extend_none t set start = sym (ap (λ (fs : List (ℕ × FindingCode)). start ++ fs) (findings_among-none t set) ∙ append-nil start)

pub extend_more : (t : ℕ) (set : FindingSet) (place : ℕ) (code d : FindingCode) (found : Bool) (start now new : List (ℕ × FindingCode)) → place < length by_number → code ≡ get_or by_number place d → found ≡ has_code set code → now ≡ start ++ findings_among t set (take place by_number) → new ≡ now ++ cond found ((t, code) ∷ []) [] → new ≡ start ++ findings_among t set (take (place + 1) by_number)
extend_more t set place code d found start now new lt is has before more =
    let one : List (ℕ × FindingCode) = (t, code) ∷ [] in
    more
    ∙ ap (λ (fs : List (ℕ × FindingCode)). fs ++ cond found one []) before
    ∙ ap (λ (b : Bool). (start ++ findings_among t set (take place by_number)) ++ cond b one []) has
    ∙ append_assoc start (findings_among t set (take place by_number)) (cond (has_code set code) one [])
    ∙ ap (λ (fs : List (ℕ × FindingCode)). start ++ fs) (sym (findings_among-more t set by_number place code d lt is))

pub extend_all : (t : ℕ) (set : FindingSet) (place : ℕ) (start now : List (ℕ × FindingCode)) → place ≡ length by_number → now ≡ start ++ findings_among t set (take place by_number) → now ≡ start ++ findings_of t set
extend_all t set place start now end is =
    is ∙ ap (λ (n : ℕ). start ++ findings_among t set (take n by_number)) end ∙ ap (λ (fs : List (ℕ × FindingCode)). start ++ fs) (findings_among-all t set)

same_flags : (xs ys : List Bool) → true ≡ pointwise beq xs ys → xs ≡ ys
same_flags [] [] h = refl
same_flags [] (y ∷ ys) h = absurd (true≢false h)
same_flags (x ∷ xs) [] h = absurd (true≢false h)
same_flags (true ∷ xs) (true ∷ ys) h = ap (λ l. true ∷ l) (same_flags xs ys h)
same_flags (true ∷ xs) (false ∷ ys) h = absurd (true≢false h)
same_flags (false ∷ xs) (true ∷ ys) h = absurd (true≢false h)
same_flags (false ∷ xs) (false ∷ ys) h = ap (λ l. false ∷ l) (same_flags xs ys h)

-- a set without codes adds nothing
pub extend_empty : (t : ℕ) (set empty : FindingSet) (start : List (ℕ × FindingCode)) → true ≡ pointwise beq set.present empty.present → empty ≡ no_findings → start ≡ start ++ findings_of t set
unfolding findings_of
extend_empty t set empty start equal is =
    let same : set.present ≡ no_findings.present = same_flags set.present empty.present equal ∙ ap (λ (s : FindingSet). s.present) is in
    sym (ap (λ (flags : List Bool). start ++ map (λ (c : FindingCode). let pair : ℕ × FindingCode = (t, c) in pair) (filter (has_code (record { present = flags })) by_number)) same ∙ append-nil start)
