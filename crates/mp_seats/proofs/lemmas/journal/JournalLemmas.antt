-- What a journal has, line by line.
use Rattle.std.proofs.Common.{◌≡◌, ℕ, zero, suc, ◌<◌, ◌≤◌, true, false, List, [], ◌∷◌, ◌++◌, drop, length, length-append, take, Result, Ok, Err, is_err, refl, sym, ap, subst, ◌∙◌, arith}
use Rattle.std.specs.Prelude.{OnOk, OnErr}
use Rattle.std.specs.Io.KnownBytes.{Appends}
use Rattle.std.proofs.KnownBytes.{Appends-trans}
use Rattle.std.proofs.lemmas.List.{append-nil}
use Rattle.std.proofs.lemmas.Grind.{flat_map-append}
use Rattle.std.proofs.Math.Seq.{take-append_seam}
use Rattle.mp_streams.specs.declared.failed.Failed.{Failed}
use Rattle.mp_streams.specs.Outgoing.{Outgoing, Writes}
use Rattle.mp_streams.specs.StreamBytes.{AppendsPrefix}
use Rattle.mp_records.specs.declared.edit.Edit.{Edit}
use Rattle.mp_text.specs.edit_lines.EditLines.{edit_text, edit_lines}
use Rattle.mp_version.specs.declared.edit_keeper.NotKept.{NotKept}
use Rattle.mp_seats.specs.journal.Journals.{Journal, HasTaken, Passes, Continues, KeepsEdits}

-- where nothing is held before and behind, what was written is with the sink
pub passes : {S : Type 0} (r : Result (Unit {0}) Failed) (a b : Outgoing S) (text : List ℕ) → Writes r a b text → a.held ≡ [] → b.held ≡ [] → Passes r a.taken b.taken text
passes (Ok done) a b text puts first last =
    let whole : text ≡ puts.front =
    sym (ap (λ l. l ++ text) first) ∙ puts.held ∙ ap (λ l. puts.front ++ (l ++ puts.lost)) last ∙ ap (λ l. puts.front ++ l) puts.ends.1 ∙ append-nil puts.front in
    subst (Appends a.taken b.taken) (sym whole) puts.taken
passes (Err failed) a b text puts first last =
    let split : text ≡ puts.front ++ puts.lost = sym (ap (λ l. l ++ text) first) ∙ puts.held ∙ ap (λ l. puts.front ++ (l ++ puts.lost)) last in
    let some : 0 < length puts.lost = puts.ends.2 in
    let front : take (length puts.front) text ≡ puts.front = ap (take (length puts.front)) split ∙ take-append_seam puts.front puts.lost in
    (length puts.front, omega (arith, some, ap length split, length-append puts.front puts.lost), subst (Appends a.taken b.taken) (sym front) puts.taken)

-- the line is there
goes_on : (old new : Journal) (bytes : List ℕ) → old.is_lost ≡ false → new.is_lost ≡ false → new.before ≡ old.before → Appends old.taken new.taken bytes → (first : List ℕ) → HasTaken old first
    → HasTaken new (first ++ bytes)
goes_on old new bytes whole still before more first has =
    let was : Appends old.before old.taken first = subst (λ w. HasTaken (record { before = old.before; taken = old.taken; is_lost = w; opening = old.opening }) first) whole has in
    let now : Appends old.before new.taken (first ++ bytes) = Appends-trans old.before old.taken new.taken first bytes was more in
    subst (λ b. HasTaken (record { before = b; taken = new.taken; is_lost = new.is_lost; opening = new.opening }) (first ++ bytes)) (sym before)
    (subst (λ w. HasTaken (record { before = old.before; taken = new.taken; is_lost = w; opening = new.opening }) (first ++ bytes)) (sym still) now)

-- a part of the line is
is_torn : (old new : Journal) (bytes : List ℕ) → old.is_lost ≡ false → new.is_lost ≡ true → new.before ≡ old.before → AppendsPrefix old.taken new.taken bytes → (first : List ℕ) → HasTaken old first
    → HasTaken new first
is_torn old new bytes whole torn before part first has =
    let was : Appends old.before old.taken first = subst (λ w. HasTaken (record { before = old.before; taken = old.taken; is_lost = w; opening = old.opening }) first) whole has in
    let now : Appends old.before new.taken (first ++ take part.0 bytes) = Appends-trans old.before old.taken new.taken first (take part.0 bytes) was part.2 in
    subst (λ b. HasTaken (record { before = b; taken = new.taken; is_lost = new.is_lost; opening = new.opening }) first) (sym before)
    (subst (λ w. HasTaken (record { before = old.before; taken = new.taken; is_lost = w; opening = new.opening }) first) (sym torn) (take part.0 bytes, now))

-- the write of a line was done or failed
pub continued : (old mid : Journal) (r : Result (Unit {0}) Failed) (bytes : List ℕ) → old.is_lost ≡ false → mid.is_lost ≡ old.is_lost → mid.opening ≡ old.opening → mid.before ≡ old.before
    → Passes r old.taken mid.taken bytes → is_err r ≡ false → Continues (Ok tt) old mid bytes
continued old mid (Ok done) bytes whole same opening before put well = (same ∙ whole, opening, goes_on old mid bytes whole (same ∙ whole) before put)
continued old mid (Err failed) bytes whole same opening before put well = absurd (cc well)

pub torn_at : (old mid : Journal) (r : Result (Unit {0}) Failed) (bytes : List ℕ) → old.is_lost ≡ false → mid.opening ≡ old.opening → mid.before ≡ old.before
    → Passes r old.taken mid.taken bytes → is_err r ≡ true → (true ≡ true) × (mid.opening ≡ old.opening) × ((first : List ℕ) → HasTaken old first → HasTaken (record { before = mid.before; taken = mid.taken; is_lost = true; opening = mid.opening }) first)
torn_at old mid (Ok done) bytes whole opening before put err = absurd (cc err)
torn_at old mid (Err failed) bytes whole opening before put err =
    (refl, opening, is_torn old (record { before = mid.before; taken = mid.taken; is_lost = true; opening = mid.opening }) bytes whole refl before put)

-- ---- one edit more

-- its line stands behind those of the others
lines_more : (opening : ℕ) (edits : List Edit) (edit : Edit) → opening ≤ length edits → edit_lines (drop opening (edits ++ edit ∷ [])) ≡ edit_lines (drop opening edits) ++ (edit_text edit ++ 10 ∷ [])
lines_more zero edits edit le = flat_map-append (λ edit. edit_text edit ++ 10 ∷ []) edits (edit ∷ []) ∙ ap (λ l. edit_lines edits ++ l) (append-nil (edit_text edit ++ 10 ∷ []))
lines_more (suc opening) [] edit le = absurd (omega (arith, le))
lines_more (suc opening) (x ∷ edits) edit le = lines_more opening edits edit (omega (arith, le))

pub kept_one : (r : Result (Unit {0}) NotKept) (old new : Journal) (edits : List Edit) (edit : Edit) → Continues r old new (edit_text edit ++ 10 ∷ []) → KeepsEdits old edits
    → OnOk r (KeepsEdits new (edits ++ edit ∷ []))
kept_one (Err error) old new edits edit more has = tt
kept_one (Ok done) old new edits edit more has =
    let same : new.opening ≡ old.opening = more.1 in
    let lines = lines_more old.opening edits edit has.0 in
    let now : HasTaken new (edit_lines (drop new.opening (edits ++ edit ∷ []))) =
    subst (λ n. HasTaken new (edit_lines (drop n (edits ++ edit ∷ [])))) (sym same) (subst (HasTaken new) (sym lines) (more.2 (edit_lines (drop old.opening edits)) has.1)) in
    let long : new.opening ≤ length (edits ++ edit ∷ []) = omega (arith, same, has.0, length-append edits (edit ∷ [])) in
    (long, now)

pub kept_all : (r : Result (Unit {0}) NotKept) (old new : Journal) (edits : List Edit) (bytes : List ℕ) → Continues r old new bytes → KeepsEdits old edits → OnErr r (KeepsEdits new edits)
kept_all (Ok done) old new edits bytes more has = tt
kept_all (Err error) old new edits bytes more has =
    let same : new.opening ≡ old.opening = more.1 in
    let now : HasTaken new (edit_lines (drop new.opening edits)) = subst (λ n. HasTaken new (edit_lines (drop n edits))) (sym same) (more.2 (edit_lines (drop old.opening edits)) has.1) in
    let long : new.opening ≤ length edits = omega (arith, same, has.0) in
    (long, now)
