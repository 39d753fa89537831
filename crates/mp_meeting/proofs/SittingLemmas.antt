-- A designer's lines, one after the other.
use Rattle.std.proofs.Common.{◌≡◌, ℕ, ◌+◌, ◌≤◌, ◌⊎◌, inl, inr, List, [], ◌∷◌, ◌++◌, length, Result, Ok, Err, refl, sym, ap, subst, ◌∙◌, append_assoc, length-append, arith}
use Rattle.std.proofs.lemmas.List.{append-nil}
use Rattle.mp_records.specs.declared.edit.Edit.{Edit}
use Rattle.mp_text.specs.declared.lexing.line_error.LineError.{LineError}
use Rattle.mp_text.specs.declared.script_line.Line.{Line}
use Rattle.mp_text.specs.declared.script_line.Line.TheVariants.{Empty, Change, Ask}
use Rattle.mp_text.specs.lexing.Lines.{lines_of}
use Rattle.mp_text.specs.ScriptLines.{line_at}
use Rattle.mp_version.specs.Stories.{Story, one_more, judged}
use Rattle.mp_version.specs.Extending.{Extends}
use Rattle.mp_desk.specs.Holders.{Working, Signs}
use Rattle.mp_meeting.specs.Fates.{Fate, Accepted, Refused, said, unless_empty, IsFate, AreFates, Rise, AreAmong, accepted_of, refused_of}
use Rattle.mp_meeting.specs.Sittings.{DesignerTally, begun, with_edit, with_refusal, IsAccepted, IsRefused, Takes, HasWorked}
use Rattle.mp_meeting.specs.Seats.{working}
use Rattle.mp_version.proofs.PrefixLemmas.{prefix_last, extends_self, extends_trans, extends_length, extends_one_more, up_to-earlier}
use Rattle.mp_meeting.proofs.FateLemmas.{accepted_snoc, refused_snoc, among_more, among_snoc}

-- these became of the lines before the rest
pub record SoFar (start : Story) (all rest : List (List ℕ)) (p : DesignerTally) : Type 0 where
  pub fates : List Fate
  pub extends : Extends p.seen start
  pub judged : (now : Story) → Extends now p.seen → (later : List Fate) → AreFates now (said rest) later → AreFates now (said all) (fates ++ later)
  pub rise : (last : ℕ) (later : List Fate) → Rise (length p.seen.edits) last later → Rise (length start.edits) last (fates ++ later)
  pub accepted : p.accepted ≡ accepted_of fates
  pub refused : p.refused ≡ refused_of fates
  pub among : AreAmong p.told fates
  pub told : p.told ≤ length p.seen.edits

pub none_yet : (me : Working) (lines : List (List ℕ)) → SoFar me.seen lines lines (begun me)
none_yet me lines = record {
  fates = [];
  extends = extends_self me.seen;
  judged = λ now extends later h. h;
  rise = λ last later h. h;
  accepted = refl;
  refused = refl;
  among = tt;
  told = omega arith;
}

-- what the desk tells of an edit that was accepted
pub accepted_there : (old new : DesignerTally) (edit : Edit) (before version : Story) → Extends before old.seen → version ≡ one_more before edit → new.seen ≡ version
    → new.accepted ≡ old.accepted + 1 → new.refused ≡ old.refused → new.told ≡ length version.edits → new.wanting ≡ old.wanting → new.number ≡ old.number
    → Signs (working old) (working new) version → IsAccepted old new edit
accepted_there old new edit before version extends is seen accepted refused told wanting number signs =
    let size : length version.edits ≡ length before.edits + 1 = ap (λ (s : Story). length s.edits) is ∙ length-append before.edits (edit ∷ []) in
    let many = signs.2 in
    let same : new ≡ with_edit old before signs.0 edit new.reads = λ i. record {
      seen = (seen ∙ is) i;
      accepted = accepted i;
      refused = refused i;
      told = (told ∙ size) i;
      wanting = wanting i;
      number = number i;
      signed = signs.3 i;
      reads = new.reads;
    } in
    (before, extends, signs.0, signs.1, omega (arith, size, many), same)

module _ (start : Story) (all : List (List ℕ)) (line : List ℕ) (rest : List (List ℕ)) (old new : DesignerTally) (before : SoFar start all (line ∷ rest) old) where
  -- a line with this fate
  one_fate : (read : Result Line LineError) (fate : Fate) → said (line ∷ rest) ≡ read ∷ said rest → ((now : Story) → Extends now new.seen → IsFate now read fate) → Extends new.seen old.seen
      → ((last : ℕ) (later : List Fate) → Rise (length new.seen.edits) last later → Rise (length old.seen.edits) last (fate ∷ later)) → new.accepted ≡ old.accepted + accepted_of (fate ∷ [])
      → new.refused ≡ old.refused + refused_of (fate ∷ []) → old.told ≤ new.told → AreAmong new.told (fate ∷ []) → new.told ≤ length new.seen.edits → SoFar start all rest new
  one_fate read fate says holds extends rises accepted refused later_told among told = record {
    fates = before.fates ++ fate ∷ [];
    extends = extends_trans new.seen old.seen start extends before.extends;
    judged = λ now more later h.
        subst (AreFates now (said all)) (sym (append_assoc before.fates (fate ∷ []) later))
        (before.judged now (extends_trans now new.seen old.seen more extends) (fate ∷ later) (subst (λ reads. AreFates now reads (fate ∷ later)) (sym says) (holds now more, h)));
    rise = λ last later h. subst (Rise (length start.edits) last) (sym (append_assoc before.fates (fate ∷ []) later)) (before.rise last (fate ∷ later) (rises last later h));
    accepted = accepted ∙ ap (λ (n : ℕ). n + accepted_of (fate ∷ [])) before.accepted ∙ sym (accepted_snoc before.fates fate);
    refused = refused ∙ ap (λ (n : ℕ). n + refused_of (fate ∷ [])) before.refused ∙ sym (refused_snoc before.fates fate);
    among = among_snoc new.told before.fates fate (among_more old.told new.told before.fates later_told before.among) among;
    told = told;
  }

  was_accepted : (edit : Edit) → line_at line ≡ Ok (Change edit) → (story : Story) (authors : List ℕ) → Extends story old.seen → new ≡ with_edit old story authors edit new.reads → SoFar start all rest new
  was_accepted edit is story authors extends same =
      let k = length story.edits in
      let size : length (one_more story edit).edits ≡ k + 1 = length-append story.edits (edit ∷ []) in
      let seen : new.seen ≡ one_more story edit = ap (λ s. s.seen) same in
      let told : new.told ≡ k + 1 = ap (λ s. s.told) same in
      let long = extends_length story old.seen extends in
      let under = before.told in
      one_fate (Ok (Change edit)) (Accepted k) (ap (λ r. unless_empty r (said rest)) is)
      (λ now more. prefix_last now.edits story.edits edit (subst (Extends now) seen more).begins)
      (subst (λ s. Extends s old.seen) (sym seen) (extends_trans (one_more story edit) story old.seen (extends_one_more story edit) extends))
      (λ last later h. (long, subst (λ n. Rise n last later) (ap (λ s. length s.edits) seen ∙ size) h))
      (let e : new.accepted ≡ old.accepted + 1 = ap (λ s. s.accepted) same in omega (arith, e))
      (let e : new.refused ≡ old.refused = ap (λ s. s.refused) same in omega (arith, e))
      (omega (arith, told, long, under))
      (omega (arith, told), tt)
      (omega (arith, told, size, ap (λ s. length s.edits) seen))

  was_refused : (read : Result Line LineError) (story : Story) → said (line ∷ rest) ≡ read ∷ said rest → ((now : Story) → Extends now story → IsFate now read (Refused (length story.edits)))
      → Extends story old.seen → (authors : List ℕ) (reads : List Story) → new ≡ with_refusal old story authors reads → SoFar start all rest new
  was_refused read story says holds extends authors reads same =
      let seen : new.seen ≡ story = ap (λ s. s.seen) same in
      let told : new.told ≡ old.told = ap (λ s. s.told) same in
      let long = extends_length story old.seen extends in
      let under = before.told in
      one_fate read (Refused (length story.edits)) says
      (λ now more. holds now (subst (Extends now) seen more))
      (subst (λ s. Extends s old.seen) (sym seen) extends)
      (λ last later h. (long, subst (λ n. Rise n last later) (ap (λ s. length s.edits) seen) h))
      (let e : new.accepted ≡ old.accepted = ap (λ s. s.accepted) same in omega (arith, e))
      (let e : new.refused ≡ old.refused + 1 = ap (λ s. s.refused) same in omega (arith, e))
      (omega (arith, told))
      tt
      (omega (arith, told, long, under, ap (λ s. length s.edits) seen))

  -- one line more
  pub one_line : Takes old new (line_at line) → SoFar start all rest new
  one_line taken = by (line_at line) refl taken
    where
      skipped : line_at line ≡ Ok Empty → SoFar start all rest old
      skipped is = record {
        fates = before.fates;
        extends = before.extends;
        judged = λ now more later h. before.judged now more later (subst (λ reads. AreFates now reads later) (sym (ap (λ r. unless_empty r (said rest)) is)) h);
        rise = before.rise;
        accepted = before.accepted;
        refused = before.refused;
        among = before.among;
        told = before.told;
      }

      edited : (edit : Edit) → line_at line ≡ Ok (Change edit) → IsAccepted old new edit ⊎ IsRefused old new edit → SoFar start all rest new
      edited edit is (inl h) = was_accepted edit is h.0 h.2 h.1 h.5
      edited edit is (inr h) =
          was_refused (Ok (Change edit)) h.0 (ap (λ r. unless_empty r (said rest)) is) (λ now more. (h.2, subst (λ s. judged s edit ≡ Err h.2) (sym (up_to-earlier now h.0 more)) h.3)) h.1 h.4 new.reads h.6

      by : (read : Result Line LineError) → line_at line ≡ read → Takes old new read → SoFar start all rest new
      by (Ok Empty) is h = subst (SoFar start all rest) (sym h) (skipped is)
      by (Ok (Change edit)) is h = edited edit is h
      by (Ok (Ask question)) is h = was_refused (Ok (Ask question)) old.seen (ap (λ r. unless_empty r (said rest)) is) (λ now more. tt) (extends_self old.seen) old.signed old.reads h
      by (Err error) is h = was_refused (Err error) old.seen (ap (λ r. unless_empty r (said rest)) is) (λ now more. tt) (extends_self old.seen) old.signed old.reads h

-- all lines were submitted
pub has_worked : (start : Story) (all : List (List ℕ)) (p : DesignerTally) → SoFar start all [] p → HasWorked start all p
has_worked start all p h = record {
  fates = h.fates;
  extends = h.extends;
  judged = λ now more. subst (AreFates now (said all)) (append-nil h.fates) (h.judged now more [] tt);
  rise = λ now more. subst (Rise (length start.edits) (length now.edits)) (append-nil h.fates) (h.rise (length now.edits) [] (extends_length now p.seen more));
  accepted = h.accepted;
  refused = h.refused;
  among = h.among;
}

-- at most one line more was refused
pub refused_by_one : (old new : DesignerTally) (read : Result Line LineError) → Takes old new read → new.refused ≤ old.refused + 1
refused_by_one old new (Ok Empty) h = let e : new.refused ≡ old.refused = ap (λ s. s.refused) h in omega (arith, e)
refused_by_one old new (Ok (Change edit)) (inl h) = let e : new.refused ≡ old.refused = ap (λ s. s.refused) h.5 in omega (arith, e)
refused_by_one old new (Ok (Change edit)) (inr h) = let e : new.refused ≡ old.refused + 1 = ap (λ s. s.refused) h.6 in omega (arith, e)
refused_by_one old new (Ok (Ask question)) h = let e : new.refused ≡ old.refused + 1 = ap (λ s. s.refused) h in omega (arith, e)
refused_by_one old new (Err error) h = let e : new.refused ≡ old.refused + 1 = ap (λ s. s.refused) h in omega (arith, e)

pub lines_of-none : (bytes : List ℕ) → length bytes ≡ 0 → lines_of bytes ≡ []
unfolding lines_of
lines_of-none [] none = refl
lines_of-none (b ∷ bytes) none = absurd (omega (arith, none))
