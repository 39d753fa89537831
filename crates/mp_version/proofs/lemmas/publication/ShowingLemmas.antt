-- What a pass has seen, once it has entered a version as long as the published one.
use Rattle.std.proofs.Common.{◌≡◌, List, [], ◌∷◌, fold, length, sym, subst, Result, Ok, Err, true}
use Rattle.std.specs.Prelude.{MatchResult, is_ok}
use Rattle.logbook.specs.Pages.{Book}
use Rattle.mp_version.specs.Stories.{Story}
use Rattle.mp_version.specs.Extending.{Extends}
use Rattle.mp_version.proofs.PrefixLemmas.{extends_whole}
use Rattle.mp_version.specs.publication.Chronicles.{Shown, Follows}
use Rattle.mp_version.specs.publication.Knowing.{Known, Has, Covers}
use Rattle.mp_version.specs.publication.Knowing.{KeepsRead, FollowsRead}
use Rattle.mp_version.proofs.lemmas.publication.KeepingLemmas.{covers_has, follows_self}

-- the book of what is entered is that of what was read before
pub same_book : (y : Shown) (first known : Known) (s : Shown) → KeepsRead first known → Covers y known → Has first s → y.book ≡ s.book
same_book y first known s h c at = (covers_has y known s c (h s at)).same_book

pub is_shown : (now y : Shown) → y.book ≡ now.book → Extends y.story now.story → length y.story.edits ≡ length now.story.edits → y ≡ now
is_shown now y b h same = let e : y.story ≡ now.story = extends_whole y.story now.story h same in λ i. record { book = b i; story = e i }

pub shown_is : (p : Shown) (b : Book) (s : Story) → p.book ≡ b → p.story ≡ s → p ≡ record { book = b; story = s }
shown_is p b s e f = λ i. record { book = e i; story = f i }

pub follows_read : (now y : Shown) (first known : Known) → KeepsRead first known → Covers y known → y ≡ now → FollowsRead now first
follows_read now y first known h c e s at = subst (λ (z : Shown). Follows z s) e (covers_has y known s c (h s at))

-- the one entry that is left to publish is the version that is published
pub fold_same : (now next : Shown) (pending : List Shown) → pending ≡ next ∷ [] → next ≡ now → Follows (fold (λ _ v. v) now pending) now
fold_same now next pending e same = subst (λ (xs : List Shown). Follows (fold (λ _ v. v) now xs) now) (sym e) (subst (λ (z : Shown). Follows z now) (sym same) (follows_self now))

-- what a call ensures where it doesn't fail
pub ok_part : {T E : Type 0} (r : Result T E) (A C : Type 0) → MatchResult r (λ _. A) (λ _. C) → is_ok r ≡ true → A
ok_part (Ok v) A C part well = part
ok_part (Err e) A C part well = absurd (cc well)
