-- What calls that write make of their texts, one after the other.
use Rattle.std.proofs.Common.{◌≡◌, ℕ, ◌+◌, ◌<◌, Bool, true, false, List, [], ◌∷◌, ◌++◌, append_assoc, length, length-drop, get_or, take, drop, take-append-drop, Result, Ok, Err, OnOk, OnErr, IsErr, IsErrAnd, refl, sym, ap, subst, ◌∙◌, arith}
use Rattle.std.specs.Io.KnownBytes.{Appends}
use Rattle.std.specs.List.{flat_map}
use Rattle.std.proofs.KnownBytes.{Appends-nil, Appends-trans}
use Rattle.std.proofs.lemmas.List.{append-nil, length-append, take_more}
use Rattle.std.proofs.lemmas.List.Concat.{flat_map-append}
use Rattle.std.proofs.lemmas.Result.{err_from_is_err_and}
use Rattle.std.proofs.Math.Seq.{take-append_seam}
use Rattle.mp_streams.specs.declared.failed.Failed.{Failed}
use Rattle.mp_streams.specs.Outgoing.{Outgoing, Stops, Ends, Puts, Writes}
use Rattle.mp_streams.specs.StreamBytes.{AppendsPrefix}
use Rattle.mp_streams.specs.StreamFaults.{one_more, counted}

-- ---- one call after the other

-- nothing was written
pub puts_none : {S T E : Type 0} {f : E → Bool} {done : T} (a : Outgoing S) → Puts f (Ok done) a a []
puts_none a = record { front = []; lost = []; taken = Appends-nil a.taken; held = refl; ends = (refl, refl) }

-- an error is one whatever stood before it
stops_later : {S : Type 0} (fault : Bool) (a b c : Outgoing S) (lost : List ℕ) → b.faults ≡ a.faults → Stops fault b c lost → Stops fault a c lost
stops_later true a b c lost same stops = (stops.0 ∙ ap one_more same, stops.1, stops.2)
stops_later false a b c lost same stops = stops ∙ same

ends_later : {S T E : Type 0} (f : E → Bool) (r : Result T E) (a b c : Outgoing S) (lost : List ℕ) → b.faults ≡ a.faults → Ends f r b c lost → Ends f r a c lost
ends_later f (Ok done) a b c lost same ends = (ends.0 ∙ same, ends.1)
ends_later f (Err error) a b c lost same ends = stops_later (f error) a b c lost same ends

-- a text was written, and then another
pub puts_then : {S T U E F : Type 0} {f : F → Bool} {g : E → Bool} {done : T} {r : Result U E} {a b c : Outgoing S} {xs ys : List ℕ}
    → Puts f (Ok done) a b xs → Puts g r b c ys → Puts g r a c (xs ++ ys)
puts_then {T = T} {U = U} {E = E} {F = F} {f = f} {g = g} {done = done} {r = r} {a = a} {b = b} {c = c} {xs = xs} {ys = ys} first second =
    let all : a.held ++ xs ≡ first.front ++ b.held = first.held ∙ ap (λ l. first.front ++ (b.held ++ l)) first.ends.1 ∙ ap (λ l. first.front ++ l) (append-nil b.held) in
    record {
      front = first.front ++ second.front;
      lost = second.lost;
      taken = Appends-trans a.taken b.taken c.taken first.front second.front first.taken second.taken;
      held =
          sym (append_assoc a.held xs ys) ∙ ap (λ l. l ++ ys) all ∙ append_assoc first.front b.held ys ∙ ap (λ l. first.front ++ l) second.held
          ∙ sym (append_assoc first.front second.front (c.held ++ second.lost));
      ends = ends_later g r a b c second.lost first.ends.0 second.ends;
    }

stops_sooner : {S : Type 0} (fault : Bool) (a b : Outgoing S) (lost more : List ℕ) → Stops fault a b lost → Stops fault a b (lost ++ more)
stops_sooner true a b lost more stops = let some : 0 < length lost = stops.2 in (stops.0, stops.1, omega (arith, some, length-append lost more))
stops_sooner false a b lost more stops = stops

-- a text failed before another was written
pub puts_sooner : {S T E : Type 0} {f : E → Bool} {error : E} {a b : Outgoing S} {xs : List ℕ} (ys : List ℕ) → Puts {T = T} f (Err error) a b xs → Puts {T = T} f (Err error) a b (xs ++ ys)
puts_sooner {T = T} {E = E} {f = f} {error = error} {a = a} {b = b} {xs = xs} ys first = record {
  front = first.front;
  lost = first.lost ++ ys;
  taken = first.taken;
  held =
      sym (append_assoc a.held xs ys) ∙ ap (λ l. l ++ ys) first.held ∙ append_assoc first.front (b.held ++ first.lost) ys
      ∙ ap (λ l. first.front ++ l) (append_assoc b.held first.lost ys);
  ends = stops_sooner (f error) a b first.lost ys first.ends;
}

-- ---- an error that became another

-- a success is one whatever the errors are
pub puts_ok : {S T E F : Type 0} {f : F → Bool} {g : E → Bool} {done : T} {a b : Outgoing S} {xs : List ℕ} → Puts f (Ok done) a b xs → Puts {T = T} g (Ok done) a b xs
puts_ok puts = record { front = puts.front; lost = puts.lost; taken = puts.taken; held = puts.held; ends = puts.ends }

pub puts_as : {S T U E F : Type 0} {f : F → Bool} {g : E → Bool} {error : F} {a b : Outgoing S} {xs : List ℕ} (r : Result U E) (other : E)
    → IsErrAnd r (λ y. y ≡ other) → g other ≡ f error → Puts {T = T} f (Err error) a b xs → Puts g r a b xs
puts_as {T = T} {U = U} {E = E} {F = F} {f = f} {g = g} {error = error} {a = a} {b = b} {xs = xs} r other is same first =
    let p = err_from_is_err_and r is in
    let ends : Stops (g other) a b first.lost = subst (λ fault. Stops fault a b first.lost) (sym same) first.ends in
    rw (p.1, p.2) (record { front = first.front; lost = first.lost; taken = first.taken; held = first.held; ends = ends })

-- memory was wanting before anything was written
pub puts_unmade : {S U E : Type 0} {g : E → Bool} (r : Result U E) (other : E) (a : Outgoing S) (xs : List ℕ) → IsErrAnd r (λ y. y ≡ other) → g other ≡ false → Puts g r a a xs
puts_unmade {U = U} {E = E} {g = g} r other a xs is none =
    let p = err_from_is_err_and r is in
    let ends : Stops (g other) a a xs = subst (λ fault. Stops fault a a xs) (sym none) refl in
    rw (p.1, p.2) (record { front = []; lost = xs; taken = Appends-nil a.taken; held = refl; ends = ends })

-- a fault that is passed on
pub writes_failed : {S T U : Type 0} {error : Failed} {a b : Outgoing S} {xs : List ℕ} (r : Result U Failed) → IsErr r → Writes {T = T} (Err error) a b xs → Writes r a b xs
writes_failed {T = T} {U = U} {error = error} {a = a} {b = b} {xs = xs} (Ok done) is first = let no : ⊥ = cc in absurd no
writes_failed {T = T} {U = U} {error = error} {a = a} {b = b} {xs = xs} (Err other) is first = record { front = first.front; lost = first.lost; taken = first.taken; held = first.held; ends = first.ends }

-- ---- one thing after the other

module _ {X : Type 0} (t : X → List ℕ) (xs : List X) (i : ℕ) (d : X) (within : i < length xs) where
  -- one thing more
  pub next_text : flat_map t (take (i + 1) xs) ≡ flat_map t (take i xs) ++ t (get_or xs i d)
  next_text =
      ap (flat_map t) (take_more xs i d within) ∙ flat_map-append t (take i xs) (get_or xs i d ∷ [])
      ∙ ap (λ l. flat_map t (take i xs) ++ l) (append-nil (t (get_or xs i d)))

  -- those before a thing, the thing, and those behind it
  pub text_with : flat_map t xs ≡ flat_map t (take i xs) ++ (t (get_or xs i d) ++ flat_map t (drop (i + 1) xs))
  text_with =
      sym (ap (flat_map t) (take-append-drop (i + 1) xs)) ∙ flat_map-append t (take (i + 1) xs) (drop (i + 1) xs)
      ∙ ap (λ l. l ++ flat_map t (drop (i + 1) xs)) next_text
      ∙ append_assoc (flat_map t (take i xs)) (t (get_or xs i d)) (flat_map t (drop (i + 1) xs))

  module _ {S T E F : Type 0} {f : F → Bool} {g : E → Bool} {done : T} {a b c : Outgoing S} where
    -- a thing was written behind those before it
    pub puts_next : {U : Type 0} {r : Result U E} → Puts f (Ok done) a b (flat_map t (take i xs)) → Puts g r b c (t (get_or xs i d)) → Puts g r a c (flat_map t (take (i + 1) xs))
    puts_next {U = U} {r = r} first second = subst (Puts g r a c) (sym next_text) (puts_then first second)

    -- a thing failed
    pub puts_stopped : {U : Type 0} {error : E} → Puts f (Ok done) a b (flat_map t (take i xs)) → Puts {T = U} g (Err error) b c (t (get_or xs i d)) → Puts {T = U} g (Err error) a c (flat_map t xs)
    puts_stopped {U = U} {error = error} first second =
        subst (Puts {T = U} g (Err error) a c) (sym text_with) (puts_then first (puts_sooner (flat_map t (drop (i + 1) xs)) second))

-- ---- what was put straight to the sink

-- where nothing is held behind that
pub puts_straight : {S T : Type 0} (r : Result T Failed) (a b : Outgoing S) (text bytes : List ℕ) → a.held ++ text ≡ bytes → b.held ≡ []
    → OnOk r (Appends a.taken b.taken bytes) → OnErr r (AppendsPrefix a.taken b.taken bytes) → b.faults ≡ counted r a.faults → Writes r a b text
puts_straight {T = T} (Ok done) a b text bytes whole none all part faults = record {
  front = bytes;
  lost = [];
  taken = all;
  held = whole ∙ sym (append-nil bytes) ∙ ap (λ l. bytes ++ (l ++ [])) (sym none);
  ends = (faults, refl);
}
puts_straight {T = T} (Err error) a b text bytes whole none all part faults =
    let n = part.0 in
    let less : n < length bytes = part.1 in
    let rest : 0 < length (drop n bytes) = rw (length-drop n bytes) (omega arith) in
    record {
      front = take n bytes;
      lost = drop n bytes;
      taken = part.2;
      held = whole ∙ sym (take-append-drop n bytes) ∙ ap (λ l. take n bytes ++ (l ++ drop n bytes)) (sym none);
      ends = (faults, none, rest);
    }

-- ---- what the sink has in the end

module _ {S T E : Type 0} {f : E → Bool} {r : Result T E} {a b : Outgoing S} {xs : List ℕ} (puts : Puts f r a b xs) where
  taken_front : Appends a.taken b.taken (take (length puts.front) (a.held ++ xs))
  taken_front =
      let front : take (length puts.front) (a.held ++ xs) ≡ puts.front = ap (take (length puts.front)) puts.held ∙ take-append_seam puts.front (b.held ++ puts.lost) in
      subst (Appends a.taken b.taken) (sym front) puts.taken
