-- Bytes that are written at places of one room.
use Rattle.std.proofs.Common.{◌≡◌, ℕ, ◌+◌, ◌<◌, ◌≤◌, List, [], ◌∷◌, ◌++◌, append_assoc, length, take, drop, take-append-drop, sym, ap, ◌∙◌, arith}
use Rattle.std.proofs.Math.ListN.{set, length-set}
use Rattle.std.proofs.Math.Seq.{take-append_seam}
use Rattle.std.proofs.lemmas.List.{length-append, length-take-le, take_more_set}
use Rattle.mp_streams.specs.Places.{IsPlaced}

-- a text that begins where another one ended
pub placed_both : {a b c xs ys : List ℕ} {i j k : ℕ} → IsPlaced a b i xs j → IsPlaced b c j ys k → IsPlaced a c i (xs ++ ys) k
placed_both {a} {b} {c} {xs} {ys} {i} first second = record {
  front = second.front ∙ ap (λ l. l ++ ys) first.front ∙ append_assoc (take i a) xs ys;
  moved = omega (arith, first.moved, second.moved, length-append xs ys);
  within = second.within;
}

-- one byte
pub placed_byte : (room : List ℕ) (i b : ℕ) → i < length room → IsPlaced room (set room i b) i (b ∷ []) (i + 1)
placed_byte room i b less = record {
  front = take_more_set room i b less;
  moved = omega arith;
  within = omega (arith, length-set room i b, less);
}

-- a text between what stays
pub placed_between : (a b text : List ℕ) (i k : ℕ) → take i b ≡ take i a → drop i b ≡ text ++ drop k a → i + length text ≡ k → k ≤ length a → length b ≡ length a → IsPlaced a b i text k
placed_between a b text i k before behind long within same =
    let front = take i a ++ text in
    let whole : b ≡ front ++ drop k a =
    sym (take-append-drop i b) ∙ ap (λ l. l ++ drop i b) before ∙ ap (λ l. take i a ++ l) behind ∙ sym (append_assoc (take i a) text (drop k a)) in
    let end : k ≡ length front = omega (arith, long, within, length-append (take i a) text, length-take-le i a) in
    record {
      front = ap (λ n. take n b) end ∙ ap (take (length front)) whole ∙ take-append_seam front (drop k a);
      moved = sym long;
      within = omega (arith, within, same);
    }
