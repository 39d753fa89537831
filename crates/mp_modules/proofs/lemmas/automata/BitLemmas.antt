-- Levels of one bit.
use Rattle.std.proofs.Common.{◌≡◌, ℕ, ◌+◌, ◌-◌, ◌≤◌, ◌/◌, ◌%◌, ◌^◌, Bool, true, false, not, cond, refl, sym, ne_eqb, ap, subst, arith}
use Rattle.std.specs.Prelude.{◌==◌, ◌&&◌, nat_lt, bit_and, bit_or, bit_xor}
use Rattle.std.proofs.lemmas.Bool.Decides.{nat_tests}
use Rattle.mp_modules.specs.Quiet.{unchanged}
use Rattle.mp_modules.specs.automata.Reactions.{differ}
use Rattle.mp_modules.specs.automata.Codes.{bit}

-- a bit is one of two numbers
bits : (a : ℕ) (one : Bool) → (a == 1) ≡ one → a ≤ 1 → a ≡ bit one
bits a true is low = grind arith
bits a false is low = grind arith

-- what holds of both numbers holds of a bit
by_bit : (P : ℕ → Type 0) → ((p : Bool) → P (bit p)) → (a : ℕ) → a ≤ 1 → P a
by_bit P each a low = subst P (sym (bits a (a == 1) refl low)) (each (a == 1))

-- a bit's inverse differs from it, and it doesn't differ from itself
pub turned_differs : (t : Bool) (a : ℕ) → not (a == cond t (1 - a) a) ≡ t
turned_differs true a = ap not (ne_eqb a (1 - a) (λ same. omega arith))
turned_differs false a = unchanged a

pub turned_again : (t : Bool) (a : ℕ) → a ≤ 1 → 1 - cond t (1 - a) a ≡ cond (not t) (1 - a) a
turned_again true a low = omega arith
turned_again false a low = refl

pub inverted : (a b : ℕ) → a ≤ 1 → b ≤ 1 → not (1 - a == 1 - b) ≡ not (a == b)
inverted a b ha hb = grind arith

pub merges : (a b c d : ℕ) → a ≤ 1 → b ≤ 1 → c ≤ 1 → d ≤ 1 →
    not (cond (not (a == b)) 1 0 == cond (not (c == d)) 1 0) ≡ differ (not (a == c)) (not (b == d))
merges a b c d ha hb hc hd = grind arith

pub adds : (a b k : ℕ) → a ≤ 1 → b ≤ 1 → not ((a + k) % 2 == (b + k) % 2) ≡ not (a == b)
adds a b k ha hb = grind arith

pub sums : (a b c d : ℕ) → a ≤ 1 → b ≤ 1 → c ≤ 1 → d ≤ 1 →
    not ((a + b) % 2 == (c + d) % 2) ≡ differ (not (a == c)) (not (b == d))
sums a b c d ha hb hc hd = grind arith

pub subtracts : (a b c d : ℕ) → a ≤ 1 → b ≤ 1 → c ≤ 1 → d ≤ 1 →
    not ((a + (2 ^ 64 - b)) % 2 == (c + (2 ^ 64 - d)) % 2) ≡ differ (not (a == c)) (not (b == d))
subtracts a b c d ha hb hc hd = grind arith

pub moved : (a b c : ℕ) → a ≤ 1 → b ≤ 1 → c ≤ 1 → differ (not (a == c)) (not (a == b)) ≡ not (b == c)
moved a b c ha hb hc = grind arith

pub both_moved : (a b c d : ℕ) → a ≤ 1 → b ≤ 1 → c ≤ 1 → d ≤ 1 →
    differ (not (a == b)) (differ (not (a == c)) (not (b == d))) ≡ not (c == d)
both_moved a b c d ha hb hc hd = grind arith

pub moved_one : (a b : ℕ) → a ≤ 1 → b ≤ 1 → differ (a == 1) (not (a == b)) ≡ (b == 1)
moved_one a b ha hb = grind arith

pub moved_zero : (a b : ℕ) → a ≤ 1 → b ≤ 1 → differ (a == 0) (not (a == b)) ≡ (b == 0)
moved_zero a b ha hb = grind arith

-- a bit changes where what it says does
says : (p q : Bool) → not (bit p == bit q) ≡ differ p q
says true true = refl
says true false = refl
says false true = refl
says false false = refl

said_not : (p q : Bool) → not (bit (not p) == bit (not q)) ≡ differ p q
said_not true true = refl
said_not true false = refl
said_not false true = refl
said_not false false = refl

-- AND and OR of two bits
both_bits : (p q : Bool) → bit_and (bit p) (bit q) ≡ bit ((bit p == 1) && (bit q == 1))
both_bits true true = refl
both_bits true false = refl
both_bits false true = refl
both_bits false false = refl

both : (a b : ℕ) → a ≤ 1 → b ≤ 1 → bit_and a b ≡ bit ((a == 1) && (b == 1))
both a b ha hb =
    by_bit (λ x. bit_and x b ≡ bit ((x == 1) && (b == 1))) (λ p. by_bit (λ y. bit_and (bit p) y ≡ bit ((bit p == 1) && (y == 1))) (both_bits p) b hb) a ha

either_bits : (p q : Bool) → bit_or (bit p) (bit q) ≡ bit (not ((bit p == 0) && (bit q == 0)))
either_bits true true = refl
either_bits true false = refl
either_bits false true = refl
either_bits false false = refl

either : (a b : ℕ) → a ≤ 1 → b ≤ 1 → bit_or a b ≡ bit (not ((a == 0) && (b == 0)))
either a b ha hb =
    by_bit (λ x. bit_or x b ≡ bit (not ((x == 0) && (b == 0)))) (λ p. by_bit (λ y. bit_or (bit p) y ≡ bit (not ((bit p == 0) && (y == 0)))) (either_bits p) b hb) a ha

pub ands : (a b c d : ℕ) → a ≤ 1 → b ≤ 1 → c ≤ 1 → d ≤ 1 →
    not (bit_and a b == bit_and c d) ≡ differ ((a == 1) && (b == 1)) ((c == 1) && (d == 1))
ands a b c d ha hb hc hd = rw (both a b ha hb, both c d hc hd) (says ((a == 1) && (b == 1)) ((c == 1) && (d == 1)))

pub ors : (a b c d : ℕ) → a ≤ 1 → b ≤ 1 → c ≤ 1 → d ≤ 1 →
    not (bit_or a b == bit_or c d) ≡ differ ((a == 0) && (b == 0)) ((c == 0) && (d == 0))
ors a b c d ha hb hc hd = rw (either a b ha hb, either c d hc hd) (said_not ((a == 0) && (b == 0)) ((c == 0) && (d == 0)))

pub compares : (a b c d : ℕ) → a ≤ 1 → b ≤ 1 → c ≤ 1 → d ≤ 1 →
    not (cond (nat_lt a b) 1 0 == cond (nat_lt c d) 1 0) ≡ differ ((a == 0) && (b == 1)) ((c == 0) && (d == 1))
compares a b c d ha hb hc hd = grind (arith, nat_tests)

-- what a MUX gives moves with its choice, if the inputs differed, and with the input that is chosen then
abbrev pub Selects : ℕ → ℕ → ℕ → ℕ → ℕ → ℕ → Type 0
Selects a b s c d t = not (cond (s == 0) a b == cond (t == 0) c d) ≡ differ (not (s == t) && not (a == b)) (cond (t == 1) (not (b == d)) (not (a == c)))

selects_by : (a b c d : ℕ) → a ≤ 1 → b ≤ 1 → c ≤ 1 → d ≤ 1 → (p q : Bool) → Selects a b (bit p) c d (bit q)
selects_by a b c d ha hb hc hd true true = refl
selects_by a b c d ha hb hc hd true false = grind arith
selects_by a b c d ha hb hc hd false true = grind arith
selects_by a b c d ha hb hc hd false false = refl

pub selects : (a b s c d t : ℕ) → a ≤ 1 → b ≤ 1 → s ≤ 1 → c ≤ 1 → d ≤ 1 → t ≤ 1 → Selects a b s c d t
selects a b s c d t ha hb hs hc hd ht =
    by_bit (λ x. Selects a b x c d t) (λ p. by_bit (λ y. Selects a b (bit p) c d y) (selects_by a b c d ha hb hc hd p) t ht) s hs

masked_bits : (p q r : Bool) → not (bit_xor (bit q) (bit p) == bit_xor (bit r) (bit p)) ≡ not (bit q == bit r)
masked_bits true true true = refl
masked_bits true true false = refl
masked_bits true false true = refl
masked_bits true false false = refl
masked_bits false true true = refl
masked_bits false true false = refl
masked_bits false false true = refl
masked_bits false false false = refl

at_bits : (mask a b : ℕ) (p q r : Bool) → mask ≡ bit p → a ≡ bit q → b ≡ bit r → not (bit_xor a mask == bit_xor b mask) ≡ not (a == b)
at_bits mask a b p q r is_p is_q is_r = rw (is_p, is_q, is_r) (masked_bits p q r)

pub masks : (mask a b : ℕ) → mask ≤ 1 → a ≤ 1 → b ≤ 1 → not (bit_xor a mask == bit_xor b mask) ≡ not (a == b)
masks mask a b hm ha hb =
    at_bits mask a b (mask == 1) (a == 1) (b == 1) (bits mask _ refl hm) (bits a _ refl ha) (bits b _ refl hb)

pub kept_bits : (a b : ℕ) → a ≤ 1 → b ≤ 1 → not (a / 2 ^ 0 % 2 == b / 2 ^ 0 % 2) ≡ not (a == b)
kept_bits a b ha hb = grind arith
