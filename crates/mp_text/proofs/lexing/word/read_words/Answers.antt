use Rattle.mp_text.proofs.lemmas.lexing.Names.{◌≡◌, ◌++◌, refl, ap, ◌∙◌, rules, tests, ℕ, List, Bor, Option, map, Result, Ok, Err, YieldsList-from_slice_split, YieldsList-from_filter, words_of, is_gap, is_word, statement_part, texts, AreAscii, YieldsList-at, OnOk, MatchResult}
use Rattle.std.proofs.lemmas.Iterator.Adapters.{fact_from_extend}
use Rattle.std.specs.Iterator.{Yields, Drains}
use Rattle.std.proofs.lemmas.Iterator.{YieldsList}
use Rattle.std.specs.declared.alloc.AllocError.{AllocError}
use Rattle.mp_text.proofs.lemmas.lexing.WordLemmas.{texts_ascii}
use Rattle.mp_text.proofs.lexing.word.read_words.Goals as goal

-- what a list is extended by, where the road of its items is known
extended : {T A C E Q : Type 0} {steps : T → Option A → T → Type 0} {all : List C} {P : List A → Type 0} {s : T} (v : A → C) (r : Result (Unit {0}) E)
    → ((it : T) × (xs : List A) × (it ≡ s) × P xs × MatchResult r (λ _. Drains steps it xs) (λ _. (t : T) × Yields steps it xs t))
    → YieldsList steps v s all → ((xs : List A) → map v xs ≡ all → P xs → Q) → OnOk r Q
extended v r ran road says = fact_from_extend v r ran (λ it same. YieldsList-at same road) says

-- what was cleared gets the words
pub returns-clause-words : goal.returns-clause-words
unfolding words_of
returns-clause-words c =
    extended (λ (word : Bor (List ℕ)). word.now) c.extend.result c.extend.ensures.ran
    (YieldsList-from_filter _ is_word
    (YieldsList-from_slice_split _ is_gap (statement_part c.args.line.now) (rw c.filter.ensures.source (c.split.ensures.rest ∙ c.before_comment.ensures)) (rw c.filter.ensures.source c.split.ensures.done) refl (λ x b q k. search (rules, tests)))
    c.filter.ensures.closure (λ x b q k. search (rules, tests)))
    (λ items all added. ap texts (added.0 ∙ ap (λ front. front ++ items) c.clear.ensures.items) ∙ all)

pub returns-clause-ascii : goal.returns-clause-ascii
returns-clause-ascii c ascii = by c.extend.result (returns-clause-words c)
  where
    by : (r : Result (Unit {0}) AllocError) → OnOk r (texts c.extend.new.self.items ≡ words_of c.args.line.now) → OnOk r (AreAscii c.extend.new.self.items)
    by (Ok done) same = texts_ascii c.extend.new.self.items c.args.line.now same ascii
    by (Err e) same = tt
