use Rattle.std.proofs.Common.{◌≡◌, true, false, true≢false, ◌==◌, [], length, refl, sym, ap, ◌∙◌}
use Rattle.std.proofs.lemmas.Result.{err_from_is_err_and}
use Rattle.mp_text.specs.lines.Given.{has_line_feed}
use Rattle.mp_text.proofs.lemmas.lines.ReadingLemmas.{begins, ended, goes_on, failed, ended_as, no_bytes, still_open}
use Rattle.mp_text.proofs.lines.reading.read_on.Goals as goal

pub loop-init : goal.loop-init
loop-init g c = (tt, tt, begins _ _ refl refl refl c.clear.ensures refl, c.requires)

pub returns-then-absorb-clause-read : goal.returns-then-absorb-clause-read
returns-then-absorb-clause-read g c =
    let feed : has_line_feed c.loop.chunk.bytes ≡ true = sym c.absorb.ensures.ends ∙ c.if-absorb.true in
    ended _ _ _ c.loop.invariant.2 feed c.absorb.ensures.line c.absorb.ensures.rest refl c.absorb.ensures.last

pub returns-in_err-fill-clause-read : goal.returns-in_err-fill-clause-read
returns-in_err-fill-clause-read g c =
    let none : has_line_feed c.loop.chunk.bytes ≡ false = sym c.absorb.ensures.ends ∙ c.if-absorb.false in
    let p = err_from_is_err_and c.from_residual.result c.from_residual.ensures.1 in
    rw p.1 (failed _ _ _ c.loop.invariant.2 none {error = p.0} c.in_err-fill.ensures.empty c.in_err-fill.ensures.failed (c.in_err-fill.ensures.unended ∙ c.absorb.ensures.last))

pub returns-then-is_empty-clause-read : goal.returns-then-is_empty-clause-read
returns-then-is_empty-clause-read g c =
    let none : has_line_feed c.loop.chunk.bytes ≡ false = sym c.absorb.ensures.ends ∙ c.if-absorb.false in
    let no : (length c.fill.new.self.bytes == 0) ≡ true = sym c.is_empty.ensures ∙ c.if-is_empty.true in
    ended_as _ _ _ c.loop.invariant.2 none (no_bytes c.fill.new.self.bytes no) (c.in_ok-fill.ensures.last ∙ no) c.in_ok-fill.ensures.taken c.absorb.ensures.line
    c.is_empty-then-is_empty.result c.is_empty-then-is_empty.ensures.0 c.is_empty-then-is_empty.ensures.1

pub loop-preserved : goal.loop-preserved
loop-preserved g c =
    let none : has_line_feed c.loop.chunk.bytes ≡ false = sym c.absorb.ensures.ends ∙ c.if-absorb.false in
    let some : (length c.fill.new.self.bytes == 0) ≡ false = sym c.is_empty.ensures ∙ c.if-is_empty.false in
    let goes : c.fill.new.self.is_last ≡ false = c.in_ok-fill.ensures.last ∙ some in
    let none_behind : c.loop.chunk.is_last ≡ true → c.fill.new.self.bytes ≡ [] = λ end. c.in_ok-fill.ensures.none (c.absorb.ensures.last ∙ end) in
    let same : c.fill.new.self.is_last ≡ c.loop.chunk.is_last =
    still_open _ _ goes (λ end. true≢false (sym (ap (λ l. length l == 0) (none_behind end)) ∙ some)) in (
      tt,
      tt,
      goes_on _ _ _ c.loop.invariant.2 none c.absorb.ensures.line c.in_ok-fill.ensures.taken c.in_ok-fill.ensures.faults same none_behind,
      c.in_ok-fill.ensures.end,
    )
