-- A text is refused by its lines alone.
use Rattle.std.proofs.Common.{◌≡◌, ◌⊎◌, inl, inr, ℕ, ◌+◌, ◌≤◌, Bool, true, false, List, [], ◌∷◌, ◌++◌, length, Result, Ok, Err, refl, sym, ap, subst, ◌∙◌, arith, codes}
use Rattle.std.specs.Prelude.{◌==◌, ◌&&◌, nat_le, if◌then◌else◌}
use Rattle.std.specs.List.{list_all}
use Rattle.std.specs.Result.{result_map_both}
use Rattle.std.proofs.lemmas.List.{append-nil}
use Rattle.mp_records.specs.declared.edit_error.EditError.{EditError}
use Rattle.mp_netlist.specs.declared.format.Format.{Format as NetlistFormat}
use Rattle.mp_netlist.specs.declared.format.Format.TheVariants.{Standard, Large}
use Rattle.mp_netlist.specs.Circuit.{Circuit, empty_circuit}
use Rattle.mp_netlist.specs.Edits.{after_single}
use Rattle.mp_records.specs.declared.single_edit.SingleEdit.{SingleEdit}
use Rattle.mp_text.specs.declared.lexing.line_error.LineError.{LineError}
use Rattle.mp_text.specs.declared.lexing.line_error.LineError.TheVariants.{NotAscii, BadNumber}
use Rattle.mp_text.specs.lexing.Lines.{is_allowed, lines_of}
use Rattle.mp_streams.specs.Numbers.{spelled_number, number_from}
use Rattle.mp_text.specs.lexing.Reads.{◌>>=◌}
use Rattle.mp_text.specs.lexing.Words.{words_of}
use Rattle.mp_text.specs.declared.text_code.TextCode.{TextCode}
use Rattle.mp_text.specs.declared.text_code.TextCode.TheVariants.{Line, NoHorizon, Refused}
use Rattle.mp_text.specs.declared.text_error.TextError.{TextError}
use Rattle.mp_text.specs.declared.text_format.TextFormat.{TextFormat}
use Rattle.mp_text.specs.declared.text_format.TextFormat.TheVariants.{First, Second, Fourth}
use Rattle.mp_text.specs.declared.text_state.TextState.{TextState}
use Rattle.mp_text.specs.declared.text_state.TextState.TheVariants.{Fresh, Formatted, Open}
use Rattle.mp_text.specs.Formats.{format_of, max_horizon_of, netlist_format}
use Rattle.mp_text.specs.Laws.{statements, format_by}
use Rattle.mp_text.specs.Sizes.{text_limit}
use Rattle.mp_text.specs.Texts.{in_text, formatted, text_at, after_lines, after_line, after_statement, next_line, finished}
use Rattle.mp_text.specs.Statements.{Statement, Blank, Unknown, Format, Start, Change, stated_edit, statement_of}
use Rattle.mp_text.proofs.ReplayLemmas.{format_numbered}
use Rattle.mp_text.proofs.TextLemmas.{text_within}
use Rattle.mp_laws.specs.RefusedTexts.{AreRead, LackHorizon, AreRefusedAt, TextsAreRefusedByLines}

-- where the lines lead from a state of the reading
abbrev led : TextState → List (List ℕ) → Result TextState TextCode
led state [] = Ok state
led state (line ∷ lines) = after_line state line >>= λ next. led next lines

-- the reading behind the next line
abbrev behind : ℕ → List (List ℕ) → Result TextState TextCode → Result Circuit TextError
behind n lines read = next_line n (λ after. after_lines (n + 1) after lines) read

lines_behind : (n : ℕ) (state : TextState) (line : List ℕ) (lines : List (List ℕ)) → after_lines n state (line ∷ lines) ≡ behind n lines (after_line state line)
unfolding after_lines
lines_behind n state line lines = refl

lines_done : (n : ℕ) (state : TextState) → after_lines n state [] ≡ finished n state
unfolding after_lines
lines_done n state = refl

-- reading goes on from where the front led
goes_on : (n : ℕ) (state next : TextState) (front lines : List (List ℕ)) → led state front ≡ Ok next → after_lines n state (front ++ lines) ≡ after_lines (n + length front) next lines
goes_on n state next [] lines leads =
    let same : state ≡ next = cc in
    let here : n ≡ n + 0 = omega arith in
    ap (λ state. after_lines n state lines) same ∙ ap (λ n. after_lines n next lines) here
goes_on n state next (line ∷ front) lines leads =
    lines_behind n state line (front ++ lines) ∙ by (after_line state line) (λ mid. goes_on (n + 1) mid next front lines) leads
  where
    by : (read : Result TextState TextCode)
        → ((mid : TextState) → led mid front ≡ Ok next → after_lines (n + 1) mid (front ++ lines) ≡ after_lines (n + 1 + length front) next lines)
        → (read >>= λ mid. led mid front) ≡ Ok next → behind n (front ++ lines) read ≡ after_lines (n + length (line ∷ front)) next lines
    by (Ok mid) later leads =
        let far : n + 1 + length front ≡ n + length (line ∷ front) = omega arith in
        later mid leads ∙ ap (λ n. after_lines n next lines) far
    by (Err code) later leads = cc

-- all lines are read, and the text can't end there
record EndsEarly (n : ℕ) (state : TextState) (lines : List (List ℕ)) (error : TextError) : Type 0 where
  next : TextState
  leads : led state lines ≡ Ok next
  unfinished : finished (n + length lines) next ≡ Err error

-- a line can't be read
record FailsAt (n : ℕ) (state : TextState) (lines : List (List ℕ)) (error : TextError) : Type 0 where
  front : List (List ℕ)
  line : List ℕ
  rest : List (List ℕ)
  next : TextState
  code : TextCode
  parts : lines ≡ front ++ line ∷ rest
  leads : led state front ≡ Ok next
  fails : after_line next line ≡ Err code
  told : error ≡ record { line = n + length front + 1; code = code }

refused_by : (n : ℕ) (state : TextState) (lines : List (List ℕ)) (error : TextError) → after_lines n state lines ≡ Err error
    → EndsEarly n state lines error ⊎ FailsAt n state lines error
refused_by n state [] error refused =
    let here : n + 0 ≡ n = omega arith in
    inl (record { next = state; leads = refl; unfinished = ap (λ n. finished n state) here ∙ sym (lines_done n state) ∙ refused })
refused_by n state (line ∷ lines) error refused =
    by (after_line state line) refl (λ mid. refused_by (n + 1) mid lines error) (sym (lines_behind n state line lines) ∙ refused)
  where
    onto : (mid : TextState) → after_line state line ≡ Ok mid → EndsEarly (n + 1) mid lines error ⊎ FailsAt (n + 1) mid lines error
        → EndsEarly n state (line ∷ lines) error ⊎ FailsAt n state (line ∷ lines) error
    onto mid is (inl ends) =
        let far : n + length (line ∷ lines) ≡ n + 1 + length lines = omega arith in
        inl (record {
          next = ends.next;
          leads = ap (λ read. read >>= λ mid. led mid lines) is ∙ ends.leads;
          unfinished = ap (λ n. finished n ends.next) far ∙ ends.unfinished;
        })
    onto mid is (inr fails) =
        let far : n + 1 + length fails.front + 1 ≡ n + length (line ∷ fails.front) + 1 = omega arith in
        inr (record {
          front = line ∷ fails.front;
          line = fails.line;
          rest = fails.rest;
          next = fails.next;
          code = fails.code;
          parts = ap (λ lines. line ∷ lines) fails.parts;
          leads = ap (λ read. read >>= λ mid. led mid fails.front) is ∙ fails.leads;
          fails = fails.fails;
          told = fails.told ∙ ap (λ at. record { line = at; code = fails.code }) far;
        })

    by : (read : Result TextState TextCode) → after_line state line ≡ read
        → ((mid : TextState) → after_lines (n + 1) mid lines ≡ Err error → EndsEarly (n + 1) mid lines error ⊎ FailsAt (n + 1) mid lines error)
        → behind n lines read ≡ Err error → EndsEarly n state (line ∷ lines) error ⊎ FailsAt n state (line ∷ lines) error
    by (Ok mid) is later refused = onto mid is (later mid refused)
    by (Err code) is later refused =
        let at : n + 1 ≡ n + 0 + 1 = omega arith in
        let same : record { line = n + 1; code = code } ≡ error = cc in
        inr (record {
          front = [];
          line = line;
          rest = lines;
          next = state;
          code = code;
          parts = refl;
          leads = refl;
          fails = is;
          told = sym same ∙ ap (λ at. record { line = at; code = code }) at;
        })

-- a text of these lines, not too long
module _ (text : List ℕ) (lines : List (List ℕ)) (short : length text ≤ text_limit text) (are : lines_of text ≡ lines) where
  of_lines : text_at text ≡ after_lines 0 Fresh lines
  of_lines = text_within text short ∙ ap (after_lines 0 Fresh) are

-- a form and nothing else was stated, or nothing was
abbrev IsUnopened : TextState → Type 0
IsUnopened Fresh = Unit {0}
IsUnopened (Formatted format) = Unit {0}
IsUnopened (Open net) = ⊥

-- the format of the netlist of a text that goes on from there
abbrev format_at : TextState → NetlistFormat
format_at Fresh = Standard
format_at (Formatted form) = netlist_format form
format_at (Open net) = net.format

-- the line `horizon 1` opens the text
opens_at_one : (state : TextState) → IsUnopened state → after_line state (codes "horizon 1") ≡ Ok (Open (empty_circuit (format_at state) 1))
unfolding after_line after_statement statement_of words_of spelled_number number_from
opens_at_one Fresh is = refl
opens_at_one (Formatted First) is = refl
opens_at_one (Formatted Second) is = refl
opens_at_one (Formatted Fourth) is = refl
opens_at_one (Open net) is = absurd is

-- where a line leads whose bytes are allowed
module _ {P : Type 0} (next : TextState) (lines : List (List ℕ)) (state : TextState) (words : List (List ℕ)) where
  by_words : ((after_statement state (statement_of words) >>= λ mid. led mid lines) ≡ Ok next → P) → (allowed : Bool)
      → ((in_text (if allowed then Ok words else Err NotAscii) >>= λ ws. after_statement state (statement_of ws)) >>= λ mid. led mid lines) ≡ Ok next → P
  by_words go true leads = go leads
  by_words go false leads = cc

module _ (next : TextState) (is : IsUnopened next) where
  open_by : (lines : List (List ℕ)) (net : Circuit) → ((m : Circuit) → led (Open m) lines ≡ Ok next → ⊥) → (s : Statement)
      → (after_statement (Open net) s >>= λ mid. led mid lines) ≡ Ok next → ⊥
  unfolding after_statement
  open_by lines net later Blank leads = later net leads
  open_by lines net later Unknown leads = cc
  open_by lines net later (Format number) leads = cc
  open_by lines net later (Start horizon) leads = cc
  open_by lines net later (Change word words) leads = said (stated_edit net.format word words) leads
    where
      said : (read : Result SingleEdit LineError) → ((in_text read >>= λ e. result_map_both Open Refused (after_single net e)) >>= λ mid. led mid lines) ≡ Ok next → ⊥
      said (Err code) leads = cc
      said (Ok edit) leads = by (after_single net edit) leads
        where
          by : (r : Result Circuit EditError) → (result_map_both Open Refused r >>= λ mid. led mid lines) ≡ Ok next → ⊥
          by (Ok m) leads = later m leads
          by (Err error) leads = cc

  -- a netlist that was opened stays open
  stays_open : (lines : List (List ℕ)) (net : Circuit) → led (Open net) lines ≡ Ok next → ⊥
  unfolding after_line
  stays_open [] net leads = let same : Open net ≡ next = cc in subst IsUnopened (sym same) is
  stays_open (line ∷ lines) net leads =
      by_words next lines (Open net) (words_of line) (open_by lines net (stays_open lines) (statement_of (words_of line))) (list_all is_allowed line) leads

  begun_by : (lines : List (List ℕ)) (P : Type 0) (f : NetlistFormat) (h : ℕ) (allowed : Bool) → ((if allowed then Ok (Open (empty_circuit f h)) else Err (Line BadNumber)) >>= λ mid. led mid lines) ≡ Ok next → P
  begun_by lines P f h true leads = absurd (stays_open lines (empty_circuit f h) leads)
  begun_by lines P f h false leads = cc

  formed_by : (lines : List (List ℕ)) (form : TextFormat) → (led (Formatted form) lines ≡ Ok next → format_at next ≡ netlist_format form) → (s : Statement)
      → (after_statement (Formatted form) s >>= λ mid. led mid lines) ≡ Ok next → format_at next ≡ netlist_format form
  unfolding after_statement
  formed_by lines form later Blank leads = later leads
  formed_by lines form later Unknown leads = cc
  formed_by lines form later (Format number) leads = cc
  formed_by lines form later (Start (Ok h)) leads = begun_by lines _ (netlist_format form) h (nat_le 1 h && nat_le h (max_horizon_of form)) leads
  formed_by lines form later (Start (Err code)) leads = cc
  formed_by lines form later (Change word words) leads = cc

  -- a form that was stated stays
  stays_formed : (lines : List (List ℕ)) (form : TextFormat) → led (Formatted form) lines ≡ Ok next → format_at next ≡ netlist_format form
  unfolding after_line
  stays_formed [] form leads = let same : Formatted form ≡ next = cc in ap format_at (sym same)
  stays_formed (line ∷ lines) form leads =
      by_words next lines (Formatted form) (words_of line) (formed_by lines form (stays_formed lines form) (statement_of (words_of line))) (list_all is_allowed line) leads

  fresh_by : (lines : List (List ℕ)) → (led Fresh lines ≡ Ok next → format_at next ≡ format_by (statements lines)) → (s : Statement)
      → (after_statement Fresh s >>= λ mid. led mid lines) ≡ Ok next → format_at next ≡ format_by (s ∷ statements lines)
  unfolding after_statement
  fresh_by lines later Blank leads = later leads
  fresh_by lines later Unknown leads = cc
  fresh_by lines later (Format (Err code)) leads = cc
  fresh_by lines later (Start (Ok h)) leads = begun_by lines _ Standard h (nat_le 1 h && nat_le h (max_horizon_of First)) leads
  fresh_by lines later (Start (Err code)) leads = cc
  fresh_by lines later (Change word words) leads = cc
  fresh_by lines later (Format (Ok number)) leads = by (format_of number) refl leads
    where
      by : (r : Result TextFormat TextCode) → format_of number ≡ r → (formatted r >>= λ mid. led mid lines) ≡ Ok next → format_at next ≡ (if number == 4 then Large else Standard)
      by (Ok form) e leads = stays_formed lines form leads ∙ format_numbered number form e
      by (Err code) e leads = cc

  -- the format of a text without a netlist is the one that its lines state
  format_led : (lines : List (List ℕ)) → led Fresh lines ≡ Ok next → format_at next ≡ format_by (statements lines)
  unfolding after_line
  format_led [] leads = let same : Fresh ≡ next = cc in ap format_at (sym same)
  format_led (line ∷ lines) leads =
      by_words next lines Fresh (words_of line) (fresh_by lines (format_led lines) (statement_of (words_of line))) (list_all is_allowed line) leads

unfinished_at : (n : ℕ) (state : TextState) → IsUnopened state → finished n state ≡ Err (record { line = n; code = NoHorizon })
unfinished_at n Fresh is = refl
unfinished_at n (Formatted format) is = refl
unfinished_at n (Open net) is = absurd is

-- lines that lead to no netlist lack only a horizon
lack_horizon : (lines : List (List ℕ)) (next : TextState) → IsUnopened next → led Fresh lines ≡ Ok next → LackHorizon lines
lack_horizon lines next is leads = record {
  refused = λ text short are. of_lines text lines short are ∙ ended;
  read = λ text short are. of_lines text (lines ++ codes "horizon 1" ∷ []) short are ∙ opened;
}
  where
    all : lines ≡ lines ++ []
    all = sym (append-nil lines)

    ended : after_lines 0 Fresh lines ≡ Err (record { line = length lines; code = NoHorizon })
    ended =
        let far : 0 + length lines ≡ length lines = omega arith in
        ap (after_lines 0 Fresh) all ∙ goes_on 0 Fresh next lines [] leads ∙ ap (λ n. after_lines n next []) far ∙ lines_done (length lines) next ∙ unfinished_at (length lines) next is

    opened : after_lines 0 Fresh (lines ++ codes "horizon 1" ∷ []) ≡ Ok (empty_circuit (format_by (statements lines)) 1)
    opened =
        goes_on 0 Fresh next lines (codes "horizon 1" ∷ []) leads ∙ lines_behind (0 + length lines) next (codes "horizon 1") []
        ∙ ap (behind (0 + length lines) []) (opens_at_one next is) ∙ lines_done (0 + length lines + 1) (Open (empty_circuit (format_at next) 1))
        ∙ ap (λ f. Ok (empty_circuit f 1)) (format_led next is lines leads)

-- lines that lead to a netlist are read
are_read : (lines : List (List ℕ)) (net : Circuit) → led Fresh lines ≡ Ok (Open net) → AreRead lines net
are_read lines net leads text short are =
    of_lines text lines short are ∙ ap (after_lines 0 Fresh) (sym (append-nil lines)) ∙ goes_on 0 Fresh (Open net) lines [] leads ∙ lines_done (0 + length lines) (Open net)

read_or_lacking : (lines : List (List ℕ)) (next : TextState) → led Fresh lines ≡ Ok next → ((n : Circuit) × AreRead lines n) ⊎ LackHorizon lines
read_or_lacking lines Fresh leads = inr (lack_horizon lines Fresh tt leads)
read_or_lacking lines (Formatted format) leads = inr (lack_horizon lines (Formatted format) tt leads)
read_or_lacking lines (Open net) leads = inl (net, are_read lines net leads)

early : (lines : List (List ℕ)) (error : TextError) (next : TextState) → led Fresh lines ≡ Ok next → finished (0 + length lines) next ≡ Err error → LackHorizon lines
early lines error Fresh leads unfinished = lack_horizon lines Fresh tt leads
early lines error (Formatted format) leads unfinished = lack_horizon lines (Formatted format) tt leads
early lines error (Open net) leads unfinished = cc

at_line : (lines : List (List ℕ)) (error : TextError) → FailsAt 0 Fresh lines error → AreRefusedAt lines error
at_line lines error at = record {
  front = at.front;
  line = at.line;
  rest = at.rest;
  parts = at.parts;
  behind = place;
  before = read_or_lacking at.front at.next at.leads;
  alike = λ others text short are. of_lines text (at.front ++ at.line ∷ others) short are ∙ fails others;
}
  where
    place : error.line ≡ length at.front + 1
    place = let same = ap (λ (e : TextError). e.line) at.told in omega (arith, same)

    fails : (others : List (List ℕ)) → after_lines 0 Fresh (at.front ++ at.line ∷ others) ≡ Err error
    fails others =
        goes_on 0 Fresh at.next at.front (at.line ∷ others) at.leads ∙ lines_behind (0 + length at.front) at.next at.line others
        ∙ ap (behind (0 + length at.front) others) at.fails ∙ ap Err (sym at.told)

pub texts_are_refused_by_lines : TextsAreRefusedByLines
texts_are_refused_by_lines text error short refused = by (refused_by 0 Fresh (lines_of text) error (sym (text_within text short) ∙ refused))
  where
    by : EndsEarly 0 Fresh (lines_of text) error ⊎ FailsAt 0 Fresh (lines_of text) error → AreRefusedAt (lines_of text) error ⊎ LackHorizon (lines_of text)
    by (inl ends) = inr (early (lines_of text) error ends.next ends.leads ends.unfinished)
    by (inr fails) = inl (at_line (lines_of text) error fails)
