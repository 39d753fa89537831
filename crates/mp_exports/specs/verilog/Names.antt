-- Names, as Verilog has them.
use Rattle.std.specs.Prelude.{ℕ, Bool, ◌||◌, List, [], ◌∷◌, ◌++◌, codes, if◌then◌else◌}
use Rattle.std.specs.List.{list_any}
use Rattle.std.specs.Str.{bytes_eq}

-- the reserved words of Verilog-2005
unfoldable pub verilog_words : List (List ℕ)
verilog_words =
    codes "always" ∷ codes "and" ∷ codes "assign" ∷ codes "automatic" ∷ codes "begin" ∷ codes "buf" ∷ codes "bufif0" ∷ codes "bufif1" ∷ codes "case" ∷
    codes "casex" ∷ codes "casez" ∷ codes "cell" ∷ codes "cmos" ∷ codes "config" ∷ codes "deassign" ∷ codes "default" ∷ codes "defparam" ∷ codes "design" ∷
    codes "disable" ∷ codes "edge" ∷ codes "else" ∷ codes "end" ∷ codes "endcase" ∷ codes "endconfig" ∷ codes "endfunction" ∷ codes "endgenerate" ∷
    codes "endmodule" ∷ codes "endprimitive" ∷ codes "endspecify" ∷ codes "endtable" ∷ codes "endtask" ∷ codes "event" ∷ codes "for" ∷ codes "force" ∷
    codes "forever" ∷ codes "fork" ∷ codes "function" ∷ codes "generate" ∷ codes "genvar" ∷ codes "highz0" ∷ codes "highz1" ∷ codes "if" ∷ codes "ifnone" ∷
    codes "incdir" ∷ codes "include" ∷ codes "initial" ∷ codes "inout" ∷ codes "input" ∷ codes "instance" ∷ codes "integer" ∷ codes "join" ∷ codes "large" ∷
    codes "liblist" ∷ codes "library" ∷ codes "localparam" ∷ codes "macromodule" ∷ codes "medium" ∷ codes "module" ∷ codes "nand" ∷ codes "negedge" ∷
    codes "nmos" ∷ codes "nor" ∷ codes "noshowcancelled" ∷ codes "not" ∷ codes "notif0" ∷ codes "notif1" ∷ codes "or" ∷ codes "output" ∷ codes "parameter" ∷
    codes "pmos" ∷ codes "posedge" ∷ codes "primitive" ∷ codes "pull0" ∷ codes "pull1" ∷ codes "pulldown" ∷ codes "pullup" ∷ codes "pulsestyle_ondetect" ∷
    codes "pulsestyle_onevent" ∷ codes "rcmos" ∷ codes "real" ∷ codes "realtime" ∷ codes "reg" ∷ codes "release" ∷ codes "repeat" ∷ codes "rnmos" ∷
    codes "rpmos" ∷ codes "rtran" ∷ codes "rtranif0" ∷ codes "rtranif1" ∷ codes "scalared" ∷ codes "showcancelled" ∷ codes "signed" ∷ codes "small" ∷
    codes "specify" ∷ codes "specparam" ∷ codes "strong0" ∷ codes "strong1" ∷ codes "supply0" ∷ codes "supply1" ∷ codes "table" ∷ codes "task" ∷ codes "time" ∷
    codes "tran" ∷ codes "tranif0" ∷ codes "tranif1" ∷ codes "tri" ∷ codes "tri0" ∷ codes "tri1" ∷ codes "triand" ∷ codes "trior" ∷ codes "trireg" ∷
    codes "unsigned" ∷ codes "use" ∷ codes "uwire" ∷ codes "vectored" ∷ codes "wait" ∷ codes "wand" ∷ codes "weak0" ∷ codes "weak1" ∷ codes "while" ∷
    codes "wire" ∷ codes "wor" ∷ codes "xnor" ∷ codes "xor" ∷ []

-- the reserved words of SystemVerilog that Verilog-2005 hasn't
unfoldable pub system_words : List (List ℕ)
system_words =
    codes "accept_on" ∷ codes "alias" ∷ codes "always_comb" ∷ codes "always_ff" ∷ codes "always_latch" ∷ codes "assert" ∷ codes "assume" ∷ codes "before" ∷
    codes "bind" ∷ codes "bins" ∷ codes "binsof" ∷ codes "bit" ∷ codes "break" ∷ codes "byte" ∷ codes "chandle" ∷ codes "checker" ∷ codes "class" ∷
    codes "clocking" ∷ codes "const" ∷ codes "constraint" ∷ codes "context" ∷ codes "continue" ∷ codes "cover" ∷ codes "covergroup" ∷ codes "coverpoint" ∷
    codes "cross" ∷ codes "dist" ∷ codes "do" ∷ codes "endchecker" ∷ codes "endclass" ∷ codes "endclocking" ∷ codes "endgroup" ∷ codes "endinterface" ∷
    codes "endpackage" ∷ codes "endprogram" ∷ codes "endproperty" ∷ codes "endsequence" ∷ codes "enum" ∷ codes "eventually" ∷ codes "expect" ∷ codes "export" ∷
    codes "extends" ∷ codes "extern" ∷ codes "final" ∷ codes "first_match" ∷ codes "foreach" ∷ codes "forkjoin" ∷ codes "global" ∷ codes "iff" ∷
    codes "ignore_bins" ∷ codes "illegal_bins" ∷ codes "implements" ∷ codes "implies" ∷ codes "import" ∷ codes "inside" ∷ codes "int" ∷ codes "interconnect" ∷
    codes "interface" ∷ codes "intersect" ∷ codes "join_any" ∷ codes "join_none" ∷ codes "let" ∷ codes "local" ∷ codes "logic" ∷ codes "longint" ∷
    codes "matches" ∷ codes "modport" ∷ codes "nettype" ∷ codes "new" ∷ codes "nexttime" ∷ codes "null" ∷ codes "package" ∷ codes "packed" ∷ codes "priority" ∷
    codes "program" ∷ codes "property" ∷ codes "protected" ∷ codes "pure" ∷ codes "rand" ∷ codes "randc" ∷ codes "randcase" ∷ codes "randsequence" ∷
    codes "ref" ∷ codes "reject_on" ∷ codes "restrict" ∷ codes "return" ∷ codes "s_always" ∷ codes "s_eventually" ∷ codes "s_nexttime" ∷ codes "s_until" ∷
    codes "s_until_with" ∷ codes "sequence" ∷ codes "shortint" ∷ codes "shortreal" ∷ codes "soft" ∷ codes "solve" ∷ codes "static" ∷ codes "string" ∷
    codes "strong" ∷ codes "struct" ∷ codes "super" ∷ codes "sync_accept_on" ∷ codes "sync_reject_on" ∷ codes "tagged" ∷ codes "this" ∷ codes "throughout" ∷
    codes "timeprecision" ∷ codes "timeunit" ∷ codes "type" ∷ codes "typedef" ∷ codes "union" ∷ codes "unique" ∷ codes "unique0" ∷ codes "until" ∷
    codes "until_with" ∷ codes "untyped" ∷ codes "var" ∷ codes "virtual" ∷ codes "void" ∷ codes "wait_order" ∷ codes "weak" ∷ codes "wildcard" ∷ codes "with" ∷
    codes "within" ∷ []

-- the reserved words that `iverilog` has besides
unfoldable pub iverilog_words : List (List ℕ)
iverilog_words =
    codes "bool" ∷ codes "wone" ∷ codes "wreal" ∷ []

abbrev pub is_one_of : List ℕ → List (List ℕ) → Bool
is_one_of name words = list_any (λ word. bytes_eq word name) words

unfoldable pub is_reserved : List ℕ → Bool
is_reserved name = is_one_of name verilog_words || is_one_of name system_words || is_one_of name iverilog_words

-- a reserved word stands between `\` and a space
abbrev pub identifier : List ℕ → List ℕ
identifier name = if is_reserved name then 92 ∷ (name ++ (32 ∷ [])) else name
