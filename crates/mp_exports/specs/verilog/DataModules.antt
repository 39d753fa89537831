-- The Verilog module of the kind that holds data.
use Rattle.std.specs.Prelude.{ℕ, List, ◌++◌, codes}

unfoldable pub reg_text : List ℕ
reg_text =
    codes "\n"
    ++ (codes "// REG: cd is c, and pd is p. At first q is INIT.\n"
    ++ (codes "//   c and p | q\n"
    ++ (codes "//   equal   | d\n"
    ++ (codes "//   else    | as it was\n"
    ++ (codes "module mp_reg #(parameter W = 1, INIT = 0, q_delay = 1, q_initial = 0, cd_delay = 1, cd_initial = 0, pd_delay = 1, pd_initial = 0)\n"
    ++ (codes "    (input [W-1:0] d, input c, input p, output reg [W-1:0] q, output reg cd, output reg pd);\n"
    ++ (codes "  reg [W-1:0] now;\n"
    ++ (codes "  initial begin\n"
    ++ (codes "    q = q_initial;\n"
    ++ (codes "    cd = cd_initial;\n"
    ++ (codes "    pd = pd_initial;\n"
    ++ (codes "    now = INIT;\n"
    ++ (codes "    #0 forever begin\n"
    ++ (codes "      if (c == p) now = d;\n"
    ++ (codes "      q <= #q_delay now;\n"
    ++ (codes "      cd <= #cd_delay c;\n"
    ++ (codes "      pd <= #pd_delay p;\n"
    ++ (codes "      @(d or c or p) #0;\n"
    ++ (codes "    end\n"
    ++ (codes "  end\n"
    ++ codes "endmodule\n"))))))))))))))))))))
