pub mod vcd
pub mod verilog
