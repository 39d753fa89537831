pub mod seats
