pub mod Explanations
pub mod Laws
pub mod SeatCodes
pub mod CheckWords
pub mod Subjects
