pub mod Guests
pub mod Places
pub mod Endings
pub mod OwnSeats
pub mod Stays
pub mod Claims
pub mod Hostings
pub mod Agreement
