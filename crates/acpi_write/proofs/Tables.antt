-- The tables of each kind.
pub mod Facts
pub mod Fadts
pub mod Kinds
pub mod Madts
pub mod Pptts
pub mod Slits
pub mod Srats
