-- Passes over the entries of a table.
pub mod Collecting
pub mod DifferentKeys
pub mod Filled
pub mod Kept
pub mod OverridesPass
pub mod Passes
pub mod RisingKeys
pub mod TablePass
pub mod TypedPass
pub mod ValuesPass
