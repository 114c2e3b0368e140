pub mod Views
pub mod Places
pub mod Indexes
pub mod Rows
pub mod Broken
pub mod BrokenValues
pub mod Expansions
pub mod Generators
