pub mod Rational
pub mod OrderedFields
pub mod Laws
