pub mod Ring
pub mod Integers
pub mod IntegerRing
pub mod SignLemmas
pub mod Divisors
pub mod Quotients
pub mod SignedDivisors
