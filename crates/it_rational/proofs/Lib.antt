pub mod Names
pub mod RationalLaws
pub mod Order
pub mod Total
pub mod Ordered
pub mod Field
pub mod Signs
