pub mod SymbolTexts
pub mod Letters
pub mod FirstFault
pub mod Reads
pub mod Forms
pub mod FormReading
pub mod Words
pub mod FormTexts
