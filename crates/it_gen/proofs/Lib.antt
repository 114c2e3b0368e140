pub mod SpelledLines
pub mod SpelledForms
pub mod PartTexts
pub mod QuestionSteps
pub mod Lengths
pub mod FileTexts
