pub mod BegunCells
pub mod Servings
pub mod FirstStartExamples
