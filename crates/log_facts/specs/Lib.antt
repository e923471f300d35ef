pub mod Facts
pub mod Texts
pub mod Names
pub mod Json
pub mod HeapFacts
pub mod HeapTexts
