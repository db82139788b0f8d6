pub mod Spacing
pub mod Numerals
pub mod Walking
pub mod PlainWords
pub mod Lengths
pub mod LogReads
pub mod FirstRefused
pub mod Retelling
pub mod LinesTell
mod GatheredLines
mod Words
