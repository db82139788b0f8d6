mod Carried
pub mod ChangedSegments
mod Differing
mod ListsAgain
mod NumbersAgain
mod OptionsAgain
mod SaidOptions
pub mod SegmentsAgain
mod Short
