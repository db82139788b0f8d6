pub mod Numerals
pub mod Slices
pub mod ReadTurns
pub mod Words
mod SettledKeys
pub mod WrittenText
pub mod LineRanges
pub mod ScriptRanges
pub mod ReadRanges
pub mod WrittenWords
pub mod WrittenLines
pub mod WrittenPlaces
pub mod RoundTrip
