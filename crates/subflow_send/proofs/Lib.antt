pub mod PieceLoops
pub mod RecordLaws
pub mod Whole
pub mod Covering
pub mod ByPosition
pub mod Counting
pub mod AtPosition
