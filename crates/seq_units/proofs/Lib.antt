mod MeantPositions
pub mod ReadBack
