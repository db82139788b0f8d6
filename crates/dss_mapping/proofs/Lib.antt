pub mod PlacesOf
pub mod RunsInOrder
pub mod Rising
pub mod Shown
pub mod LawsProved
pub mod Answered
pub mod Placed
