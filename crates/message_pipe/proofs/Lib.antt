pub mod CallsBelow
pub mod Framed
pub mod LinesAgain
pub mod Longer
pub mod OnePut
pub mod PortsStand
pub mod ReadAgain
pub mod ShownMore
mod Walks
pub mod Whole
