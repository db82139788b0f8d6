pub mod PortsLemmas
pub mod Calls
pub mod Calling
pub mod Loading
mod PartingLemmas
pub mod LogEnds
pub mod Drawing
