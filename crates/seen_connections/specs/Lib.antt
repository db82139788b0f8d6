pub mod SameEnds
pub mod EndsDecided
pub mod Flows
pub mod SeenOptions
pub mod Keys
pub mod Asked
pub mod Connections
