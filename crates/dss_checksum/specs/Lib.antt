pub mod Checksum
pub mod MappingSum
pub mod Laws
