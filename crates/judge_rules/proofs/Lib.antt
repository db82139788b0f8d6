pub mod SameBits
pub mod Skipped
