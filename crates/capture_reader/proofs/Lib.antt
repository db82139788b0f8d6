mod Walks
mod Tags
mod Extensions
mod Parts
