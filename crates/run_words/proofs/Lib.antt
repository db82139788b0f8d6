mod Numerals
mod Rules
mod Uses
mod Looks
mod Steps
mod Walks
mod Placing
mod Lookups
