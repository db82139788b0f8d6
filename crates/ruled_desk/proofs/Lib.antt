mod Outs
mod Ridden
mod SentOut
mod PassesGiven
mod Gaining
pub mod Pairing
mod WholeRounds
mod Weights
mod RuleWords
mod RuleSteps
mod RuleAdding
mod RuleJoining
mod Entering
mod Putting
mod Members
mod Calling
mod Words
