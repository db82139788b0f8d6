mod Words
mod Keeping
