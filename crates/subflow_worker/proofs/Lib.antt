mod Lists
mod Asked
mod Entering
mod Refused
