mod Gathering
mod InitialRows
mod Numbered
mod RateCounts
mod RateRows
mod Rising
mod Telling
