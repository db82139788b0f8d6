mod AtPlaces
mod Plain
mod Tags
