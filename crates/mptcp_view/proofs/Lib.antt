mod Refusing
mod Answering
mod RoundsGathered
mod LinesTold
mod Words
mod Paged
