mod Heeding
mod Lines
mod Parts
mod Reading
mod RoundTrip
mod Unique
mod Words
mod Written
