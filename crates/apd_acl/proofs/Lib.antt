pub mod Above
mod Keys
