-- How the value of a model may hold configurations. No promise is said by this.
pub mod Codes
