-- How the value of a model may hold the parts of a state. No promise is said by these.
pub mod Codes
