pub mod Escapes
pub mod Grammar
pub mod Order
pub mod Placing
pub mod Reading
pub mod Texts
pub mod Words
