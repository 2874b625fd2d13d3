pub mod Half
pub mod Reading
