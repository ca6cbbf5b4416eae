pub mod Tops
pub mod Inside
