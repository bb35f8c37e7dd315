pub mod Rising
pub mod Keys
pub mod Passing
pub mod Tops
pub mod Determined
