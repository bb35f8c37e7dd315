pub mod Foreign
pub mod Front
