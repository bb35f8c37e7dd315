pub mod Open
pub mod Before
