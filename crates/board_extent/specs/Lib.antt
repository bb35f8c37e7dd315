pub mod Extent
