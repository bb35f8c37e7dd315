pub mod Buckets
pub mod Numbers
