pub mod Table
pub mod Mpls
