pub mod Mpls
