pub mod FirstOff
