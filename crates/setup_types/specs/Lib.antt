pub mod SetupTypes
