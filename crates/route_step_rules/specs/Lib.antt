pub mod StepRules
