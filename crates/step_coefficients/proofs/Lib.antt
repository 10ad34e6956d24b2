pub mod CoefficientLaws
