pub mod VaryingLaid
