pub mod VirtualStorage
pub mod PeriodOf
