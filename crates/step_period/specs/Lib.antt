pub mod PeriodAt
