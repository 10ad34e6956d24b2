pub mod ProgrammeNumbers
