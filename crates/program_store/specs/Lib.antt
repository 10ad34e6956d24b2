pub mod ProgramStore
