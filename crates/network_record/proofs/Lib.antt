pub mod RecordLaw
