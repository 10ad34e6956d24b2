pub mod ScanLoop
