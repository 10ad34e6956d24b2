pub mod WalkedFile
