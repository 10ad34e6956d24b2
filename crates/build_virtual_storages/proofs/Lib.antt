pub mod VirtualStorageLaws
