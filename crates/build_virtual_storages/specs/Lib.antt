pub mod VirtualStorageRows
