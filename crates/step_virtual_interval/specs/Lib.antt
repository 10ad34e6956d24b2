pub mod VirtualInterval
