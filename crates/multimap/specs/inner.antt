pub mod Multimap
