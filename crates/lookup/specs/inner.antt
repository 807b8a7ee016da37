pub mod PickedEntry
