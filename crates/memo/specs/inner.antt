pub mod Memo
