pub mod CpuTail
pub mod EntryText
pub mod Image
pub mod Tail
pub mod Text
