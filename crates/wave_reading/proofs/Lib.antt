-- Reading a wave file, proved.
pub mod Steps
pub mod Inside
pub mod Front
pub mod Examples
