-- Writing a wave file, proved.
pub mod Buffer
