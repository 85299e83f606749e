-- The laws of this crate: utterances, models, questions, what the transcription answers and gives.
pub mod Sequences
pub mod Models
pub mod Questions
pub mod Answering
pub mod Given
