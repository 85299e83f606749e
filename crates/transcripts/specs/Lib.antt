-- What the transcription answers, and the laws about it.
pub mod Answers
pub mod Laws
