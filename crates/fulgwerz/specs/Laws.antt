-- Laws about what the functions for C answer.
pub mod Made
