pub mod Overruns
pub mod Made
