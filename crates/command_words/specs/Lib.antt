pub mod Reading
pub mod Spelling
pub mod ClapForm
pub mod Numbers
pub mod CommandLines
pub mod Names
