mod Jobs
mod Steps
mod Texts
