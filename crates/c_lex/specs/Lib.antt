pub mod Cursors
pub mod Found
pub mod Numbers
pub mod Pieces
pub mod Places
pub mod Tokens
pub mod Utf8
