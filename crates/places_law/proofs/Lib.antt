pub mod Along
pub mod AlongExprs
pub mod AlongStmts
pub mod AlongUnits
pub mod Least
pub mod Places
pub mod Tokens
