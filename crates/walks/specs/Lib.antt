-- What the code of the walks asks for beside the definitions below it.
pub mod Read
pub mod Idle
