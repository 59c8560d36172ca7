pub mod Numbers
pub mod Forms
pub mod Subcommands
pub mod Rules
