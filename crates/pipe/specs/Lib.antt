pub mod Cuts
pub mod Extends
pub mod Looks
pub mod Made
pub mod Pairs
pub mod Runs
pub mod SharedLines
pub mod Works
