pub mod Faults
pub mod Bytes
pub mod Supply
pub mod Store
pub mod Streams
pub mod Reading
pub mod Buffer
