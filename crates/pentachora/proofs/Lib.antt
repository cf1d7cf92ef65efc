pub mod Sorting
pub mod Fives
pub mod Appearing
pub mod FaceKeys
pub mod Writing
pub mod Refusing
pub mod Making
pub mod Answering
