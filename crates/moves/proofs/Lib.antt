pub mod Seeking
pub mod Digits
pub mod Collecting
pub mod Numbers
pub mod Zeros
pub mod MoveNumbers
pub mod Arriving
pub mod MoveTables
