pub mod Cursors
pub mod Numbers
