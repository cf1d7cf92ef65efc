pub mod Electric
