mod Walking
mod Texts
mod Ending
mod Examples
