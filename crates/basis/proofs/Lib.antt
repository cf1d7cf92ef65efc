mod Statuses
mod Writing
mod Ends
