mod Ahead
mod Around
mod Counted
mod Rows
