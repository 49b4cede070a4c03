mod Newest
mod Keeping
