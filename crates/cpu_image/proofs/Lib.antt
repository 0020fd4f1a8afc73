mod Loaded
mod Pages
mod Writes
